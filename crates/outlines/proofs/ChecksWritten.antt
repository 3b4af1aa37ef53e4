-- The parity checks of an input written as alist text, by what was read of its sheet and what preparing its dual replied.
use Rattle.std.proofs.Common.{Result, Ok, Err}
use lib.ListN.{length, replicate, take}
use lib.Seq.{length-take-le}
use mathlib.Core.List.{List}
use mathlib.Core.Path.{◌≡◌, ap, refl, subst, sym, ◌∙◌}
use native.Mathlib.Omega.{arith}
use Prim.Native.Nat.{ℕ, ◌≤◌}
use Rattle.alists.specs.Calls.{WritesAlist}
use Rattle.outlines.proofs.Openings.{no-sheet}
use Rattle.outlines.specs.AlistText.{WritesAlistAs, WritesAlistOf, WritesChecks, WritesChecksBy, checks_of}
use Rattle.outlines.specs.declared.opening.Which.TheVariants.{Dual}
use Rattle.outlines.specs.Opening.{kind_as}
use Rattle.plates.specs.declared.Kind.{Kind}
use Rattle.plates.specs.declared.Kind.TheVariants.{G, H}
use Rattle.plates.specs.declared.Prepared.{Prepared}
use Rattle.plates.specs.declared.Refusal.{Refusal}
use Rattle.plates.specs.Prepare.{IsPrepared, Prepares, rows_of}
use Rattle.sheets.proofs.Laying.{laid-front}
use Rattle.sheets.proofs.Ranges.{sheet-in-range}
use Rattle.sheets.specs.declared.Sheet.{Sheet}
use Rattle.sheets.specs.Sheet.{Reading, ReadsSheet, reading, refused, says, sheet_at, sheet_reply, start_of, table_after}
use Rattle.trellises.proofs.AcceptedIsPrepared.{accepted-length, accepted-prepared}

-- ---- the checks of a matrix

-- of a generator's they are the rows of the dual
pub checks-of-generator : (rows : List ℕ) {n : ℕ} {kind : Kind} {dual room room' : List ℕ} {r : Result ℕ Refusal} → kind ≡ G → WritesAlist n dual room r room'
    → WritesAlist n (checks_of kind rows dual) room r room'
checks-of-generator rows {n} {kind} {dual} {room} {room'} {r} e w = subst (λ (k : Kind). WritesAlist n (checks_of k rows dual) room r room') (sym e) w

-- else its own
pub checks-of-checks : (dual : List ℕ) {n : ℕ} {kind : Kind} {rows room room' : List ℕ} {r : Result ℕ Refusal} → kind ≡ H → WritesAlist n rows room r room'
    → WritesAlist n (checks_of kind rows dual) room r room'
checks-of-checks dual {n} {kind} {rows} {room} {room'} {r} e w = subst (λ (k : Kind). WritesAlist n (checks_of k rows dual) room r room') (sym e) w

-- the rows of a table that are in use
pub rows-counted : {count : ℕ} (table : List ℕ) → count ≤ length table → count ≡ length (take count table)
rows-counted {count} table h = sym (length-take-le count table h)

pub plate-prepared : {n mask : ℕ} {kind : Kind} {rows : List ℕ} {r : Prepared} → Prepares n kind rows mask r → r.verdict ≡ Ok tt
    → IsPrepared r.plate
plate-prepared {n} {mask} {kind} {rows} {r} p e = accepted-prepared n kind rows mask r p e

-- ---- a matrix

module _ {n : ℕ} {kind : Kind} {rows : List ℕ} {dual : Prepared} (p : Prepares n (kind_as Dual kind) rows 0 dual) {room : List ℕ} where
  pub checks-refused : {q : Refusal} → dual.verdict ≡ Err q → WritesChecks n kind rows room (Err q) room
  checks-refused {q} e = record {
    dual = dual;
    prepares = p;
    is = subst (λ (v : Result (Unit {0}) Refusal). WritesChecksBy v n (checks_of kind rows (rows_of dual.plate)) room (Err q) room) (sym e) (refl, refl);
  }

  pub checks-given : {r : Result ℕ Refusal} {room' : List ℕ} → dual.verdict ≡ Ok tt
      → WritesAlist dual.plate.n (checks_of kind rows (rows_of dual.plate)) room r room' → WritesChecks n kind rows room r room'
  checks-given {r} {room'} e w =
      let checks = checks_of kind rows (rows_of dual.plate) in
      let l = accepted-length n (kind_as Dual kind) rows 0 dual p e in record {
        dual = dual;
        prepares = p;
        is = subst (λ (v : Result (Unit {0}) Refusal). WritesChecksBy v n checks room r room') (sym e) (subst (λ (m : ℕ). WritesAlist m checks room r room') l w);
      }

-- ---- an input

-- the table before reading
abbrev zeros : List ℕ
zeros = replicate 64 0

module _ {input table : List ℕ} {reply : Result Sheet Refusal} (s : ReadsSheet input zeros reply table) {room : List ℕ} where
  pub alist-refused : {q : Refusal} → reply ≡ Err q → WritesAlistOf input room (Err q) room
  alist-refused {q} e = record { is = by (reading input) (sym e ∙ s.reply) }
    where
      by : (found : Reading) → Err q ≡ sheet_reply input found → WritesAlistAs found room (Err q) room
      by (says c) rd = no-sheet (sym rd)
      by (refused p) rd = let g : q ≡ p = cc in (ap Err g, refl)

  pub alist-given : {sheet : Sheet} {r : Result ℕ Refusal} {room' : List ℕ} → reply ≡ Ok sheet
      → WritesChecks sheet.n sheet.kind (take sheet.rows table) room r room' → WritesAlistOf input room r room'
  alist-given {sheet} {r} {room'} e w = record { is = by (reading input) refl (sym e ∙ s.reply) s.rows }
    where
      by : (found : Reading) → reading input ≡ found → Ok sheet ≡ sheet_reply input found → table ≡ table_after zeros found
          → WritesAlistAs found room r room'
      by (says c) f rd t =
          let g : sheet ≡ sheet_at (start_of input c) c = cc in
          subst (λ (rows : List ℕ). WritesChecks c.n c.kind rows room r room')
          (laid-front c.rows zeros (omega (arith, (sheet-in-range input c f).few))) (rw (g, t) at w)
      by (refused q) f rd t = no-sheet rd
