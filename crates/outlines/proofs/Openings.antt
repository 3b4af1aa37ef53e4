-- The plate of an input, by what was read of its sheet.
use Rattle.std.proofs.Common.{Result, Ok, Err}
use lib.ListN.{length, replicate, take}
use mathlib.Core.List.{List}
use mathlib.Core.Path.{◌≡◌, ap, refl, subst, sym, ◌∙◌}
use native.Mathlib.Omega.{arith}
use Prim.Native.Nat.{ℕ, ◌≤◌}
use Rattle.outlines.specs.declared.opening.Which.{Which}
use Rattle.outlines.specs.Opening.{Opened, OpenedAs, kind_as, mask_as}
use Rattle.plates.specs.declared.Kind.{Kind}
use Rattle.plates.specs.declared.Prepared.{Prepared}
use Rattle.plates.specs.declared.Refusal.{Refusal}
use Rattle.plates.specs.Prepare.{Prepares}
use Rattle.plates.specs.Replying.{refused_with}
use Rattle.sheets.proofs.Laying.{laid-front, laid-size}
use Rattle.sheets.proofs.Ranges.{sheet-in-range}
use Rattle.sheets.specs.declared.Sheet.{Sheet}
use Rattle.sheets.specs.Sheet.{Reading, ReadsSheet, reading, refused, says, sheet_at, sheet_reply, start_of, table_after}

-- the table before reading
abbrev zeros : List ℕ
zeros = replicate 64 0

-- preparing, with what it was given by other names
pub prepared-as : {n mask mask' : ℕ} {kind kind' : Kind} {rows : List ℕ} {r : Prepared} → kind ≡ kind' → mask ≡ mask' → Prepares n kind rows mask r
    → Prepares n kind' rows mask' r
prepared-as e f p = rw (← e, ← f) p

pub no-sheet : {A : Type 0} {q : Refusal} {sheet : Sheet} → ◌≡◌ {A = Result Sheet Refusal} (Ok sheet) (Err q) → A
no-sheet e = let z : ◌≡◌ {A = ℕ} 0 1 = cc in absurd (omega arith)

module _ {input table : List ℕ} {reply : Result Sheet Refusal} (s : ReadsSheet input zeros reply table) where
  -- a sheet was read: its rows are within the table
  pub rows-within : {sheet : Sheet} → reply ≡ Ok sheet → sheet.rows ≤ length table
  rows-within {sheet} e = by (reading input) refl (sym e ∙ s.reply) s.rows
    where
      by : (found : Reading) → reading input ≡ found → Ok sheet ≡ sheet_reply input found → table ≡ table_after zeros found → sheet.rows ≤ length table
      by (says c) f r t =
          let k : sheet.rows ≡ length c.rows = cc in
          rw (t, laid-size c.rows zeros) (omega (arith, (sheet-in-range input c f).few))
      by (refused q) f r t = no-sheet r

  -- and its matrix was prepared
  pub opened-sheet : {which : Which} {sheet : Sheet} {r : Prepared} → reply ≡ Ok sheet
      → Prepares sheet.n (kind_as which sheet.kind) (take sheet.rows table) (mask_as which sheet.mask) r → Opened which input r
  opened-sheet {which} {sheet} {r} e p = record { is = by (reading input) refl (sym e ∙ s.reply) s.rows }
    where
      by : (found : Reading) → reading input ≡ found → Ok sheet ≡ sheet_reply input found → table ≡ table_after zeros found → OpenedAs which found r
      by (says c) f rd t =
          let g : sheet ≡ sheet_at (start_of input c) c = cc in
          subst (λ (rows : List ℕ). Prepares c.n (kind_as which c.kind) rows (mask_as which c.mask) r)
          (laid-front c.rows zeros (omega (arith, (sheet-in-range input c f).few))) (rw (g, t) at p)
      by (refused q) f rd t = no-sheet rd

  -- the input was refused
  pub opened-refused : {which : Which} {q : Refusal} {r : Prepared} → reply ≡ Err q → r ≡ refused_with q → Opened which input r
  opened-refused {which} {q} {r} e f = record { is = by (reading input) (sym e ∙ s.reply) }
    where
      by : (found : Reading) → Err q ≡ sheet_reply input found → OpenedAs which found r
      by (says c) rd = no-sheet (sym rd)
      by (refused p) rd = let g : q ≡ p = cc in f ∙ ap refused_with g
