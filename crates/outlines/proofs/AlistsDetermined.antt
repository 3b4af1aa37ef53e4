-- Determined: two replies with the rooms after them that meet the promise of `write_alist`, or of `write_from_alist`, are equal.
use Rattle.std.proofs.Common.{Result, Ok, Err}
use Rattle.plates.specs.declared.Refusal.{Refusal}
use mathlib.Core.List.{List}
use mathlib.Core.Path.{subst, sym, ◌∙◌}
use Prim.Native.Nat.{ℕ}
use Rattle.alists.proofs.Determined.{write-determined}
use Rattle.listings.proofs.Determined.{Same}
use Rattle.outlines.proofs.Determined.{by-determined}
use Rattle.outlines.specs.AlistText.{Given, checks_of, checks_sheet, given, matrix_in, not_given}
use Rattle.outlines.specs.AlistText.{WritesAlistAs, WritesAlistOf, WritesChecks, WritesChecksBy, WritesFromAlist, WritesGiven}
use Rattle.outlines.specs.declared.opening.Which.TheVariants.{Dual}
use Rattle.outlines.specs.Opening.{kind_as}
use Rattle.plates.proofs.PrepareDetermined.{prepare-determined}
use Rattle.plates.specs.declared.Kind.{Kind}
use Rattle.plates.specs.declared.Prepared.{Prepared}
use Rattle.plates.specs.Prepare.{rows_of}
use Rattle.sheets.specs.Sheet.{Reading, reading, refused, says}

-- ---- write_alist

by-verdict : (v : Result (Unit {0}) Refusal) (n : ℕ) (checks room : List ℕ) {r s : Result ℕ Refusal} {a b : List ℕ} → WritesChecksBy v n checks room r a
    → WritesChecksBy v n checks room s b → Same r s a b
by-verdict (Err q) n checks room x y = (x.0 ∙ sym y.0, x.1 ∙ sym y.1)
by-verdict (Ok _) n checks room x y = write-determined n checks room x y

checks-determined : (n : ℕ) (kind : Kind) (rows room : List ℕ) {r s : Result ℕ Refusal} {a b : List ℕ} → WritesChecks n kind rows room r a
    → WritesChecks n kind rows room s b → Same r s a b
checks-determined n kind rows room {r} {s} {a} {b} x y =
    let e = prepare-determined n (kind_as Dual kind) rows 0 x.dual y.dual x.prepares y.prepares in
    by-verdict y.dual.verdict n (checks_of kind rows (rows_of y.dual.plate)) room
    (subst (λ (p : Prepared). WritesChecksBy p.verdict n (checks_of kind rows (rows_of p.plate)) room r a) e x.is) y.is

pub write-alist-determined : (input room : List ℕ) {r s : Result ℕ Refusal} {a b : List ℕ} → WritesAlistOf input room r a → WritesAlistOf input room s b → Same r s a b
write-alist-determined input room {r} {s} {a} {b} x y = by (reading input) x.is y.is
  where
    by : (found : Reading) → WritesAlistAs found room r a → WritesAlistAs found room s b → Same r s a b
    by (refused q) u v = (u.0 ∙ sym v.0, u.1 ∙ sym v.1)
    by (says c) u v = checks-determined c.n c.kind c.rows room u v

-- ---- write_from_alist

pub write-from-alist-determined : (input room : List ℕ) {r s : Result ℕ Refusal} {a b : List ℕ} → WritesFromAlist input room r a → WritesFromAlist input room s b
    → Same r s a b
write-from-alist-determined input room {r} {s} {a} {b} x y = by (matrix_in input) x.is y.is
  where
    by : (found : Given) → WritesGiven found room r a → WritesGiven found room s b → Same r s a b
    by (not_given q) u v = (u.0 ∙ sym v.0, u.1 ∙ sym v.1)
    by (given n rows) u v = by-determined (Ok tt) (checks_sheet n rows) room u v
