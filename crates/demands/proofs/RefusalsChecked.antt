-- Tests of a refusal: it is told by its number, place and field, and prepare replies it.
use lib.Dec.{eqb}
use lib.ListN.{get_or, length}
use mathlib.Core.Bool.{cond}
use mathlib.Core.List.{List, [], ◌∷◌}
use mathlib.Core.Logic.{inl, inr, ◌⊎◌}
use mathlib.Core.Path.{ap, ap₂, refl, sym, ◌∙◌, ◌≡◌}
use native.Mathlib.Omega.{arith}
use Prim.Native.Nat.{◌<◌, ◌^◌, ℕ, ◌≤◌}
use Rattle.demands.proofs.Checking.{Check, at_most, both, by, each, either, equal, less}
use Rattle.plates.specs.Code.{InCode}
use Rattle.plates.specs.declared.Kind.{Kind}
use Rattle.plates.specs.declared.Refusal.{Refusal}
use Rattle.plates.specs.declared.Refusal.TheVariants.{AlistFault, BadSetting, BranchFault, BranchTwice, DecisionRoom, FieldCount, FieldValue, FirstField}
use Rattle.plates.specs.declared.Refusal.TheVariants.{InformationBeyond, InputTooLong, Length, LineRoom, MaskBeyond, MetricRoom, NoCodeword, NoSuchBranch}
use Rattle.plates.specs.declared.Refusal.TheVariants.{NotANumber, NotPrepared, PositionBeyond, RowBeyond, RowField, SampleCount, SampleRange, SheetLine}
use Rattle.plates.specs.declared.Refusal.TheVariants.{TooManyLines, TooManyRows, TooWide, WholeSpace}
use Rattle.plates.specs.Prepare.{Prepares, RowOver, Wide, bad_length, mask_beyond}
use Rattle.plates.specs.Refusals.{Refuses, field, number, place}
use Rattle.plates.specs.Replying.{refused_with}

-- the refusal of a number, place and field
abbrev pub refusal_of : ℕ → ℕ → ℕ → Refusal
refusal_of i p f =
    cond (eqb i 1) Length
    (cond (eqb i 2) TooManyRows
    (cond (eqb i 3) (RowBeyond p)
    (cond (eqb i 4) (TooWide p)
    (cond (eqb i 5) NotPrepared
    (cond (eqb i 6) SampleCount
    (cond (eqb i 7) (SampleRange p)
    (cond (eqb i 8) MetricRoom
    (cond (eqb i 9) DecisionRoom
    (cond (eqb i 10) (SheetLine p)
    (cond (eqb i 11) LineRoom
    (cond (eqb i 12) NoSuchBranch
    (cond (eqb i 13) InformationBeyond
    (cond (eqb i 14) NoCodeword
    (cond (eqb i 15) InputTooLong
    (cond (eqb i 16) (AlistFault p)
    (cond (eqb i 17) (FirstField p)
    (cond (eqb i 18) (FieldCount p f)
    (cond (eqb i 19) (FieldValue p f)
    (cond (eqb i 20) (RowField p f)
    (cond (eqb i 21) PositionBeyond
    (cond (eqb i 22) WholeSpace
    (cond (eqb i 23) MaskBeyond
    (cond (eqb i 24) BadSetting
    (cond (eqb i 25) (NotANumber p) (cond (eqb i 26) (BranchFault p) (cond (eqb i 27) (BranchTwice p) TooManyLines))))))))))))))))))))))))))

-- a refusal is told by its number, place and field
pub told : (q : Refusal) → refusal_of (number q) (place q) (field q) ≡ q
told Length = refl
told TooManyRows = refl
told (RowBeyond row) = refl
told (TooWide depth) = refl
told NotPrepared = refl
told SampleCount = refl
told (SampleRange position) = refl
told MetricRoom = refl
told DecisionRoom = refl
told (SheetLine line) = refl
told LineRoom = refl
told NoSuchBranch = refl
told InformationBeyond = refl
told NoCodeword = refl
told InputTooLong = refl
told (AlistFault line) = refl
told (FirstField line) = refl
told (FieldCount line at) = refl
told (FieldValue line at) = refl
told (RowField line at) = refl
told PositionBeyond = refl
told WholeSpace = refl
told MaskBeyond = refl
told BadSetting = refl
told (NotANumber position) = refl
told (BranchFault line) = refl
told (BranchTwice line) = refl
told TooManyLines = refl

-- so two of one number, place and field are the same
pub same-refusal : (p q : Refusal) → (number p ≡ number q) × ((place p ≡ place q) × (field p ≡ field q)) → p ≡ q
same-refusal p q e =
    sym (told p) ∙ ap₂ (λ (i : ℕ) (x : ℕ). refusal_of i x (field p)) e.0 e.1.0 ∙ ap (refusal_of (number q) (place q)) e.1.1 ∙ told q

-- the test of that
abbrev pub refusal : (p q : Refusal) → Check (p ≡ q)
refusal p q = by (same-refusal p q) (both (equal (number p) (number q)) (both (equal (place p) (place q)) (equal (field p) (field q))))

-- ---- prepare refuses: 1, 3 or 23

-- the row at the place is the first that is over
abbrev pub row_over : (n : ℕ) (rows : List ℕ) (q : Refusal) → Check (RowOver n rows q)
row_over n rows q =
    by (λ p. record { row = place q; there = p.0; over = p.1.0; first = p.1.1.0; is = p.1.1.1 })
    (both (less (place q) (length rows))
    (both (at_most (2 ^ n) (get_or rows (place q) 0)) (both (each (place q) (λ j. less (get_or rows j 0) (2 ^ n))) (refusal q (RowBeyond (place q))))))

module _ (n : ℕ) (kind : Kind) (rows : List ℕ) (mask : ℕ) (q : Refusal) where
  -- a bad length; or a good one, not too many rows, and one that is over, or none and a mask that is
  abbrev pub Refusable : Type 0
  Refusable =
      bad_length n q
      ⊎ (((1 ≤ n) × (n ≤ 64)) × ((length rows ≤ 64) × (RowOver n rows q ⊎ (((j : ℕ) → j < length rows → get_or rows j 0 < 2 ^ n) × mask_beyond n mask q))))

  pub prepare-refused : Refusable → Prepares n kind rows mask (refused_with q)
  prepare-refused (inl b) = record { reply = (inl b, refl) }
  prepare-refused (inr p) = record { reply = (inr ((λ x b. good b.0), inr ((λ x b. omega (arith, b.0, p.1.0)), late p.1.1)), refl) }
    where
      good : (n ≡ 0) ⊎ (64 < n) → ⊥
      good (inl e) = omega (arith, e, p.0.0)
      good (inr h) = omega (arith, h, p.0.1)

      late : RowOver n rows q ⊎ (((j : ℕ) → j < length rows → get_or rows j 0 < 2 ^ n) × mask_beyond n mask q)
          → Refuses (RowOver n rows ∷ mask_beyond n mask ∷ Wide (InCode kind n rows) n ∷ []) q
      late (inl o) = inl o
      late (inr o) = inr ((λ x b. omega (arith, b.over, o.0 b.row b.there)), inl o.1)

  -- the test of that
  abbrev pub refused : Check (Prepares n kind rows mask (refused_with q))
  refused =
      by prepare-refused (either (both (either (equal n 0) (less 64 n)) (refusal q Length))
      (both (both (at_most 1 n) (at_most n 64))
      (both (at_most (length rows) 64)
      (either (row_over n rows q)
      (both (each (length rows) (λ j. less (get_or rows j 0) (2 ^ n))) (both (at_most (2 ^ n) mask) (refusal q MaskBeyond)))))))
