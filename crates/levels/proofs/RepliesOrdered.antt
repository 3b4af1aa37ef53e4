-- What the two calls reply, value by value: order and negation, of single samples and of heard positions of blocks.
use Rattle.std.proofs.Common.{Ok}
use Prim.Native.Nat.{ℕ, ◌<◌}
use lib.Dec.{T}
use lib.Ieee.{Float, binary32, fits, is_nan, le, nan, neg}
use lib.IntN.{ℤ, neg_ℤ, pos, ℤ_discrete}
use lib.ListN.{get_or}
use lib.Signed.{◌≤ℤ◌}
use mathlib.Core.List.{List}
use mathlib.Core.Path.{◌≡◌, ap, refl, subst}
use Rattle.levels.proofs.BlockLevels.{heard-level}
use Rattle.levels.proofs.LevelsDetermined.{passed-number}
use Rattle.levels.proofs.LevelsOrdered.{greater-value-no-lower-level, negated}
use Rattle.levels.specs.declared.Sample.TheVariants.{Heard}
use Rattle.levels.specs.declared.Setting.{Setting}
use Rattle.levels.specs.Choosing.{LevelOf, sample_of}
use Rattle.levels.specs.Giving.{GivesLevel, GivesLevels, Good}
use Rattle.levels.specs.Testing.{IsNumber}
use Rattle.plates.specs.declared.Refusal.TheVariants.{BadSetting, NotANumber}
use Rattle.words.specs.Word.{bit}

-- two levels that are each other's negation under a setting that is permitted are so where it is not denied to be
negated-levels : (setting : Setting) → ((Good setting → ⊥) → ⊥) → T (fits binary32 setting.step) → (v : Float) (y z : ℤ) → (T (is_nan v) → ⊥)
    → LevelOf setting v y → LevelOf setting (neg v) z → z ≡ neg_ℤ y
negated-levels setting g f v y z n a b = go (ℤ_discrete z (neg_ℤ y))
  where
    go : Dec (z ≡ neg_ℤ y) → z ≡ neg_ℤ y
    go (yes e) = e
    go (no d) = absurd (g (λ good. d (negated setting good f v y z n a b)))

-- ---- `level_of`

module _ (setting : Setting) (v w : Float) (y z : ℤ) where
  pub level-replies-ordered : T (le v w) → GivesLevel setting (Heard v) (Ok y) → GivesLevel setting (Heard w) (Ok z) → y ≤ℤ z
  level-replies-ordered h a b = greater-value-no-lower-level setting v w y z h a.1 b.1

  pub level-replies-negated : T (fits binary32 setting.step) → w ≡ neg v → GivesLevel setting (Heard v) (Ok y) → GivesLevel setting (Heard w) (Ok z) → z ≡ neg_ℤ y
  level-replies-negated f e a b =
      negated-levels setting (λ g. a.0.0 BadSetting (g, refl)) f v y z (λ t. a.0.1.0 (NotANumber 0) (t, refl)) a.1
      (subst (λ (x : Float). LevelOf setting x z) e b.1)

-- ---- `levels_of`: a heard position of a block, and one of the same or of another block under the same setting

module _ (setting : Setting) (n m : ℕ) (values others : List Float) (erased gone : ℕ) (room room' place place' : List ℤ)
    (one : GivesLevels n setting values erased room room' (Ok tt)) (two : GivesLevels m setting others gone place place' (Ok tt))
    (i j : ℕ) (i-in : i < n) (j-in : j < m) (i-heard : bit erased i ≡ 0) (j-heard : bit gone j ≡ 0) where
  at_i : LevelOf setting (get_or values i nan) (get_or room' i (pos 0))
  at_i = heard-level n setting values erased room room' one i i-in i-heard

  at_j : LevelOf setting (get_or others j nan) (get_or place' j (pos 0))
  at_j = heard-level m setting others gone place place' two j j-in j-heard

  pub block-levels-ordered : T (le (get_or values i nan) (get_or others j nan)) → get_or room' i (pos 0) ≤ℤ get_or place' j (pos 0)
  block-levels-ordered h = greater-value-no-lower-level setting (get_or values i nan) (get_or others j nan) (get_or room' i (pos 0)) (get_or place' j (pos 0)) h at_i at_j

  pub block-levels-negated : T (fits binary32 setting.step) → get_or others j nan ≡ neg (get_or values i nan) → get_or place' j (pos 0) ≡ neg_ℤ (get_or room' i (pos 0))
  block-levels-negated f e =
      negated-levels setting (λ g. one.0.1.0 BadSetting (g, refl)) f (get_or values i nan) (get_or room' i (pos 0)) (get_or place' j (pos 0))
      (subst IsNumber (ap (sample_of (get_or values i nan)) i-heard) (passed-number n setting values erased room one.0 i i-in)) at_i
      (subst (λ (x : Float). LevelOf setting x (get_or place' j (pos 0))) e at_j)
