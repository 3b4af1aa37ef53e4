-- Determined: two replies that meet the promise of `level_of`, or of `levels_of` with its room, are equal.
use Rattle.std.proofs.Common.{Result, Ok, Err}
use Prim.Native.Nat.{ℕ, zero, suc, ◌<◌}
use lib.Dec.{T}
use lib.Ieee.{Float, is_nan, le, lt, neg}
use lib.IntN.{ℤ, pos, neg_ℤ}
use lib.ListN.{get_or, length}
use lib.Seq.{ext_get_or}
use mathlib.Core.Bool.{Bool, true, false}
use mathlib.Core.List.{List}
use mathlib.Core.Logic.{inl, inr, ◌⊎◌}
use mathlib.Core.Path.{◌≡◌, ap, refl, subst, sym, ◌∙◌}
use native.Mathlib.Omega.{arith}
use Rattle.levels.proofs.BlockLevels.{values-n}
use Rattle.levels.proofs.FloatOrder.{not_negative}
use Rattle.levels.specs.declared.Sample.{Sample}
use Rattle.levels.specs.declared.Sample.TheVariants.{Erased, Heard}
use Rattle.levels.specs.declared.Setting.{Setting}
use Rattle.levels.specs.Choosing.{Largest, LevelOf, LevelOfSample, nought, sample_at}
use Rattle.levels.specs.Giving.{GivesLevel, GivesLevels, NoNumberAt, block_conditions, sample_conditions}
use Rattle.levels.specs.Testing.{IsNumber}
use Rattle.plates.proofs.Refusing.{Single, never_both, refuses-once}
use Rattle.plates.specs.declared.Refusal.{Refusal}
use Rattle.plates.specs.declared.Refusal.TheVariants.{NotANumber}
use Rattle.plates.specs.Refusals.{Passes}
use Rattle.words.proofs.Span.{lt-tri}

-- ---- one level

module _ (setting : Setting) where
  -- by trichotomy: the lower of two would not be the largest
  pub largest-once : (value : Float) (i j : ℕ) → Largest setting value i → Largest setting value j → i ≡ j
  largest-once value i j a b = go (lt-tri i j)
    where
      go : (i < j) ⊎ ((i ≡ j) ⊎ (j < i)) → i ≡ j
      go (inl l) = absurd (a.largest j l b.within b.reached)
      go (inr (inl e)) = e
      go (inr (inr l)) = absurd (b.largest i l a.within a.reached)

  -- one sign holds of a number, and its largest level is one
  pub level-once : (value : Float) (y z : ℤ) → (T (is_nan value) → ⊥) → LevelOf setting value y → LevelOf setting value z → y ≡ z
  level-once value y z n a b = go (lt value nought) refl
    where
      go : (t : Bool) → lt value nought ≡ t → y ≡ z
      go true e =
          let h : T (lt value nought) = subst T (sym e) tt in
          (a.negative h).1 ∙ ap (λ (k : ℕ). neg_ℤ (pos k)) (largest-once (neg value) a.size b.size (a.negative h).0 (b.negative h).0) ∙ sym (b.negative h).1
      go false e =
          let h : T (le nought value) = not_negative value n e in
          (a.zero_or_more h).1 ∙ ap pos (largest-once value a.size b.size (a.zero_or_more h).0 (b.zero_or_more h).0) ∙ sym (b.zero_or_more h).1

  -- of a heard sample that is a number, or an erased one
  pub sample-once : (sample : Sample) (y z : ℤ) → IsNumber sample → LevelOfSample setting sample y → LevelOfSample setting sample z → y ≡ z
  sample-once (Heard value) y z n a b = level-once value y z n a b
  sample-once Erased y z n a b = a ∙ sym b

-- ---- a single sample

module _ (setting : Setting) (sample : Sample) where
  -- each condition gives one refusal
  sample-single : Single (sample_conditions setting sample)
  sample-single = ((λ p q x y. x.1 ∙ sym y.1), ((λ p q x y. x.1 ∙ sym y.1), tt))

  -- the replies of `level_of`
  pub level-determined : (r s : Result ℤ Refusal) → GivesLevel setting sample r → GivesLevel setting sample s → r ≡ s
  level-determined (Ok y) (Ok z) a b = ap Ok (sample-once setting sample y z (λ n. a.0.1.0 (NotANumber 0) (n, refl)) a.1 b.1)
  level-determined (Ok y) (Err q) a b = absurd (never_both (sample_conditions setting sample) a.0 q b)
  level-determined (Err p) (Ok z) a b = absurd (never_both (sample_conditions setting sample) b.0 p a)
  level-determined (Err p) (Err q) a b = ap Err (refuses-once (sample_conditions setting sample) sample-single p q a b)

-- ---- a block

module _ (n : ℕ) (setting : Setting) (values : List Float) (erased : ℕ) (room : List ℤ) where
  -- the first position that is not a number is one
  place-once : (p q : Refusal) → NoNumberAt n values erased p → NoNumberAt n values erased q → p ≡ q
  place-once p q a b = a.is ∙ ap NotANumber (go (lt-tri a.position b.position)) ∙ sym b.is
    where
      go : (a.position < b.position) ⊎ ((a.position ≡ b.position) ⊎ (b.position < a.position)) → a.position ≡ b.position
      go (inl l) = absurd (b.first a.position l a.here)
      go (inr (inl e)) = e
      go (inr (inr l)) = absurd (a.first b.position l b.here)

  -- each condition gives one refusal
  block-single : Single (block_conditions n setting values erased room)
  block-single = (
    (λ p q x y. x.1 ∙ sym y.1),
    ((λ p q x y. x.1 ∙ sym y.1), ((λ p q x y. x.1 ∙ sym y.1), (place-once, tt))),
  )

  -- where the conditions pass, every sample of the block is erased or a number
  pub passed-number : Passes (block_conditions n setting values erased room) → (i : ℕ) → i < n → IsNumber (sample_at values erased i)
  passed-number p = all n (λ i h. h)
    where
      all : (m : ℕ) → ((i : ℕ) → i < m → i < n) → (i : ℕ) → i < m → IsNumber (sample_at values erased i)
      all zero h i l t = omega arith
      all (suc m) h i l t =
          let before : (j : ℕ) → j < m → IsNumber (sample_at values erased j) = all m (λ j k. h j (omega arith)) in
          at (lt-tri i m) before
        where
          at : (i < m) ⊎ ((i ≡ m) ⊎ (m < i)) → ((j : ℕ) → j < m → IsNumber (sample_at values erased j)) → ⊥
          at (inl k) before = before i k t
          at (inr (inl e)) before =
              p.1.1.1.0 (NotANumber i) (record { position = i; there = h i l; here = t; first = λ j k. before j (omega arith); is = refl })
          at (inr (inr k)) before = omega arith

  -- the replies of `levels_of`, and its room
  pub levels-determined : (r s : Result (Unit {0}) Refusal) (one two : List ℤ) → GivesLevels n setting values erased room one r → GivesLevels n setting values erased room two s → (r ≡ s) × (one ≡ two)
  levels-determined (Ok _) (Ok _) one two a b = (refl, ext_get_or (pos 0) one two (a.1.as_long ∙ sym b.1.as_long) same)
    where
      same : (i : ℕ) → i < length one → get_or one i (pos 0) ≡ get_or two i (pos 0)
      same i h =
          let l : i < length values = omega (arith, a.1.as_long) in
          sample-once setting (sample_at values erased i) (get_or one i (pos 0)) (get_or two i (pos 0)) (passed-number a.0 i (omega (arith, values-n n setting values erased room one a))) (a.1.each i l) (b.1.each i l)
  levels-determined (Ok _) (Err q) one two a b = absurd (never_both (block_conditions n setting values erased room) a.0 q b.0)
  levels-determined (Err p) (Ok _) one two a b = absurd (never_both (block_conditions n setting values erased room) b.0 p a.0)
  levels-determined (Err p) (Err q) one two a b =
      (ap Err (refuses-once (block_conditions n setting values erased room) block-single p q a.0 b.0), a.1 ∙ sym b.1)
