-- A12, single-precision receivers: f32 samples, each heard with its value or erased, become levels. Definitions: levels/specs/Choosing (`Largest`,
-- `LevelOf`, `LevelOfSample`, `LevelsOf`) and Giving (`Good`, the conditions, `GivesLevel`, `GivesLevels`). `le` is the f32 comparison and `neg` the
-- f32 negation; `fits binary32` says that the step is an f32, which every step is that a call can be handed.
use Rattle.std.proofs.Common.{Result, Ok, Err}
use lib.Dec.{T}
use lib.Ieee.{Float, binary32, fits, is_nan, le, lt, nan, neg}
use lib.IntN.{nat_abs, neg_ℤ, pos, ℤ}
use lib.ListN.{get_or, length}
use lib.Signed.{◌≤ℤ◌}
use mathlib.Core.List.{List, [], ◌∷◌}
use mathlib.Core.Logic.{inl, inr, ◌⊎◌}
use mathlib.Core.Path.{ap, refl, subst, ◌≡◌}
use native.Mathlib.Decide.{dec_le}
use native.Mathlib.Omega.{arith}
use Prim.Native.Nat.{◌<◌, ℕ, ◌≤◌}
use Rattle.decoding.proofs.Integers.{abs_neg}
use Rattle.decoding.specs.Metric.{limit}
use Rattle.demands.proofs.Demand1.{its-number}
use Rattle.demands.specs.Refusing.{Numbered, RefusesExactly}
use Rattle.levels.proofs.BlockLevels.{erased-level, heard-level, levels-n, values-n}
use Rattle.levels.proofs.LevelsDetermined.{level-determined, levels-determined, passed-number}
use Rattle.levels.proofs.LevelsOrdered.{either-sign, greater-value-no-lower-level}
use Rattle.levels.proofs.RepliesOrdered.{block-levels-negated, block-levels-ordered, level-replies-negated}
use Rattle.levels.proofs.Unread.{SameSamples, unread}
use Rattle.levels.specs.Choosing.{Largest, LevelOf, LevelOfSample, nought, sample_at}
use Rattle.levels.specs.declared.Sample.{Sample}
use Rattle.levels.specs.declared.Sample.TheVariants.{Erased, Heard}
use Rattle.levels.specs.declared.Setting.{Setting}
use Rattle.levels.specs.Giving.{GivesLevel, GivesLevels, Good, block_conditions, sample_conditions}
use Rattle.levels.specs.Testing.{IsNumber}
use Rattle.plates.specs.declared.Refusal.{Refusal}
use Rattle.plates.specs.declared.Refusal.TheVariants.{BadSetting, NotANumber}
use Rattle.plates.specs.Refusals.{number, place}
use Rattle.words.specs.Word.{bit}

-- ---- what a sample gives

-- erased gives 0
pub erased-gives-zero : (setting : Setting) (level : ℤ) → GivesLevel setting Erased (Ok level) → level ≡ pos 0
erased-gives-zero setting level g = g.1

-- a value of zero or more gives the largest j from 0 to the top level for which j times step, rounded once to f32, is at most the value
pub zero-or-more-gives-largest : (setting : Setting) (value : Float) (level : ℤ) → GivesLevel setting (Heard value) (Ok level) → T (le nought value)
    → (j : ℕ) × Largest setting value j × (level ≡ pos j)
zero-or-more-gives-largest setting value level g h = let x = g.1.zero_or_more h in (g.1.size, x.0, x.1)

-- a negative value gives minus the level of its negation
pub negative-gives-minus : (setting : Setting) (value : Float) (level : ℤ) → GivesLevel setting (Heard value) (Ok level) → T (lt value nought)
    → (j : ℕ) × Largest setting (neg value) j × (level ≡ neg_ℤ (pos j))
negative-gives-minus setting value level g h = let x = g.1.negative h in (g.1.size, x.0, x.1)

-- ---- what is to be proved of two values

-- a greater value never gets a lower level
pub greater-never-lower : (setting : Setting) (v w : Float) (y z : ℤ) → T (le v w) → GivesLevel setting (Heard v) (Ok y)
    → GivesLevel setting (Heard w) (Ok z) → y ≤ℤ z
greater-never-lower setting v w y z h a b = greater-value-no-lower-level setting v w y z h a.1 b.1

-- negating the value negates the level
pub negating-negates : (setting : Setting) (v : Float) (y z : ℤ) → T (fits binary32 setting.step) → GivesLevel setting (Heard v) (Ok y)
    → GivesLevel setting (Heard (neg v)) (Ok z) → z ≡ neg_ℤ y
negating-negates setting v y z f a b = level-replies-negated setting v (neg v) y z f refl a b

-- ---- a level lies within the top level either way, so that it is a permitted sample

level-within : (setting : Setting) (value : Float) (level : ℤ) → (T (is_nan value) → ⊥) → LevelOf setting value level → nat_abs level ≤ setting.top
level-within setting value level n l = go (either-sign value n)
  where
    go : T (lt value nought) ⊎ T (le nought value) → nat_abs level ≤ setting.top
    go (inl h) = let x = l.negative h in omega (arith, ap nat_abs x.1, abs_neg (pos l.size), x.0.within)
    go (inr h) = let x = l.zero_or_more h in omega (arith, ap nat_abs x.1, x.0.within)

sample-within : (setting : Setting) (sample : Sample) (level : ℤ) → IsNumber sample → LevelOfSample setting sample level → nat_abs level ≤ setting.top
sample-within setting (Heard value) level n l = level-within setting value level n l
sample-within setting Erased level n l = omega (arith, ap nat_abs l)

top_small : (setting : Setting) → ((Good setting → ⊥) → ⊥) → setting.top ≤ 127
top_small setting g = go (dec_le setting.top 127)
  where
    go : Dec (setting.top ≤ 127) → setting.top ≤ 127
    go (yes h) = h
    go (no h) = absurd (g (λ good. h good.most))

-- of a single sample
pub level-is-permitted : (setting : Setting) (sample : Sample) (level : ℤ) → GivesLevel setting sample (Ok level)
    → (nat_abs level ≤ setting.top) × (setting.top ≤ 127) × (nat_abs level ≤ limit)
level-is-permitted setting sample level g =
    let w = sample-within setting sample level (λ n. g.0.1.0 (NotANumber 0) (n, refl)) g.1 in
    let t = top_small setting (λ d. g.0.0 BadSetting (d, refl)) in
    (w, t, omega (arith, w, t))

-- ---- single samples: 24, 25

module _ (setting : Setting) (sample : Sample) where
  pub level-numbers : Numbered (sample_conditions setting sample) (24 ∷ 25 ∷ [])
  level-numbers = (its-number, (its-number, tt))

  -- place 0
  pub level-places : (q : Refusal) → GivesLevel setting sample (Err q) → place q ≡ 0
  level-places q (inl x) = ap place x.1
  level-places q (inr (x, inl y)) = ap place y.1
  level-places q (inr (x, inr y)) = absurd y.1

  pub level-refuses-exactly : (r : Result ℤ Refusal) → GivesLevel setting sample r → RefusesExactly Err (sample_conditions setting sample) r
  level-refuses-exactly r p q = ((λ e. subst (GivesLevel setting sample) e p), λ h. level-determined setting sample r (Err q) p h)

-- ---- a block: 1, 24, 6, 25

module _ (n : ℕ) (setting : Setting) (values : List Float) (erased : ℕ) (room : List ℤ) where
  pub levels-numbers : Numbered (block_conditions n setting values erased room) (1 ∷ 24 ∷ 6 ∷ 25 ∷ [])
  levels-numbers = (its-number, (its-number, (its-number, ((λ q c. ap number c.is), tt))))

  module _ (room' : List ℤ) (r : Result (Unit {0}) Refusal) (p : GivesLevels n setting values erased room room' r) where
    pub levels-refuses-exactly : RefusesExactly Err (block_conditions n setting values erased room) r
    levels-refuses-exactly q = (
      (λ e. (subst (GivesLevels n setting values erased room room') e p).0),
      λ h. (levels-determined n setting values erased room r (Err q) room' room p (h, refl)).0,
    )

    -- a refused call leaves the room
    pub levels-refused-unchanged : (q : Refusal) → r ≡ Err q → room' ≡ room
    levels-refused-unchanged q e = (subst (GivesLevels n setting values erased room room') e p).1

  -- the levels go to lent room of n places: a heard position has the level of its value, an erased one 0
  module _ (room' : List ℤ) (p : GivesLevels n setting values erased room room' (Ok tt)) where
    pub levels-are-n : (length values ≡ n) × (length room' ≡ n)
    levels-are-n = (values-n n setting values erased room room' p, levels-n n setting values erased room room' p)

    pub heard-position : (i : ℕ) → i < n → bit erased i ≡ 0 → LevelOf setting (get_or values i nan) (get_or room' i (pos 0))
    heard-position = heard-level n setting values erased room room' p

    pub erased-position : (i : ℕ) → i < n → bit erased i ≡ 1 → get_or room' i (pos 0) ≡ pos 0
    erased-position = erased-level n setting values erased room room' p

    -- each is a permitted sample
    pub levels-are-permitted : (i : ℕ) → i < n → (nat_abs (get_or room' i (pos 0)) ≤ setting.top) × (nat_abs (get_or room' i (pos 0)) ≤ limit)
    levels-are-permitted i h =
        let w = sample-within setting (sample_at values erased i) (get_or room' i (pos 0)) (passed-number n setting values erased room p.0 i h)
        (p.1.each i (omega (arith, h, values-n n setting values erased room room' p))) in
        let t = top_small setting (λ d. p.0.1.0 BadSetting (d, refl)) in
        (w, omega (arith, w, t))

  -- marks at n or beyond and values at erased positions mean nothing: a block with the same samples before n has the same reply and levels
  pub unread-means-nothing : (others : List Float) (gone : ℕ) (room' : List ℤ) → SameSamples n values others erased gone → (r : Result (Unit {0}) Refusal)
      → GivesLevels n setting values erased room room' r → GivesLevels n setting others gone room room' r
  unread-means-nothing others gone room' s r = unread n setting values others erased gone room room' s r

-- ---- order and negation, of two heard positions of one block or of two under one setting

module _ (setting : Setting) (n m : ℕ) (values others : List Float) (erased gone : ℕ) (room room' place place' : List ℤ)
    (one : GivesLevels n setting values erased room room' (Ok tt)) (two : GivesLevels m setting others gone place place' (Ok tt))
    (i j : ℕ) (i-in : i < n) (j-in : j < m) (i-heard : bit erased i ≡ 0) (j-heard : bit gone j ≡ 0) where
  pub greater-position-never-lower : T (le (get_or values i nan) (get_or others j nan)) → get_or room' i (pos 0) ≤ℤ get_or place' j (pos 0)
  greater-position-never-lower =
      block-levels-ordered setting n m values others erased gone room room' place place' one two i j i-in j-in i-heard j-heard

  pub negated-position-negates : T (fits binary32 setting.step) → get_or others j nan ≡ neg (get_or values i nan)
      → get_or place' j (pos 0) ≡ neg_ℤ (get_or room' i (pos 0))
  negated-position-negates =
      block-levels-negated setting n m values others erased gone room room' place place' one two i j i-in j-in i-heard j-heard
