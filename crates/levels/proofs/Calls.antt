-- The conditions of the two calls, met or passed, from what the tests found.
use Prim.Native.Nat.{ℕ, ◌≤◌, ◌<◌}
use lib.Ieee.{Float}
use lib.IntN.{ℤ}
use lib.ListN.{length}
use mathlib.Core.List.{List}
use mathlib.Core.Logic.{◌⊎◌, inl, inr}
use mathlib.Core.Path.{◌≡◌, refl}
use native.Mathlib.Omega.{arith}
use Rattle.plates.specs.declared.Refusal.{Refusal}
use Rattle.plates.specs.declared.Refusal.TheVariants.{NotANumber}
use Rattle.plates.specs.Prepare.{bad_length}
use Rattle.plates.specs.Refusals.{Passes}
use Rattle.levels.specs.declared.Sample.{Sample}
use Rattle.levels.specs.declared.Setting.{Setting}
use Rattle.levels.specs.Giving.{Good, NoNumberAt, bad_count, bad_setting, no_number, sample_conditions}
use Rattle.levels.specs.Testing.{IsNumber, NotANumberAt, NumbersTo, Writable}

-- 1 to 64
pub length-passed : {n : ℕ} → (n ≡ 0 → ⊥) → n ≤ 64 → (q : Refusal) → bad_length n q → ⊥
length-passed {n} h k q b = go b.0
  where
    go : (n ≡ 0) ⊎ (64 < n) → ⊥
    go (inl e) = h e
    go (inr l) = omega arith

-- a setting that is permitted
pub good-passed : {setting : Setting} → Good setting → (q : Refusal) → bad_setting setting q → ⊥
good-passed good q b = b.0 good

-- a sample that is erased or a number
pub number_passed : (sample : Sample) → IsNumber sample → (q : Refusal) → no_number sample q → ⊥
number_passed sample n q b = n b.0

-- n values and n places
pub count-passed : {n : ℕ} (values : List Float) (room : List ℤ) → length values ≡ n → length room ≡ n → (q : Refusal) → bad_count n values room q → ⊥
count-passed {n} values room h k q b = go b.0
  where
    go : (length values ≡ n → ⊥) ⊎ (length room ≡ n → ⊥) → ⊥
    go (inl d) = d h
    go (inr d) = d k

module _ {n : ℕ} (values : List Float) (erased : ℕ) (size : length values ≡ n) where
  -- the first that was found is the one to refuse
  pub number-refused : {r : ℕ} → NotANumberAt values erased r → NoNumberAt n values erased (NotANumber r)
  number-refused {r} first =
      record { position = r; there = omega (arith, first.there, size); here = first.here; first = first.before; is = refl }

  -- none was found
  pub numbers-passed : NumbersTo values erased (length values) → (q : Refusal) → NoNumberAt n values erased q → ⊥
  numbers-passed all q b = all b.position (omega (arith, b.there, size)) b.here

  -- so the levels may be written
  pub writable : {setting : Setting} {room : List ℤ} → NumbersTo values erased (length values) → Good setting → length room ≡ n → Writable setting values erased room
  writable all good k = record { good = good; as_long = omega (arith, size); numbers = all }

-- no condition of a single sample holds
pub sample-passes : {setting : Setting} → Good setting → (sample : Sample) → IsNumber sample → Passes (sample_conditions setting sample)
sample-passes good sample number = (good-passed good, (number_passed sample number, tt))
