-- The best metrics are small: no sum overflows, and a metric lies within the limit times n.
use lib.IntN.{nat_abs, pos, ℤ}
use lib.ListN.{get_or, length}
use mathlib.Core.Bool.{Bool, cond, false, true}
use mathlib.Core.List.{List, [], ◌∷◌}
use mathlib.Core.Path.{refl, ◌≡◌}
use mir.Syntax.{w32}
use mir.Val.{SFits}
use native.Mathlib.Nat.{mul-suc}
use native.Mathlib.Omega.{arith}
use Prim.Native.Nat.{◌%◌, ◌*◌, ◌+◌, ◌/◌, ◌<◌, ◌^◌, suc, suc-le-suc, zero, zero-le, ℕ, ◌≤◌}
use Rattle.decoding.proofs.Integers.{abs-add, abs_neg, mag-abs}
use Rattle.decoding.specs.Backward.{best}
use Rattle.decoding.specs.Metric.{metric_of}
use Rattle.decoding.specs.Stepping.{gain_limit}
use Rattle.decoding.specs.Taking.{added, at_state, preferred, signed, taking, taking_also}
use Rattle.trellises.specs.declared.Section.{Section}
use Rattle.trellises.specs.Numbers.{bit_of, leads_to}

pub signed-size : (b : ℕ) (y : ℤ) → nat_abs (signed b y) ≡ nat_abs y
signed-size zero y = refl
signed-size (suc b) y = abs_neg y

-- every sample is within the limit
abbrev pub Within : ℕ → List ℤ → Type 0
Within most ys = (i : ℕ) → i < length ys → nat_abs (get_or ys i (pos 0)) ≤ most

pub within-rest : (most : ℕ) (y : ℤ) (ys : List ℤ) → Within most (y ∷ ys) → Within most ys
within-rest most y ys h i k = h (suc i) (suc-le-suc k)

-- a gain fits its 32 bits
pub gain-fits : {y : ℤ} → nat_abs y ≤ gain_limit → SFits w32 y
gain-fits {y} h = record { sfits = omega (arith, mag-abs y) }

-- the metric of a word lies within the limit times the number of samples
pub metric-within : (most : ℕ) (ys : List ℤ) → Within most ys → (w : ℕ) → nat_abs (metric_of ys w) ≤ most * length ys
metric-within most [] h w = zero-le
metric-within most (y ∷ ys) h w =
    omega (
      arith,
      abs-add (signed (w % 2) y) (metric_of ys (w / 2)),
      signed-size (w % 2) y,
      h 0 (suc-le-suc zero-le),
      metric-within most ys (within-rest most y ys h) (w / 2),
      mul-suc most (length ys),
    )

module _ (sections : ℕ → Section) (most : ℕ) where
  -- so does the best metric of every state
  state-within : (c : Section) (y : ℤ) (old : ℕ → ℤ) (B : ℕ) → ((j : ℕ) → nat_abs (old j) ≤ B) → (i : ℕ) → nat_abs (at_state c y old i).metric ≤ nat_abs y + B
  state-within c y old B h i = go c.begins
    where
      one : (x : ℕ) → nat_abs (added c y old x) ≤ nat_abs y + B
      one x = omega (arith, abs-add (signed (bit_of c x) y) (old (leads_to c x)), signed-size (bit_of c x) y, h (leads_to c x))

      pick : (p : Bool) (a b : ℤ) → nat_abs a ≤ nat_abs y + B → nat_abs b ≤ nat_abs y + B → nat_abs (cond p a b) ≤ nat_abs y + B
      pick true a b k l = k
      pick false a b k l = l

      go : (b : Bool) → nat_abs (cond b (taking_also c y old (taking c y old i) (i + 2 ^ c.live)) (taking c y old i)).metric ≤ nat_abs y + B
      go true = pick (preferred (added c y old (i + 2 ^ c.live)) (bit_of c (i + 2 ^ c.live)) (added c y old i)) _ _ (one (i + 2 ^ c.live)) (one i)
      go false = one i

  pub best-within : (ys : List ℤ) → Within most ys → (t i : ℕ) → nat_abs (best sections ys t i) ≤ most * length ys
  best-within [] h t i = zero-le
  best-within (y ∷ ys) h t i =
      omega (
        arith,
        state-within (sections t) y (best sections ys (suc t)) (most * length ys) (λ j. best-within ys (within-rest most y ys h) (suc t) j) i,
        h 0 (suc-le-suc zero-le),
        mul-suc most (length ys),
      )
