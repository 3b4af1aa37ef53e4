-- `coding::reaches` meets its contract.
use borrow.Author.Tests.{eqb-false, eqb-true, not-false, not-true}
use lib.Dec.{eqb}
use lib.Pow.{pow_mono, pow_pos}
use mathlib.Core.Bool.{false≢true}
use mathlib.Core.Path.{◌≡◌}
use native.Mathlib.Decide.{dec_lt}
use native.Mathlib.Nat.{div-eq_of_lt, lt_of_lt_of_le, mod-lt, div-add-mod'}
use native.Mathlib.Omega.{arith}
use Prim.Native.Nat.{ℕ, ◌/◌, ◌^◌, ◌≤◌, ◌<◌}
use Rattle.coding.proofs.reaches.Goals as goal

-- a quotient that is not 0, and one that is
at_least : (w k : ℕ) → (w / 2 ^ k ≡ 0 → ⊥) → 2 ^ k ≤ w
at_least w k n = go (dec_lt w (2 ^ k))
  where
    go : Dec (w < 2 ^ k) → 2 ^ k ≤ w
    go (yes h) = absurd (n (div-eq_of_lt h))
    go (no h) = omega arith

below : (w k : ℕ) → w / 2 ^ k ≡ 0 → w < 2 ^ k
below w k e = omega (arith, rw e at (div-add-mod' w (2 ^ k)), mod-lt w (pow_pos k))

pub returns-then-k-lt64 : goal.returns-then-k-lt64
returns-then-k-lt64 c =
    let w : ℕ = c.args.word in
    let k : ℕ = c.args.k in
    record {
      yes_is = λ e. at_least w k (eqb-false (w / 2 ^ k) 0 (not-true (eqb (w / 2 ^ k) 0) e));
      no_is = λ e. below w k (eqb-true (w / 2 ^ k) 0 (not-false (eqb (w / 2 ^ k) 0) e));
    }

pub returns : goal.returns
returns c =
    let h : 64 ≤ c.args.k = omega (arith, c.if-k-lt64.false) in
    record {
      yes_is = λ e. absurd (false≢true e);
      no_is = λ e. lt_of_lt_of_le c.ranges.word.fits (pow_mono h);
    }
