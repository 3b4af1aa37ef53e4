-- `surplus::branch_number` meets its contract.
use native.Mathlib.Omega.{arith}
use lib.Pow.{pow_mono}
use mathlib.Core.Path.{ap}
use Prim.Native.Nat.{ℕ, ◌+◌}
use Rattle.judging.proofs.surplus.branch_number.Goals as goal

pub overflow_add-result : goal.overflow_add-result
overflow_add-result c = record { fits = omega (arith, (c.weight_of-states.ensures.below (omega (arith, c.requires.live))), pow_mono c.requires.live) }

pub returns-then-section : goal.returns-then-section
returns-then-section c = rw c.if-section.true (ap (λ (x : ℕ). x + x) (c.weight_of-states.ensures.below (omega (arith, c.requires.live))))

pub returns : goal.returns
returns c = rw c.if-section.false (c.weight_of-states.ensures.below (omega (arith, c.requires.live)))
