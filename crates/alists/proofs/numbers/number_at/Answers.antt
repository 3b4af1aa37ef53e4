-- `numbers::number_at` meets its contract.
use Rattle.alists.proofs.NumbersFound.{number-here, number-none}
use native.Mathlib.Omega.{arith}
use Rattle.alists.proofs.numbers.number_at.Goals as goal

pub returns-in_err-first : goal.returns-in_err-first
returns-in_err-first c =
    record { is = rw c.from_residual.ensures (number-none c.args.text.now c.args.at c.in_err-first.ensures) }

pub more_at-requires : goal.more_at-requires
more_at-requires c =
    let d = c.in_ok-first.ensures in
    record { at_in_bounds = omega (arith, d.0); first_bound = d.3 }

pub returns : goal.returns
returns c =
    let d = c.in_ok-first.ensures in
    rw (number-here c.args.text.now c.args.at d.0 d.1, ← d.2) c.more_at.ensures
