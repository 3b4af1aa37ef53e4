-- `asking::stop_of` meets its contract.
use native.Mathlib.Omega.{arith}
use Rattle.asking.proofs.stop_of.Goals as goal

pub returns-then-first-n : goal.returns-then-first-n
returns-then-first-n c =
    record { stop = λ h. (c.first_one-first.result, c.first_one-first.ensures.some h, omega arith) }

pub returns : goal.returns
returns c =
    record { stop = λ h. (c.first_one-first.result, c.first_one-first.ensures.some h, omega arith) }
