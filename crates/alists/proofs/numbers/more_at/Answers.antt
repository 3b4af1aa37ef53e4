-- `numbers::more_at` meets its contract.
use mathlib.Core.Path.{◌∙◌}
use Rattle.alists.proofs.NumbersFound.{more-here, more-none, more-zero}
use native.Mathlib.Omega.{arith}
use Rattle.alists.proofs.numbers.more_at.Goals as goal

pub returns-in_default : goal.returns-in_default
returns-in_default c =
    record { is = (more-none c.args.text.now c.args.at c.args.first c.in_default.ensures, omega arith, omega arith) }

pub returns-then-first-eq0 : goal.returns-then-first-eq0
returns-then-first-eq0 c =
    let d = c.in-Some.ensures in
    record { is = more-zero c.args.text.now c.args.at c.args.first d.0 d.1 c.if-first-eq0.true }

pub returns : goal.returns
returns c =
    let d = c.in-Some.ensures in
    let here = more-here c.args.text.now c.args.at c.args.first d.0 d.1 c.if-first-eq0.false in
    record { is = (here ∙ rw (← d.2), omega (arith, d.0), omega (arith, d.3)) }
