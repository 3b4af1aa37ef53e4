-- `tally::standing_by` meets its contract.
use Rattle.std.proofs.Common.{le-ltb, lt-ltb, eq-eqb, ne_eqb}
use Rattle.reports.proofs.tally.standing_by.Goals as goal

pub returns-then-step-eq0 : goal.returns-then-step-eq0
returns-then-step-eq0 c = rw (eq-eqb c.args.step 0 c.if-step-eq0.true)

pub returns-then-step-gt32767 : goal.returns-then-step-gt32767
returns-then-step-gt32767 c = rw (ne_eqb c.args.step 0 c.if-step-eq0.false, lt-ltb 32767 c.args.step c.if-step-gt32767.true)

pub returns : goal.returns
returns c = rw (ne_eqb c.args.step 0 c.if-step-eq0.false, le-ltb 32767 c.args.step c.if-step-gt32767.false)
