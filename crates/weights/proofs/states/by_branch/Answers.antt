-- `weights::states::by_branch` meets its contract.
use Rattle.weights.proofs.BranchWays.{by-none, by_one, by_zero}
use Rattle.weights.proofs.states.by_branch.Goals as goal

pub returns-then-parity_with-eq0 : goal.returns-then-parity_with-eq0
returns-then-parity_with-eq0 c =
    by_zero _ _ c.args.section _ _ _ _ c.next_state.ensures c.parity_with.ensures c.if-parity_with-eq0.true

pub returns-then-weight-eq0 : goal.returns-then-weight-eq0
returns-then-weight-eq0 c =
    by-none _ _ c.args.section _ _ _ _ c.next_state.ensures c.parity_with.ensures c.if-parity_with-eq0.false c.if-weight-eq0.true

pub returns : goal.returns
returns c =
    by_one _ _ c.args.section _ _ _ _ c.next_state.ensures c.parity_with.ensures c.if-parity_with-eq0.false c.if-weight-eq0.false
