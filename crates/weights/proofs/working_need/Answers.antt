-- `weights::working_need` meets its contract.
use Rattle.weights.proofs.WeightCalls.{entries_by, long-by, need-fits-by, need-none, need-told-by}
use Rattle.weights.proofs.working_need.Goals as goal

pub returns-then-not-is_prepared : goal.returns-then-not-is_prepared
returns-then-not-is_prepared c = need-none c.is_prepared.ensures c.if-not-is_prepared.true

pub half_of-half-requires : goal.half_of-half-requires
half_of-half-requires c = (
  long-by c.is_prepared.ensures c.if-not-is_prepared.false c.widened-profile.ensures,
  entries_by c.is_prepared.ensures c.if-not-is_prepared.false c.widened-profile.ensures,
)

pub overflow_add-result : goal.overflow_add-result
overflow_add-result c =
    need-fits-by c.is_prepared.ensures c.if-not-is_prepared.false c.widened-profile.ensures c.half_of-half.ensures

pub returns : goal.returns
returns c = need-told-by c.is_prepared.ensures c.if-not-is_prepared.false c.widened-profile.ensures c.half_of-half.ensures
