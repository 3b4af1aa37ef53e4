-- `states::two_branches` meets its contract.
use borrow.Author.Rules.{rules}
use lib.ListN.{length}
use Prim.Native.Nat.{◌+◌, ◌<◌}
use Rattle.decoding.proofs.Singles.{choice-fits, chosen-part, far-there, near_fits, near-there}
use Rattle.decoding.proofs.states.two_branches.Goals as goal

pub source-near-requires : goal.source-near-requires
source-near-requires c = search near_fits

pub overflow_add-far : goal.overflow_add-far
overflow_add-far c = let far : c.source-near.result + c.stride.result < length c.args.metrics.now = search far-there in search rules

pub offset_bounds-metrics-near : goal.offset_bounds-metrics-near
offset_bounds-metrics-near c = let l = near-there c.requires.1 c.source-near.ensures in search rules

pub slice_copy_out-a : goal.slice_copy_out-a
slice_copy_out-a c = search near-there

pub offset_bounds-metrics-far : goal.offset_bounds-metrics-far
offset_bounds-metrics-far c = let far : c.source-near.result + c.stride.result < length c.args.metrics.now = search far-there in search rules

pub slice_copy_out-b : goal.slice_copy_out-b
slice_copy_out-b c = search far-there

pub choose-taken-requires : goal.choose-taken-requires
choose-taken-requires c = search choice-fits

-- seven facts, more than `search` joins: back from the end, place by place
pub returns : goal.returns
returns c =
    chosen-part c.requires.1 c.source-near.ensures c.requires.0 c.stride.ensures c.sign_of-sign.ensures
    c.tie_of.ensures c.choose-taken.ensures
