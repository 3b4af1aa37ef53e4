-- `states::one_branch` meets its contract.
use borrow.Author.Rules.{rules}
use Rattle.decoding.proofs.Singles.{alone-fits, alone-part, near_fits, near-there}
use Rattle.decoding.proofs.states.one_branch.Goals as goal

pub source-near-requires : goal.source-near-requires
source-near-requires c = search near_fits

pub offset_bounds-metrics-near : goal.offset_bounds-metrics-near
offset_bounds-metrics-near c = let l = near-there c.requires.1 c.source-near.ensures in search rules

pub slice_copy_out-a : goal.slice_copy_out-a
slice_copy_out-a c = search near-there

pub alone-taken-requires : goal.alone-taken-requires
alone-taken-requires c = search alone-fits

pub returns : goal.returns
returns c = search alone-part
