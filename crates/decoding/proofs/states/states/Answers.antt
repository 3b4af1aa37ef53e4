-- `states::states` meets its contract. The states from i on are done.
use borrow.Author.Rules.{rules}
use Rattle.decoding.proofs.Runs.{next_fits, next_place, next-shift, states-all, states-more, states-none}
use Rattle.decoding.proofs.states.states.Goals as goal

pub loop-i-init : goal.loop-i-init
loop-i-init c = search states-none

pub overflow_shr-pattern : goal.overflow_shr-pattern
overflow_shr-pattern c = search next-shift

pub overflow_add-first : goal.overflow_add-first
overflow_add-first c = let l = next_place c.requires c.loop-i.invariant c.loop-i-test.true in search rules

pub state-run-requires : goal.state-run-requires
state-run-requires c = search next_fits

pub loop-i-preserved : goal.loop-i-preserved
loop-i-preserved c = search states-more

pub returns : goal.returns
returns c = search states-all
