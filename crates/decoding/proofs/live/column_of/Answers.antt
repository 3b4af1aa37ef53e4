-- `decoding::live::column_of` meets its contract: the rows named are taken in from the last to the first.
use borrow.Author.Rules.{rules}
use Prim.Native.Nat.{◌<◌}
use Rattle.decoding.proofs.PassedBack.{column-end, column-on, column-start, last-place, left-falls}
use Rattle.decoding.proofs.live.column_of.Goals as goal

pub loop-left-init : goal.loop-left-init
loop-left-init c = search column-start

pub offset_bounds-rows-j : goal.offset_bounds-rows-j
offset_bounds-rows-j c = let inside : c.last_one-j.result < 64 = search last-place in search rules

pub bounds-rows-j : goal.bounds-rows-j
bounds-rows-j c = let inside : c.last_one-j.result < 64 = search last-place in search rules

pub overflow_shl-left : goal.overflow_shl-left
overflow_shl-left c = search last-place

pub loop-left-smaller : goal.loop-left-smaller
loop-left-smaller c = search left-falls

pub loop-left-preserved : goal.loop-left-preserved
loop-left-preserved c = search column-on

pub returns : goal.returns
returns c = search column-end
