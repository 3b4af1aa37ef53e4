-- `weighed::print_wide` meets its contract. Most answers are one term, since a search would count the large room's entries one by one.
use lib.ListN.{length-replicate}
use mathlib.Core.Path.{sym}
use Prim.Native.Nat.{ℕ}
use Rattle.programs.proofs.WeightsSaid.{weights-refusal-said, weights-said, weights-there}
use Rattle.programs.proofs.weighed.print_wide.Goals as goal

pub slice_bounds-write_weights-end : goal.slice_bounds-write_weights-end
slice_bounds-write_weights-end g c = sym (length-replicate {A = ℕ} 532480 0)

pub slice_bounds-hand_over-end : goal.slice_bounds-hand_over-end
slice_bounds-hand_over-end g c = sym c.write_weights-written.auto.room

pub hand_over-requires : goal.hand_over-requires
hand_over-requires g c = search weights-there

pub returns-in-Ok : goal.returns-in-Ok
returns-in-Ok g c = search weights-said

pub returns-in-Err : goal.returns-in-Err
returns-in-Err g c = weights-refusal-said 532480 c.write_weights-written.ensures c.in-Err.is c.print_refused.ensures
