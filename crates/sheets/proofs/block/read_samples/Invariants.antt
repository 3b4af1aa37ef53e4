-- `block::read_samples` meets its contract.
use lib.ListN.{length}
use Prim.Native.Nat.{◌+◌, ◌-◌}
use Rattle.sheets.proofs.Sampling.{Sampling}
use Rattle.sheets.proofs.block.read_samples.Given as goal

abbrev pub invariant-loop-at : goal.invariant-loop-at
invariant-loop-at l = Sampling l.lead l.line l.from l.initial.room l.room l.at l.k

abbrev pub decreases-loop-at : goal.decreases-loop-at
decreases-loop-at l = length l.line + 1 - l.at
