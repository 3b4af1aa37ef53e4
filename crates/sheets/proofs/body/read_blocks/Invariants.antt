-- `body::read_blocks` meets its contract.
use lib.ListN.{length}
use Prim.Native.Nat.{◌-◌}
use Rattle.sheets.proofs.Passing.{Passing}
use Rattle.sheets.specs.Blocks.{blocks_of}
use Rattle.sheets.proofs.body.read_blocks.Given as goal

abbrev pub invariant-loop-at : goal.invariant-loop-at
invariant-loop-at l = Passing (blocks_of l.heard) l.input l.from l.at l.blocks

abbrev pub decreases-loop-at : goal.decreases-loop-at
decreases-loop-at l = length l.input - l.at
