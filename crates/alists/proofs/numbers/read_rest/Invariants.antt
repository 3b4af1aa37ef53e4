-- `numbers::read_rest` meets its contract: the numbers from i on are still to be put.
use lib.ListN.{drop, length}
use Prim.Native.Nat.{◌-◌}
use Rattle.alists.specs.Lines.{rest_of}
use Rattle.alists.specs.Working.{stored}
use Rattle.alists.proofs.Storing.{Storing}
use Rattle.alists.proofs.numbers.read_rest.Given as goal

abbrev pub invariant-loop-i : goal.invariant-loop-i
invariant-loop-i l = Storing l.text l.count l.at l.i l.table (stored l.initial.table 1 (rest_of (l.count - 1) (drop l.from l.text))) (length l.initial.table)
