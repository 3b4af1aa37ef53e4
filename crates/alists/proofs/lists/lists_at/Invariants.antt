-- `lists::lists_at` meets its contract: the lists from i on are still to be put.
use lib.ListN.{drop, length}
use Rattle.alists.specs.Reading.{lists_from}
use Rattle.alists.specs.Working.{laid_from}
use Rattle.alists.proofs.Judging.{Laying}
use Rattle.alists.proofs.lists.lists_at.Given as goal

abbrev pub invariant-loop-i : goal.invariant-loop-i
invariant-loop-i l = Laying l.most l.size l.seen l.weights l.text l.at l.i l.table
    (laid_from l.initial.table 0 (lists_from l.most l.size l.seen 0 l.weights (drop l.from l.text)))
    (length l.initial.table)
