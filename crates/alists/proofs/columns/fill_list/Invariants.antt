-- `columns::fill_list` meets its contract: position by position.
use Rattle.alists.proofs.Filling.{Listing}
use Rattle.alists.proofs.columns.fill_list.Given as goal

abbrev pub invariant-loop-i : goal.invariant-loop-i
invariant-loop-i l = Listing l.word l.table l.count l.i l.initial.table
