-- `comparing::first_out` meets its contract.
use Rattle.outlines.specs.Searching.{left_of}
use Rattle.outlines.proofs.RowsSearched.{NoneFrom}
use Rattle.outlines.proofs.comparing.first_out.Given as goal

abbrev pub invariant-loop-j : goal.invariant-loop-j
invariant-loop-j l = NoneFrom (left_of l.order l.n l.other l.mask) l.rest l.own l.j
