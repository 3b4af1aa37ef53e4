-- `tables::fill` meets its contract. The first i bits are entered.
use Rattle.decoding.proofs.Entries.{Filled}
use Rattle.decoding.proofs.tables.fill.Given as goal

abbrev pub invariant-loop-i : goal.invariant-loop-i
invariant-loop-i l = Filled l.word l.gain l.i l.signs l.ties
