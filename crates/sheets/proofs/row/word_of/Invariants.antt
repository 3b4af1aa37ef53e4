-- `row::word_of` meets its contract. The invariant: the word is that of the positions from i on.
use lib.ListN.{drop, length}
use mathlib.Core.Path.{◌≡◌}
use Prim.Native.Nat.{◌≤◌}
use Rattle.sheets.specs.Rows.{word_from}
use Rattle.sheets.specs.Turning.{in_order}
use Rattle.sheets.proofs.row.word_of.Given as goal

abbrev pub invariant-loop-i : goal.invariant-loop-i
invariant-loop-i l = (l.i ≤ length l.f) × (l.word ≡ word_from (drop l.i (in_order l.order l.f)))
