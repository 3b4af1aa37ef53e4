-- `listings::pieces::prepend_positions` meets its contract: the positions from i on stand in the array.
use Prim.Native.Nat.{◌≤◌}
use lib.ListN.{drop}
use Rattle.listings.specs.Building.{Prepends}
use Rattle.listings.specs.Lines.{positions}
use Rattle.listings.proofs.pieces.prepend_positions.Given as goal

abbrev pub invariant-loop-i : goal.invariant-loop-i
invariant-loop-i l = (l.i ≤ l.n) × Prepends l.initial.line l.end (drop l.i (positions l.word 0 l.n)) l.line l.at
