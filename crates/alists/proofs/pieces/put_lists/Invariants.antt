-- `pieces::put_lists` meets its contract: the lists from the index on are still to be put.
use lib.ListN.{drop, length}
use mathlib.Core.List.{map}
use Prim.Native.Nat.{◌≤◌}
use Rattle.alists.specs.Lists.{list_of}
use Rattle.alists.specs.Text.{text_of}
use Rattle.alists.proofs.Putting.{Going}
use Rattle.alists.proofs.pieces.put_lists.Given as goal

abbrev pub invariant-loop-word : goal.invariant-loop-word
invariant-loop-word l = (l.word-index ≤ length l.words)
    × Going l.room l.next (text_of (map (list_of l.most) (drop l.word-index l.words))) l.initial.room l.at (text_of (map (list_of l.most) l.words))
