-- `lines::first_repeating` meets its contract. The loop's invariant: so many lines are read, none of which repeats. The measure is what is left of the text.
use lib.ListN.{length}
use Prim.Native.Nat.{◌+◌, ◌-◌}
use Rattle.sheets.specs.Listed.{entries}
use Rattle.judging.specs.Listing.{repeats_at}
use Rattle.judging.proofs.Reading.{Reading, Searching}
use Rattle.judging.proofs.lines.first_repeating.Given as goal

abbrev pub invariant-loop-at : goal.invariant-loop-at
invariant-loop-at l = Reading l.n l.text l.i l.at × Searching (length (entries l.n l.text)) (repeats_at (entries l.n l.text)) l.i

abbrev pub decreases-loop-at : goal.decreases-loop-at
decreases-loop-at l = length l.text + 1 - l.at
