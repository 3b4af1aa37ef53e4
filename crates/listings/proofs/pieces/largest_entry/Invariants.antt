-- `listings::pieces::largest_entry` meets its contract: the largest before an entry, and the largest from it on.
use Rattle.std.proofs.Common.{◌≡◌, drop, max}
use Rattle.listings.specs.Lines.{largest}
use Rattle.listings.proofs.pieces.largest_entry.Given as goal

abbrev pub invariant-loop-entry : goal.invariant-loop-entry
invariant-loop-entry l = max l.most (largest (drop l.entry-index l.entries)) ≡ largest l.entries
