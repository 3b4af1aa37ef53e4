-- `listings::pieces::prepend_entries` meets its contract: the entries from i on stand before the line feed.
use Prim.Native.Nat.{ℕ, ◌≤◌}
use lib.ListN.{length, drop}
use mathlib.Core.List.{List, [], ◌∷◌, map}
use Rattle.listings.specs.Building.{Prepends}
use Rattle.listings.specs.Decimal.{decimal}
use Rattle.listings.specs.Lines.{following}
use Rattle.listings.proofs.pieces.prepend_entries.Given as goal

abbrev pub invariant-loop-i : goal.invariant-loop-i
invariant-loop-i l = (l.i ≤ length l.entries)
    × ((d : List ℕ) (end : ℕ) → Prepends d end (10 ∷ []) l.initial.line l.initial.at
    → Prepends d end (following (map decimal (drop l.i l.entries))) l.line l.at)
