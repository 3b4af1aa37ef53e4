-- `lists::ones_of` meets its contract. The invariant: the indices from the index on, after those used, are all of them.
use lib.ListN.{drop, length}
use mathlib.Core.Path.{◌≡◌}
use Prim.Native.Nat.{◌<◌, ◌^◌, ◌≤◌}
use Rattle.alists.specs.Reading.{ones_of}
use Rattle.alists.proofs.lists.ones_of.Given as goal

abbrev pub invariant-loop-x : goal.invariant-loop-x
invariant-loop-x l = (l.x-index ≤ length l.list) × (l.used < 2 ^ 64) × (ones_of l.size l.used (drop l.x-index l.list) ≡ ones_of l.size 0 l.list)
