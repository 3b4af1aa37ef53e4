-- `levels::choosing::write_levels` meets its contract. The loop's invariant: the room has the levels before i.
use lib.IntN.{pos}
use lib.ListN.{get_or, length}
use mathlib.Core.Path.{◌≡◌}
use Prim.Native.Nat.{ℕ, ◌<◌, ◌≤◌}
use Rattle.levels.specs.Choosing.{LevelOfSample, sample_at}
use Rattle.levels.proofs.choosing.write_levels.Given as goal

abbrev pub invariant-loop-i : goal.invariant-loop-i
invariant-loop-i l = (l.i ≤ length l.values) × (length l.room ≡ length l.values) × ((j : ℕ) → j < l.i → LevelOfSample l.setting (sample_at l.values l.erased j) (get_or l.room j (pos 0)))
