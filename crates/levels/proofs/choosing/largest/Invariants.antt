-- `levels::choosing::largest` meets its contract. The loop's invariant: the level of the value is less than span above the level. The measure is the span.
use Prim.Native.Nat.{◌≤◌}
use Rattle.levels.specs.Testing.{Within}
use Rattle.levels.proofs.choosing.largest.Given as goal

abbrev pub invariant-loop-span : goal.invariant-loop-span
invariant-loop-span l = (l.span ≤ 128) × Within l.setting l.value l.level l.span

abbrev pub decreases-loop-span : goal.decreases-loop-span
decreases-loop-span l = l.span
