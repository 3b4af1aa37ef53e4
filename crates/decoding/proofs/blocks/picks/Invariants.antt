-- `blocks::picks` meets its contract. The first i states are done.
use Prim.Native.Nat.{◌≤◌}
use Rattle.decoding.specs.Picking.{Picks}
use Rattle.decoding.proofs.blocks.picks.Given as goal

abbrev pub invariant-loop-i : goal.invariant-loop-i
invariant-loop-i l = (l.i ≤ 32) × Picks l.initial.metrics l.at l.near l.far l.signs l.ties l.side l.i l.initial.picked.counts l.metrics l.picked
