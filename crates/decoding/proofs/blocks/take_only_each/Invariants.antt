-- `blocks::take_only_each` meets its contract. The first i states are done.
use Prim.Native.Nat.{◌≤◌}
use Rattle.decoding.specs.Picking.{Lones}
use Rattle.decoding.proofs.blocks.take_only_each.Given as goal

abbrev pub invariant-loop-i : goal.invariant-loop-i
invariant-loop-i l = (l.i ≤ 32) × Lones l.initial.metrics l.at l.near l.signs l.side l.i l.initial.raised l.metrics l.raised
