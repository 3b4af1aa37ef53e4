-- `levels::choosing::level_of_value` meets its contract.
use lib.Dec.{T}
use lib.Ieee.{of_bits}
use lib.IntN.{+ℤ_idl}
use mathlib.Core.Path.{subst, sym}
use mir.Facts.{to_z-of_z, to_z_pos}
use mir.Syntax.{w16}
use native.Mathlib.Omega.{arith}
use Prim.Native.Nat.{◌≤◌}
use Rattle.levels.proofs.FloatOrder.{negated-more, not_negative}
use Rattle.levels.proofs.Signs.{less-level, level-small, more-level, negative_fits}
use Rattle.levels.proofs.choosing.level_of_value.Goals as goal

pub largest-requires : goal.largest-requires
unfolding of_bits
largest-requires c = (c.requires.0, negated-more c.args.value (subst T (sym c.if-value.true) tt))

pub overflow_sub-result : goal.overflow_sub-result
overflow_sub-result c =
    let j = c.largest.result in
    let h : j ≤ 127 = level-small c.requires.0 c.largest.ensures in
    rw (to_z_pos w16 {n = j} (omega arith), +ℤ_idl) (negative_fits j h)

pub returns-then-value : goal.returns-then-value
unfolding of_bits
returns-then-value c =
    let j = c.largest.result in
    let h : j ≤ 127 = level-small c.requires.0 c.largest.ensures in
    rw (to_z_pos w16 {n = j} (omega arith), +ℤ_idl, to_z-of_z (negative_fits j h))
    (less-level c.args.value (subst T (sym c.if-value.true) tt) c.largest.ensures)

pub largest-requires-2 : goal.largest-requires-2
unfolding of_bits
largest-requires-2 c = (c.requires.0, not_negative c.args.value c.requires.1 c.if-value.false)

pub returns : goal.returns
unfolding of_bits
returns c =
    let j = c.largest-2.result in
    let h : j ≤ 127 = level-small c.requires.0 c.largest-2.ensures in
    rw (to_z_pos w16 {n = j} (omega arith))
    (more-level c.args.value (not_negative c.args.value c.requires.1 c.if-value.false) c.largest-2.ensures)
