-- `number::below_zero` meets its contract.
use lib.IntN.{+ℤ_idl}
use mir.Facts.{to_z-of_z, to_z_pos}
use mir.Syntax.{w16}
use native.Mathlib.Omega.{arith}
use Prim.Native.Nat.{◌<◌}
use Rattle.sheets.proofs.Digits.{negative_fits}
use Rattle.sheets.proofs.number.below_zero.Goals as goal

pub overflow_sub-result : goal.overflow_sub-result
overflow_sub-result c =
    let v = c.args.value in
    let h : v < 10000 = omega arith in
    rw (c.as_signed.ensures, to_z_pos w16 {n = v} (omega arith), +ℤ_idl) (negative_fits v h)

pub returns : goal.returns
returns c =
    let v = c.args.value in
    let h : v < 10000 = omega arith in
    rw (c.as_signed.ensures, to_z_pos w16 {n = v} (omega arith), +ℤ_idl) (to_z-of_z (negative_fits v h))
