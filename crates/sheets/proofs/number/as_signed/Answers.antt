-- `number::as_signed` meets its contract.
use mir.Facts.{to_z_pos}
use mir.Syntax.{w16}
use native.Mathlib.Omega.{arith}
use Rattle.sheets.proofs.number.as_signed.Goals as goal

pub returns : goal.returns
returns c = to_z_pos w16 (omega arith)
