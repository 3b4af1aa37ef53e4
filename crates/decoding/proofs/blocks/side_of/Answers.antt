-- `blocks::side_of` meets its contract.
use lib.Bits.{and_mask}
use native.Mathlib.Omega.{arith}
use Rattle.decoding.proofs.blocks.side_of.Goals as goal

pub returns : goal.returns
returns c = omega (arith, and_mask c.args.bits 1)
