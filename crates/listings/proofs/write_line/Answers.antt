-- `listings::write_line` meets its contract.
use lib.ListN.{length-drop}
use native.Mathlib.Omega.{arith}
use Rattle.listings.proofs.Conditions.{too_long, tail_written}
use Rattle.listings.proofs.write_line.Goals as goal

pub returns-then-room-size : goal.returns-then-room-size
returns-then-room-size c = too_long _ _ (omega (arith, length-drop c.args.at c.args.line.now))

pub returns : goal.returns
returns c = tail_written _ _ _ _ c.requires c.if-room-size.false c.copy_from_slice.ensures.after
