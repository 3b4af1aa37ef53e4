-- `rooms::put` meets its contract.
use lib.ListN.{length-set}
use Prim.Native.Nat.{◌*◌}
use native.Mathlib.Omega.{arith}
use Rattle.judging.proofs.RoomSteps.{put-done}
use Rattle.judging.proofs.rooms.put.Goals as goal

pub key_of-key-requires : goal.key_of-key-requires
key_of-key-requires c = c.requires.in_range.start

pub bounds-room-at-2 : goal.bounds-room-at-2
bounds-room-at-2 c =
    omega (arith, length-set c.args.room.now (4 * c.args.line) c.key_of-key.result, c.requires.line_in_bounds)

pub returns : goal.returns
returns c =
    put-done c.args.room.now c.args.line c.key_of-key.result c.args.branch c.requires.line_in_bounds c.key_of-key.ensures
