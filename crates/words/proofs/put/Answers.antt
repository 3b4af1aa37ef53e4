-- `words::put` meets its contract.
use lib.Seq.{set_out}
use mathlib.Core.Path.{sym}
use Rattle.words.proofs.put.Goals as goal

pub returns-else-place-room : goal.returns-else-place-room
returns-else-place-room g c =
    let a = c.args in
    sym (set_out a.room.now a.place a.value c.if-place-room.false)
