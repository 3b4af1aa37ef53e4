-- `rooms::line_from` meets its contract.
use Rattle.judging.proofs.RoomSteps.{line-none, line-some}
use Rattle.judging.proofs.rooms.line_from.Goals as goal

pub returns-then-u-eq0 : goal.returns-then-u-eq0
returns-then-u-eq0 c = line-none c.args.room.now c.args.lines c.args.t c.args.u c.args.bit c.if-u-eq0.true

pub returns : goal.returns
returns c =
    line-some c.args.room.now c.args.lines c.args.t c.args.u c.args.bit c.find.result c.key_of-key.result c.if-u-eq0.false c.key_of-key.ensures c.find.ensures
