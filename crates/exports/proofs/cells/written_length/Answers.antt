-- `exports::cells::written_length` meets its contract: the length, or the number of the refusal.
use mathlib.Core.Path.{◌∙◌, ap, sym}
use Rattle.exports.proofs.CallsMade.{same_code}
use Rattle.exports.specs.Crossing.{written_as}
use Rattle.exports.proofs.cells.written_length.Goals as goal

pub returns-in-Ok : goal.returns-in-Ok
returns-in-Ok c = λ room. sym (ap (written_as c.args.size.now room) c.in-Ok.is)

pub returns-in-Err : goal.returns-in-Err
returns-in-Err c =
    λ room. same_code c.refusal_number.ensures ∙ sym (ap (written_as c.args.size.now room) c.in-Err.is)
