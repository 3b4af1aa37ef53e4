-- `plates::rows::word_taken` meets its contract.
use Rattle.plates.proofs.Gaining.{taken-some}
use Rattle.plates.proofs.rows.word_taken.Goals as goal

pub returns : goal.returns
returns c = taken-some _ _ c.if-digit-eq0.false
