-- `plates::rows::gain_row` meets its contract.
use Rattle.plates.proofs.rows.gain_row.Goals as goal

pub returns : goal.returns
returns c = rw c.word_taken-row.ensures
