-- `plates::matrix::reaches` meets its contract.
use mathlib.Core.Path.{refl}
use Rattle.plates.proofs.Replies.{last-reaches, zero-short}
use Rattle.plates.proofs.matrix.reaches.Goals as goal

pub returns-else-word-ne0 : goal.returns-else-word-ne0
returns-else-word-ne0 c = rw c.if-word-ne0.false (zero-short refl)

pub returns-then-word-ne0 : goal.returns-then-word-ne0
returns-then-word-ne0 c = last-reaches c.if-word-ne0.true c.last_one.ensures
