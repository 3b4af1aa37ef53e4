-- `walk::decision` meets its contract.
use lib.Bits.{and_mask}
use mathlib.Core.Path.{ap, ◌∙◌}
use Rattle.words.specs.Word.{bit}
use Rattle.decoding.proofs.walk.decision.Goals as goal

pub returns : goal.returns
returns c = c.bit_at.ensures ∙ ap (bit _) (and_mask c.args.state 6)
