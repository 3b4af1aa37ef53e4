-- `word::is_text` meets its contract.
use mathlib.Core.Path.{◌∙◌}
use Rattle.sheets.proofs.Spelling.{same-pointwise}
use Rattle.sheets.proofs.word.is_text.Goals as goal

pub returns : goal.returns
returns c = c.eq.ensures ∙ same-pointwise c.args.f.now c.args.g.now
