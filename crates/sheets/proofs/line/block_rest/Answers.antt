-- `line::block_rest` meets its contract.
use mathlib.Core.Path.{◌∙◌, ap}
use Rattle.sheets.specs.Lines.{block_is}
use Rattle.sheets.proofs.line.block_rest.Goals as goal

pub returns : goal.returns
returns c = c.block_is.ensures ∙ ap block_is c.read_samples-samples.ensures.is
