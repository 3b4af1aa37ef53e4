-- `step::word` meets its contract.
use mathlib.Core.Path.{refl}
use Rattle.decoding.proofs.TwoStrips.{word-asks, word-done}
use Rattle.decoding.proofs.step.word.Goals as goal

pub turned-bits-requires : goal.turned-bits-requires
turned-bits-requires c = record { pattern = c.requires.1.pattern; block = c.args.at; aligned = refl }

pub block-run-requires : goal.block-run-requires
block-run-requires c = search word-asks

pub returns : goal.returns
returns c = search word-done
