-- `blocks::word_line` meets its contract.
use Rattle.std.proofs.Common.{to_z-of_z, w32}
use Rattle.reports.proofs.WrittenSteps.{answer-written}
use Rattle.reports.proofs.blocks.word_line.Goals as goal

pub returns : goal.returns
returns c =
    answer-written c.write_word.result c.args.answer c.printed_word-word.ensures
    (to_z-of_z {w = w32} (record { sfits = c.struct_told-1.given.1.0.1 })) c.write_word.ensures c.step_by.ensures
