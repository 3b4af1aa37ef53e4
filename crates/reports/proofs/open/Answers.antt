-- `open` meets its contract.
use Rattle.std.proofs.Common.{replicate, sym, refl, ◌∙◌}
use Rattle.reports.proofs.Openings.{opens-refused, opens-sheet, rows-within}
use Rattle.reports.proofs.open.Goals as goal

pub of_sheet-requires : goal.of_sheet-requires
of_sheet-requires c =
    rows-within _ (replicate 64 0) refl _ refl _ _ (sym c.in-Ok.is ∙ c.read_sheet-reply.ensures.reply) c.read_sheet-reply.ensures.rows

pub returns-in-Ok : goal.returns-in-Ok
returns-in-Ok c =
    opens-sheet _ (replicate 64 0) refl _ _ _ (sym c.in-Ok.is ∙ c.read_sheet-reply.ensures.reply) c.read_sheet-reply.ensures.rows c.of_sheet.ensures

pub returns-in-Err : goal.returns-in-Err
returns-in-Err c = opens-refused _ _ _ (sym c.in-Err.is ∙ c.read_sheet-reply.ensures.reply) c.refused.ensures
