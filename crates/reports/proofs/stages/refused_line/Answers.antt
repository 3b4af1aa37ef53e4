-- `stages::refused_line` meets its contract.
use Rattle.reports.proofs.WrittenSteps.{refusal-written}
use Rattle.reports.proofs.stages.refused_line.Goals as goal

pub returns : goal.returns
returns c =
    refusal-written c.write_refused.result c.args.refusal c.refusal_number-number.ensures c.refusal_place-place.ensures
    c.refusal_field-field.ensures c.write_refused.ensures c.step_by.ensures
