-- `levels::values::is_not_a_number` meets its contract.
use mathlib.Core.Path.{ap, sym, ◌∙◌}
use Rattle.levels.specs.Giving.{not_a_number}
use Rattle.levels.proofs.values.is_not_a_number.Goals as goal

pub returns-in-Heard : goal.returns-in-Heard
returns-in-Heard c = c.is_nan.ensures.value ∙ sym (ap not_a_number c.in-Heard.is)
