-- `blocks::decoded_line` meets its contract.
use Rattle.plates.specs.declared.Refusal.{Refusal}
use Rattle.decoding.specs.declared.Answer.{Answer}
use Rattle.reports.specs.Steps.{Printable}
use Rattle.std.proofs.Common.{subst, Result}
use Rattle.reports.proofs.blocks.decoded_line.Goals as goal

pub found_line-requires : goal.found_line-requires
found_line-requires c = subst (λ (d : Result Answer Refusal). Printable d c.args.before.plate) c.in-Ok.is c.requires

pub returns-in-Ok : goal.returns-in-Ok
returns-in-Ok c = rw c.in-Ok.is (rw c.is_silent.ensures at c.found_line.ensures)

pub returns-in-Err : goal.returns-in-Err
returns-in-Err c = rw c.in-Err.is c.refused_block.ensures
