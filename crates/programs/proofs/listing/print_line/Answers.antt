-- `listing::print_line` meets its contract.
use mathlib.Core.Path.{refl}
use Rattle.programs.proofs.LinesPrinted.{cut_short, is-line, none_left, one-line-more, outcome-of}
use Rattle.programs.proofs.listing.print_line.Goals as goal

pub hand_over-requires : goal.hand_over-requires
hand_over-requires g c =
    let pre = c.requires in
    let line = outcome-of c.in-Ok-Some.is (rw c.in-Ok-Some.is at c.in-Ok-Some.field-0-is) in
    record {
      line = is-line pre.enough pre.before c.next_line-step.ensures line;
      before = one-line-more pre.enough pre.before c.next_line-step.ensures line;
    }

pub returns-in-Ok-None : goal.returns-in-Ok-None
returns-in-Ok-None g c =
    let pre = c.requires in
    none_left pre.enough pre.before c.next_line-step.ensures _ refl (outcome-of c.in-Ok-None.is (rw c.in-Ok-None.is at c.in-Ok-None.field-0-is))

pub returns-in-Err : goal.returns-in-Err
returns-in-Err g c = cut_short
