-- `body::read_end` meets its contract.
use mathlib.Core.Path.{◌∙◌, sym}
use Rattle.sheets.proofs.Endings.{end-closed, end-then}
use Rattle.sheets.proofs.body.read_end.Goals as goal

pub after_end-requires : goal.after_end-requires
after_end-requires c =
    let a = c.args in
    let u = c.until-end in
    (end-closed a.n a.order a.came a.input.now a.at u.result c.requires.at_in_bounds u.ensures (sym (rw c.in-Ok-End.field-0-is at c.in-Ok-End.ensures))).high

pub returns-in-Ok-End : goal.returns-in-Ok-End
returns-in-Ok-End c =
    let a = c.args in
    let u = c.until-end in
    c.after_end.ensures
    ∙ sym (end-then a.n a.order a.came a.input.now a.at u.result c.requires.at_in_bounds u.ensures (sym (rw c.in-Ok-End.field-0-is at c.in-Ok-End.ensures)))

pub returns-in-Err : goal.returns-in-Err
returns-in-Err c = rw (← c.in-Err.ensures)

pub returns-in-Ok-Row : goal.returns-in-Ok-Row
returns-in-Ok-Row c = rw (← (rw c.in-Ok-Row.field-0-is at c.in-Ok-Row.ensures))

pub returns-in-Ok-Block : goal.returns-in-Ok-Block
returns-in-Ok-Block c = rw (← (rw c.in-Ok-Block.field-0-is at c.in-Ok-Block.ensures))
