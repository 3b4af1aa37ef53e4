-- `counter::counter_in` meets its contract.
use Rattle.sheets.specs.declared.word.Word.TheVariants.{Heard}
use Rattle.sheets.specs.Numbers.{worth}
use Rattle.sheets.proofs.BlockLines.{counter-by, counter-none, counter-there, no-counter}
use mathlib.Core.Path.{◌∙◌, ap, sym}
use Prim.Native.Nat.{◌+◌}
use lib.Seq.{length-take-le}
use Rattle.sheets.specs.Text.{fields_from}
use Rattle.sheets.proofs.counter.counter_in.Goals as goal

pub slice_bounds-read_word-end : goal.slice_bounds-read_word-end
slice_bounds-read_word-end c = sym (length-take-le _ _ c.until-a.ensures.high)

pub returns-in_default : goal.returns-in_default
returns-in_default c =
    let a = c.args in
    let u = c.until-a in
    sym (counter-by a.line.now u.result u.ensures _ (sym c.read_word-word.ensures) ∙ no-counter c.read_word-word.result (fields_from a.line.now (u.result + 1)) c.in_default.not-Heard)

pub returns-then-a-line : goal.returns-then-a-line
returns-then-a-line c =
    let a = c.args in
    let u = c.until-a in
    sym (counter-by a.line.now u.result u.ensures Heard (sym c.read_word-word.ensures ∙ c.in-Heard.is) ∙ counter-none a.line.now u.result u.ensures.high c.if-a-line.true)

pub returns : goal.returns
returns c =
    let a = c.args in
    let u = c.until-a in
    let v = c.until-b in
    c.worth.ensures ∙ ap worth c.read_counter_field.ensures.value
    ∙ sym (counter-by a.line.now u.result u.ensures Heard (sym c.read_word-word.ensures ∙ c.in-Heard.is) ∙ counter-there a.line.now u.result u.ensures.high c.if-a-line.false v.result v.ensures)
