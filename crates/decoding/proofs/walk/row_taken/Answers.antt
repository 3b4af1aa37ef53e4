-- `decoding::walk::row_taken` meets its contract.
use borrow.Author.Tests.{eq-eqb, ne_eqb}
use mathlib.Core.Bool.{Bool, cond}
use mathlib.Core.Path.{◌∙◌, ap, sym}
use Rattle.words.specs.Word.{bit}
use Rattle.decoding.proofs.walk.row_taken.Goals as goal

pub returns-then-bit_at-chosen : goal.returns-then-bit_at-chosen
returns-then-bit_at-chosen c =
    sym (ap (λ (b : Bool). cond b 0 c.args.row) (eq-eqb (bit c.args.sum c.args.t) c.args.chosen (sym c.bit_at.ensures ∙ c.if-bit_at-chosen.true)))

pub returns-else-bit_at-chosen : goal.returns-else-bit_at-chosen
returns-else-bit_at-chosen c =
    sym (ap (λ (b : Bool). cond b 0 c.args.row) (ne_eqb (bit c.args.sum c.args.t) c.args.chosen (λ e. c.if-bit_at-chosen.false (c.bit_at.ensures ∙ e))))
