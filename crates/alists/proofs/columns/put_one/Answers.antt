-- `columns::put_one` meets its contract.
use borrow.Author.Tests.{eq-eqb, ne_eqb}
use mathlib.Core.Path.{refl, sym, ◌∙◌}
use native.Mathlib.Numerals.{add-one}
use Rattle.words.specs.Word.{bit}
use native.Mathlib.Omega.{arith}
use Rattle.alists.proofs.columns.put_one.Goals as goal

pub returns-then-bit_at-eq1 : goal.returns-then-bit_at-eq1
returns-then-bit_at-eq1 c =
    record { is = rw (eq-eqb (bit c.args.word c.args.i) 1 (sym c.bit_at.ensures ∙ c.if-bit_at-eq1.true)) (rw add-one, omega arith) }

pub returns : goal.returns
returns c =
    record { is = rw (ne_eqb (bit c.args.word c.args.i) 1 (λ e. c.if-bit_at-eq1.false (c.bit_at.ensures ∙ e))) (refl, refl) }
