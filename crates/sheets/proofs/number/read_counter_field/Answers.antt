-- `number::read_counter_field` meets its contract.
use borrow.Author.Tests.{le-leb, lt-leb}
use mathlib.Core.Path.{◌∙◌, refl, sym}
use native.Mathlib.Omega.{arith}
use Rattle.sheets.proofs.number.read_counter_field.Goals as goal

pub returns-in_default : goal.returns-in_default
returns-in_default c = rw (sym c.read_number.ensures.is ∙ c.in_default.is) (record { value = refl; below = tt })

pub returns-then-value-le65535 : goal.returns-then-value-le65535
returns-then-value-le65535 c =
    rw (sym c.read_number.ensures.is ∙ c.in-Some.is, le-leb c.in-Some.value 65535 c.if-value-le65535.true) (record {
      value = refl;
      below = omega arith;
    })

pub returns : goal.returns
returns c =
    rw (sym c.read_number.ensures.is ∙ c.in-Some.is, lt-leb c.in-Some.value 65535 (omega (arith, c.if-value-le65535.false))) (record {
      value = refl;
      below = tt;
    })
