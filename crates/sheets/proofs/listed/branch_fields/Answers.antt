-- `listed::branch_fields` meets its contract.
use mathlib.Core.Path.{◌∙◌, sym}
use Rattle.sheets.specs.Listed.{branch_fields}
use Rattle.sheets.proofs.listed.branch_fields.Goals as goal

pub returns-in_default : goal.returns-in_default
unfolding branch_fields
returns-in_default c = rw (sym c.read_number.ensures.is ∙ c.in_default.is)

pub returns-in_default-read_number : goal.returns-in_default-read_number
unfolding branch_fields
returns-in_default-read_number c = rw (
  sym c.read_number.ensures.is ∙ c.in-Some.is,
  sym c.read_number-2.ensures.is ∙ c.in_default-read_number.is,
)

pub returns-in_default-read_number-2 : goal.returns-in_default-read_number-2
unfolding branch_fields
returns-in_default-read_number-2 c = rw (
  sym c.read_number.ensures.is ∙ c.in-Some.is,
  sym c.read_number-2.ensures.is ∙ c.in-Some-read_number.is,
  sym c.read_number-3.ensures.is ∙ c.in_default-read_number-2.is,
)

pub returns-in_default-read_number-3 : goal.returns-in_default-read_number-3
unfolding branch_fields
returns-in_default-read_number-3 c = rw (
  sym c.read_number.ensures.is ∙ c.in-Some.is,
  sym c.read_number-2.ensures.is ∙ c.in-Some-read_number.is,
  sym c.read_number-3.ensures.is ∙ c.in-Some-read_number-2.is,
  sym c.read_number-4.ensures.is ∙ c.in_default-read_number-3.is,
)

pub returns : goal.returns
unfolding branch_fields
returns c =
    rw (
      sym c.read_number.ensures.is ∙ c.in-Some.is,
      sym c.read_number-2.ensures.is ∙ c.in-Some-read_number.is,
      sym c.read_number-3.ensures.is ∙ c.in-Some-read_number-2.is,
      sym c.read_number-4.ensures.is ∙ c.in-Some-read_number-3.is,
    )
    c.branch_in.ensures
