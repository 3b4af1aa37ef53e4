-- `cover::cover_fields` meets its contract.
use mathlib.Core.Path.{◌∙◌, sym}
use Rattle.sheets.specs.Covers.{cover_fields}
use Rattle.sheets.proofs.cover.cover_fields.Goals as goal

pub returns-in_default : goal.returns-in_default
unfolding cover_fields
returns-in_default c = rw (sym c.read_number.ensures.is ∙ c.in_default.is)

pub returns-in_default-read_kind : goal.returns-in_default-read_kind
unfolding cover_fields
returns-in_default-read_kind c = rw (sym c.read_number.ensures.is ∙ c.in-Some.is, sym c.read_kind.ensures ∙ c.in_default-read_kind.is)

pub returns-in_default-read_order : goal.returns-in_default-read_order
unfolding cover_fields
returns-in_default-read_order c =
    rw (sym c.read_number.ensures.is ∙ c.in-Some.is, sym c.read_kind.ensures ∙ c.in-Some-read_kind.is, sym c.read_order.ensures ∙ c.in_default-read_order.is)

pub returns : goal.returns
unfolding cover_fields
returns c =
    rw (sym c.read_number.ensures.is ∙ c.in-Some.is, sym c.read_kind.ensures ∙ c.in-Some-read_kind.is, sym c.read_order.ensures ∙ c.in-Some-read_order.is)
