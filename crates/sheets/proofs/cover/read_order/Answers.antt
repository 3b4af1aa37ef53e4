-- `cover::read_order` meets its contract.
use mathlib.Core.Path.{◌∙◌, sym}
use Rattle.sheets.proofs.cover.read_order.Goals as goal

pub returns-then-is_text : goal.returns-then-is_text
returns-then-is_text c = rw (sym c.is_text.ensures ∙ c.if-is_text.true)

pub returns-then-is_text-2 : goal.returns-then-is_text-2
returns-then-is_text-2 c = rw (sym c.is_text.ensures ∙ c.if-is_text.false, sym c.is_text-2.ensures ∙ c.if-is_text-2.true)

pub returns : goal.returns
returns c = rw (sym c.is_text.ensures ∙ c.if-is_text.false, sym c.is_text-2.ensures ∙ c.if-is_text-2.false)
