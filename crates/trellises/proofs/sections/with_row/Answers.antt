-- `trellises::sections::with_row` meets its contract: a row that begins later or ended before changes nothing.
use borrow.Author.Tests.{eq-eqb, ne_eqb}
use mathlib.Core.Bool.{Bool, cond}
use mathlib.Core.Path.{ap, refl, sym}
use Prim.Native.Nat.{◌+◌}
use Rattle.trellises.proofs.HeldSection.{held-active, held-early, held-late}
use Rattle.trellises.proofs.sections.with_row.Goals as goal

pub returns-then-t-first : goal.returns-then-t-first
returns-then-t-first c =
    held-early c.args.t c.args.row c.args.section c.requires c.ranges.row.fits c.first_one-first.result c.first_one-first.ensures c.if-t-first.true

pub returns-then-last-t : goal.returns-then-last-t
returns-then-last-t c =
    held-late c.args.t c.args.row c.args.section c.requires c.ranges.row.fits c.first_one-first.result
    c.first_one-first.ensures c.if-t-first.false c.last_one-last.result c.last_one-last.ensures c.if-last-t.true

pub returns-then-last-t-2 : goal.returns-then-last-t-2
returns-then-last-t-2 c =
    held-active c.args.t c.args.row c.args.section c.requires c.ranges.row.fits c.first_one-first.result
    c.first_one-first.ensures c.if-t-first.false c.last_one-last.result c.last_one-last.ensures c.if-last-t.false
    c.bit_at.ensures refl refl refl (sym (ap (λ (b : Bool). cond b 0 (c.args.section.ending + 1)) (eq-eqb _ _ c.if-last-t-2.true)))

pub returns-else-last-t-2 : goal.returns-else-last-t-2
returns-else-last-t-2 c =
    held-active c.args.t c.args.row c.args.section c.requires c.ranges.row.fits c.first_one-first.result
    c.first_one-first.ensures c.if-t-first.false c.last_one-last.result c.last_one-last.ensures c.if-last-t.false
    c.bit_at.ensures refl refl refl (sym (ap (λ (b : Bool). cond b 0 (c.args.section.ending + 1)) (ne_eqb _ _ c.if-last-t-2.false)))
