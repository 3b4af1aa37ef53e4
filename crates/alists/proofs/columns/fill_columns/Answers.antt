-- `columns::fill_columns` meets its contract: the columns from i on are still to be put.
use mathlib.Core.Path.{sym, ◌∙◌}
use Rattle.alists.proofs.Filling.{columns-end, columns-on, columns-start}
use native.Mathlib.Omega.{arith}
use Rattle.alists.proofs.columns.fill_columns.Goals as goal

pub loop-i-init : goal.loop-i-init
loop-i-init c = (omega arith, columns-start c.args.table.now c.args.rows.now c.args.n)

pub loop-i-preserved : goal.loop-i-preserved
loop-i-preserved c =
    (omega arith, rw c.column_at.ensures (sym (columns-on c.loop-i.table c.args.rows.now c.loop-i.i c.args.n (omega arith)) ∙ c.loop-i.invariant.1))

pub returns : goal.returns
returns c =
    record { stands = sym (columns-end c.loop-i.table c.args.rows.now c.loop-i.i c.args.n (omega arith)) ∙ c.loop-i.invariant.1 }
