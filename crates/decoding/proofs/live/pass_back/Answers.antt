-- `decoding::live::pass_back` meets its contract: the row that ends joins the live rows, and the row that begins leaves them.
use lib.ListN.{take}
use native.Mathlib.Omega.{arith}
use Prim.Native.Nat.{suc}
use Rattle.decoding.proofs.BegunRows.{begun-few}
use Rattle.decoding.proofs.PassedBack.{all-active, before-few, passed-back}
use Rattle.decoding.proofs.PassedRows.{active-fits, counted, ending-few, ending-joins}
use Rattle.decoding.proofs.live.pass_back.Goals as goal

pub mark_of-requires : goal.mark_of-requires
mark_of-requires c = ending-few c.requires.plate_rows c.args.t c.requires.ends_are c.requires.t_bound.0

pub overflow_add-active : goal.overflow_add-active
overflow_add-active c =
    let joined = ending-joins c.requires.plate_rows c.args.t c.requires.ends_are c.requires.t_bound.0 c.requires.t_bound.1.marks_are c.mark_of.ensures in
    record { fits = active-fits c.requires.plate_rows c.args.t joined }

pub rows_before-before-requires : goal.rows_before-before-requires
rows_before-before-requires c =
    let p = c.requires.plate_rows in
    let b = c.requires.t_bound.1.next_is in
    (p.table, omega (arith, b, begun-few (suc c.args.t) (take c.args.k c.args.rows.now), counted p, p.few))

pub column_of-column-requires : goal.column_of-column-requires
column_of-column-requires c =
    let joined = ending-joins c.requires.plate_rows c.args.t c.requires.ends_are c.requires.t_bound.0 c.requires.t_bound.1.marks_are c.mark_of.ensures in
    (c.requires.plate_rows.table, c.requires.t_bound.0, all-active c.requires.plate_rows c.args.t joined)

pub overflow_cast-result : goal.overflow_cast-result
overflow_cast-result c =
    let joined = ending-joins c.requires.plate_rows c.args.t c.requires.ends_are c.requires.t_bound.0 c.requires.t_bound.1.marks_are c.mark_of.ensures in
    let before = c.rows_before-before.ensures.live c.args.k c.requires.plate_rows joined c.requires.t_bound.1.next_is in
    record { fits = omega (arith, before-few c.requires.plate_rows c.args.t joined c.requires.ends_are c.requires.t_bound.0 before) }

pub rows_below-requires : goal.rows_below-requires
rows_below-requires c = ending-few c.requires.plate_rows c.args.t c.requires.ends_are c.requires.t_bound.0

pub returns : goal.returns
returns c =
    let joined = ending-joins c.requires.plate_rows c.args.t c.requires.ends_are c.requires.t_bound.0 c.requires.t_bound.1.marks_are c.mark_of.ensures in
    let before = c.rows_before-before.ensures.live c.args.k c.requires.plate_rows joined c.requires.t_bound.1.next_is in
    passed-back c.requires.plate_rows c.args.t joined c.requires.ends_are c.requires.t_bound.0 before c.rows_below.ensures
    c.column_of-column.ensures
