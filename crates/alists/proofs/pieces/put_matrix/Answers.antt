-- `pieces::put_matrix` meets its contract.
use lib.ListN.{length}
use lib.Seq.{length-take-le}
use mathlib.Core.Path.{sym}
use Rattle.alists.specs.Text.{weights}
use Rattle.alists.proofs.Bounds.{front, held, length-weights}
use native.Mathlib.Omega.{arith}
use Rattle.alists.proofs.pieces.put_matrix.Goals as goal

pub slice_bounds-heights-end : goal.slice_bounds-heights-end
slice_bounds-heights-end c =
    let l = held (weights c.args.columns.now) c.fill_weights.ensures.stands in
    omega (arith, l)

pub slice_bounds-put_weighed-end : goal.slice_bounds-put_weighed-end
slice_bounds-put_weighed-end c =
    let l = held (weights c.args.columns.now) c.fill_weights.ensures.stands in
    sym (length-take-le _ _ (omega (arith, l)))

pub slice_bounds-widths-end : goal.slice_bounds-widths-end
slice_bounds-widths-end c =
    let l = held (weights c.args.rows.now) c.fill_weights-2.ensures.stands in
    omega (arith, l)

pub slice_bounds-put_weighed-end-2 : goal.slice_bounds-put_weighed-end-2
slice_bounds-put_weighed-end-2 c =
    let l = held (weights c.args.rows.now) c.fill_weights-2.ensures.stands in
    sym (length-take-le _ _ (omega (arith, l)))

pub put_weighed-requires : goal.put_weighed-requires
put_weighed-requires c =
    let e = front (weights c.args.columns.now) (length c.args.columns.now) (length-weights c.args.columns.now) c.requires.columns_len_bound in
    let f = front (weights c.args.rows.now) (length c.args.rows.now) (length-weights c.args.rows.now) c.requires.rows_len_bound in
    let s = c.fill_weights.ensures.stands in
    let t = c.fill_weights-2.ensures.stands in
    record {
      columns_len_bound = c.requires.columns_len_bound;
      rows_len_bound = c.requires.rows_len_bound;
      heights_value = rw (s, e);
      widths_value = rw (t, f);
    }

pub returns : goal.returns
returns c = c.put_weighed.ensures
