-- `pieces::put_text` meets its contract.
use lib.Seq.{length-take-le}
use mathlib.Core.Path.{sym}
use Rattle.alists.specs.Lists.{columns}
use Rattle.alists.proofs.Bounds.{columns-length, front, held}
use native.Mathlib.Omega.{arith}
use Rattle.alists.proofs.pieces.put_text.Goals as goal

pub slice_bounds-columns-end : goal.slice_bounds-columns-end
slice_bounds-columns-end c =
    let l = held (columns c.args.n c.args.rows.now) c.fill_columns.ensures.stands in
    omega (arith, l)

pub slice_bounds-put_matrix-end : goal.slice_bounds-put_matrix-end
slice_bounds-put_matrix-end c =
    let l = held (columns c.args.n c.args.rows.now) c.fill_columns.ensures.stands in
    sym (length-take-le _ _ (omega (arith, l)))

pub put_matrix-requires : goal.put_matrix-requires
put_matrix-requires c =
    let e = front (columns c.args.n c.args.rows.now) c.args.n (columns-length c.args.rows.now 0 c.args.n) c.requires.n_bound in
    let s = c.fill_columns.ensures.stands in
    let k = columns-length c.args.rows.now 0 c.args.n in
    rw (s, e) (record {
      columns_len_bound = omega (arith, k);
      rows_len_bound = c.requires.rows_len_bound;
    })

pub returns : goal.returns
returns c =
    let e = front (columns c.args.n c.args.rows.now) c.args.n (columns-length c.args.rows.now 0 c.args.n) c.requires.n_bound in
    let s = c.fill_columns.ensures.stands in
    let k = columns-length c.args.rows.now 0 c.args.n in
    rw (s, e) at c.put_matrix.ensures
