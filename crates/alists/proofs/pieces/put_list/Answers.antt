-- `pieces::put_list` meets its contract.
use lib.Seq.{length-take-le}
use mathlib.Core.Path.{sym}
use Rattle.alists.proofs.Bounds.{held}
use Rattle.alists.specs.Lists.{indices}
use Rattle.alists.proofs.ListsPut.{list-small, list-taken}
use native.Mathlib.Omega.{arith}
use Rattle.alists.proofs.pieces.put_list.Goals as goal

pub slice_bounds-table-end : goal.slice_bounds-table-end
slice_bounds-table-end c =
    let l = held (indices c.args.word) c.fill_list.ensures.stands in
    omega (arith, l)

pub slice_bounds-put_line-end : goal.slice_bounds-put_line-end
slice_bounds-put_line-end c =
    let l = held (indices c.args.word) c.fill_list.ensures.stands in
    sym (length-take-le _ _ (omega (arith, l)))

pub put_line-requires : goal.put_line-requires
put_line-requires c =
    let s = c.fill_list.ensures.stands in
    let e = list-taken c.args.most c.args.word c.requires.most_bound in
    rw (s, e) (record {
      small = list-small c.args.most c.args.word;
      numbers_bound = c.requires.word_bound;
    })

pub returns : goal.returns
returns c =
    let s = c.fill_list.ensures.stands in
    let e = list-taken c.args.most c.args.word c.requires.most_bound in
    rw (s, e) at c.put_line.ensures
