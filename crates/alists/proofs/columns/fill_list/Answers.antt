-- `columns::fill_list` meets its contract: position by position.
use mathlib.Core.Path.{refl}
use Rattle.alists.proofs.Filling.{listing-end, listing-on, listing_start}
use native.Mathlib.Omega.{arith}
use Rattle.alists.proofs.columns.fill_list.Goals as goal

pub loop-i-init : goal.loop-i-init
loop-i-init c = listing_start c.args.word c.args.table.now

pub put_one-count-requires : goal.put_one-count-requires
put_one-count-requires c =
    let l = c.loop-i.invariant in
    record {
      i_bound = omega arith;
      count_le_i = l.few;
    }

pub loop-i-preserved : goal.loop-i-preserved
loop-i-preserved c = listing-on _ refl (omega arith) c.loop-i.invariant c.put_one-count.ensures.is

pub returns : goal.returns
returns c =
    let e = listing-end (omega arith) c.loop-i.invariant in
    record { stands = e.0; count = e.1 }
