-- `plates::reduce::clear_heads` meets its contract: row by row.
use native.Mathlib.Omega.{arith}
use Rattle.plates.proofs.HeadsCleared.{clear-end, clear-on, clear-start}
use Rattle.plates.proofs.LastOnesParted.{row-ready}
use Rattle.plates.proofs.reduce.clear_heads.Goals as goal

pub loop-j-init : goal.loop-j-init
loop-j-init c = (omega arith, clear-start c.requires.basis c.requires.parted)

pub clear_rows-requires : goal.clear_rows-requires
clear_rows-requires c =
    let ready = row-ready c.loop-j.invariant.1.basis c.loop-j-test.true in
    record {
      j_bound = ready.0;
      nonzero = ready.1.1.0;
      j_bound_2 = ready.1.1.1;
    }

pub loop-j-preserved : goal.loop-j-preserved
loop-j-preserved c = (omega arith, clear-on c.loop-j-test.true c.loop-j.invariant.1 c.clear_rows.ensures)

pub returns : goal.returns
returns c = clear-end c.loop-j.invariant.0 c.loop-j-test.false c.loop-j.invariant.1
