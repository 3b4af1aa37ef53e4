-- `plates::reduce::part_columns` meets its contract: column by column, from the right.
use native.Mathlib.Omega.{arith}
use Rattle.plates.proofs.LastOnesParted.{parted-before, parts-end, parts-on, parts-start}
use Rattle.plates.proofs.reduce.part_columns.Goals as goal

pub loop-c-init : goal.loop-c-init
loop-c-init c = (omega arith, parts-start c.requires.basis c.requires.by_index)

pub part_column-requires : goal.part_column-requires
part_column-requires c =
    let inv = c.loop-c.invariant in
    record {
      c_bound = omega arith;
      basis = inv.1.basis;
      parted = parted-before c.loop-c-test.true inv.1;
    }

pub loop-c-preserved : goal.loop-c-preserved
loop-c-preserved c = (omega arith, parts-on c.loop-c.invariant.1 c.part_column.ensures)

pub returns : goal.returns
returns c = parts-end c.loop-c-test.false c.loop-c.invariant.1
