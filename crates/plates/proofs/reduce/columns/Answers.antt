-- `plates::reduce::columns` meets its contract: column by column.
use native.Mathlib.Omega.{arith}
use Rattle.plates.proofs.FirstOnesRise.{columns-end, columns-on, columns-start}
use Rattle.plates.proofs.reduce.columns.Goals as goal

pub loop-c-init : goal.loop-c-init
loop-c-init c = columns-start c.requires

pub column-k-requires : goal.column-k-requires
column-k-requires c =
    record {
      c_bound = omega (arith, c.requires.short);
      echelon = c.loop-c.invariant.shape;
    }

pub loop-c-preserved : goal.loop-c-preserved
loop-c-preserved c = columns-on c.loop-c.invariant c.column-k.ensures

pub returns : goal.returns
returns c = columns-end c.requires c.loop-c-test.false c.loop-c.invariant
