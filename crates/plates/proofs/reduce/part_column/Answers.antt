-- `plates::reduce::part_column` meets its contract: with a row that ends there, or with none.
use native.Mathlib.Omega.{arith}
use Rattle.plates.proofs.LastOnesParted.{part-found, part_none}
use Rattle.plates.proofs.reduce.part_column.Goals as goal

pub last_ending-requires : goal.last_ending-requires
last_ending-requires c =
    record {
      k_bound = c.requires.basis.table.few;
      c_bound = c.requires.c_bound;
    }

pub part_rows-requires : goal.part_rows-requires
part_rows-requires c =
    record {
      p_bound = omega (arith, c.in-Some.ensures.within, c.requires.basis.table.few);
      c_bound = c.requires.c_bound;
    }

pub returns-in-Some : goal.returns-in-Some
returns-in-Some c =
    part-found c.requires.basis c.requires.parted c.in-Some.ensures c.part_rows.ensures

pub returns-in_default : goal.returns-in_default
returns-in_default c = part_none c.requires.basis c.requires.parted c.in_default.ensures
