-- `plates::reduce::column` meets its contract: with a row that has a one in the column, or with none.
use Rattle.plates.proofs.FirstOnesRise.{column-found, column-none, pivot-ready}
use Rattle.plates.proofs.TableFilled.{shifted_one}
use Rattle.plates.proofs.reduce.column.Goals as goal

pub first_odd-requires : goal.first_odd-requires
first_odd-requires c =
    record {
      from_le_to = c.requires.echelon.few;
      to_bound = c.requires.echelon.table.few;
    }

pub even_rows-requires : goal.even_rows-requires
even_rows-requires c =
    let ready = pivot-ready (shifted_one _ c.requires.c_bound) c.requires.echelon c.in-Some.ensures c.swap_rows.ensures in
    record {
      odd_lt_to = ready.0;
      to_bound = ready.1.0;
    }

pub returns : goal.returns
returns c =
    column-found (shifted_one _ c.requires.c_bound) c.requires.echelon c.in-Some.ensures c.swap_rows.ensures c.even_rows.ensures

pub returns-in_default : goal.returns-in_default
returns-in_default c =
    column-none (shifted_one _ c.requires.c_bound) c.requires.echelon c.in_default.ensures
