-- `plates::matrix::take_check` meets its contract: with an odd row, or with none.
use mathlib.Core.Path.{refl}
use native.Mathlib.Omega.{arith}
use Rattle.plates.proofs.CheckTaken.{check-found, check-none}
use Rattle.plates.proofs.matrix.take_check.Goals as goal

pub first_odd-requires : goal.first_odd-requires
first_odd-requires c =
    record {
      from_le_to = omega arith;
      to_bound = c.requires.few;
    }

pub even_rows-requires : goal.even_rows-requires
even_rows-requires c =
    record {
      odd_lt_to = c.in-Some.ensures.within;
      to_bound = c.requires.few;
    }

pub returns-in-Some : goal.returns-in-Some
returns-in-Some c = check-found c.requires c.in-Some.ensures c.even_rows.ensures refl

pub returns-in_default : goal.returns-in_default
returns-in_default c = check-none c.requires c.in_default.ensures
