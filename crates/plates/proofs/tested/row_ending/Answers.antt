-- `plates::tested::row_ending` meets its contract.
use native.Mathlib.Omega.{arith}
use Rattle.plates.proofs.RowsPlaced.{entry-le, none-ending, some-ending}
use Rattle.plates.proofs.tested.row_ending.Goals as goal

pub overflow_cast-at : goal.overflow_cast-at
overflow_cast-at c =
    record { fits = omega (arith, entry-le _ _ _ c.requires.rows_len_bound c.requires.by_last c.requires.t_bound) }

pub returns-then-at-rows : goal.returns-then-at-rows
returns-then-at-rows c = let p = c.requires in some-ending _ _ _ p.rows_len_bound p.by_last p.t_bound c.if-at-rows.true

pub returns : goal.returns
returns c = let p = c.requires in none-ending _ _ _ p.rows_len_bound p.by_last p.t_bound c.if-at-rows.false
