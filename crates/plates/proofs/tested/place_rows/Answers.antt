-- `plates::tested::place_rows` meets its contract. The loop's invariant: the rows passed stand as a plate's do, and are in the table.
use native.Mathlib.Omega.{arith}
use Rattle.plates.proofs.RowsPlaced.{first-inside, last-inside, seen_all, seen_next, seen_none, seen-stop}
use Rattle.plates.proofs.tested.place_rows.Goals as goal

pub loop-i-init : goal.loop-i-init
loop-i-init c = seen_none _ c.requires.by_last

pub may_follow-requires : goal.may_follow-requires
may_follow-requires c = c.requires.n_bound

pub returns-then-not-may_follow : goal.returns-then-not-may_follow
returns-then-not-may_follow c =
    seen-stop _ _ _ _ _ c.requires.rows_len_bound c.loop-i.invariant c.loop-i-test.true (c.may_follow.ensures.no_is c.if-not-may_follow.true)

pub overflow_cast-by_last : goal.overflow_cast-by_last
overflow_cast-by_last c = record { fits = omega (arith, c.requires.rows_len_bound) }

pub bounds-by_last-last_one : goal.bounds-by_last-last_one
bounds-by_last-last_one c =
    last-inside _ _ _ _ c.requires.n_bound (c.type_inv.rows c.loop-i.i).fits c.last_one.ensures (c.may_follow.ensures.yes_is c.if-not-may_follow.false)

pub overflow_add-from : goal.overflow_add-from
overflow_add-from c =
    let m = c.may_follow.ensures.yes_is c.if-not-may_follow.false in
    record { fits = omega (arith, first-inside _ _ _ _ c.requires.n_bound (c.type_inv.rows c.loop-i.i).fits c.first_one-from.ensures m) }

pub loop-i-preserved : goal.loop-i-preserved
loop-i-preserved c =
    seen_next _ _ _ _ _ c.requires.rows_len_bound c.loop-i.invariant c.loop-i-test.true (c.type_inv.rows c.loop-i.i).fits c.last_one.ensures c.first_one-from.ensures
    (c.may_follow.ensures.yes_is c.if-not-may_follow.false)

pub returns : goal.returns
returns c = seen_all _ _ _ _ _ c.requires.n_bound c.loop-i.invariant c.loop-i-test.false
