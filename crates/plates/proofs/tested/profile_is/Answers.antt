-- `plates::tested::profile_is` meets its contract. The loop's invariant: the entries before t are the rows' own, and `live` rows are live at t.
use native.Mathlib.Omega.{arith}
use Rattle.plates.proofs.Deciding.{fails}
use Rattle.plates.proofs.ProfileTested.{next-live, profiled-all, profiled-more, profiled-none, profiled-stop}
use Rattle.words.proofs.Word.{bit-lt}
use Rattle.plates.proofs.tested.profile_is.Goals as goal

pub all_heads-heads-requires : goal.all_heads-heads-requires
all_heads-heads-requires c = c.requires.standing.spans

pub loop-t-init : goal.loop-t-init
loop-t-init c = profiled-none _ _ c.requires.standing _

pub bounds-profile-t : goal.bounds-profile-t
bounds-profile-t c = let p = c.requires in omega (arith, c.loop-t-test.true, p.n_bound.0, p.n_bound.1)

pub returns-then-not-entry_is : goal.returns-then-not-entry_is
returns-then-not-entry_is c =
    let p = c.requires in
    fails (profiled-stop _ _ p.standing p.rows_len_bound p.n_bound.0 _ _ _ _ _ c.all_heads-heads.ensures p.by_last c.loop-t.invariant c.loop-t-test.true
    (c.entry_is.ensures.no_is c.if-not-entry_is.true))

pub overflow_add-live : goal.overflow_add-live
overflow_add-live c =
    let e = c.entry_is.ensures.yes_is c.if-not-entry_is.false in
    record { fits = omega (arith, e.1, c.bit_at.ensures, bit-lt c.loop-t.t c.all_heads-heads.result) }

pub ending_at-requires : goal.ending_at-requires
ending_at-requires c = omega (arith, c.requires.n_bound.0)

pub overflow_sub-live : goal.overflow_sub-live
overflow_sub-live c =
    let p = c.requires in
    omega (
      arith,
      c.ending_at.ensures,
      c.bit_at.ensures,
      next-live _ _ p.standing p.rows_len_bound p.n_bound.0 _ _ _ _ _ c.all_heads-heads.ensures p.by_last c.loop-t.invariant c.loop-t-test.true,
    )

pub loop-t-preserved : goal.loop-t-preserved
loop-t-preserved c =
    let p = c.requires in
    rw (c.ending_at.ensures, c.bit_at.ensures)
    (profiled-more _ _ p.standing p.rows_len_bound p.n_bound.0 _ _ _ _ _ c.all_heads-heads.ensures p.by_last c.loop-t.invariant c.loop-t-test.true
    (c.entry_is.ensures.yes_is c.if-not-entry_is.false))

pub bounds-profile-n : goal.bounds-profile-n
bounds-profile-n c = let p = c.requires in omega (arith, p.n_bound.0, p.n_bound.1)

pub returns : goal.returns
returns c = profiled-all _ _ c.requires.standing _ _ _ c.loop-t-test.false c.loop-t.invariant
