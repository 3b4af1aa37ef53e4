-- `plates::tested::used_sound` meets its contract.
use Rattle.plates.proofs.Deciding.{alike, fails}
use Rattle.plates.proofs.RowsPlaced.{empty-table}
use Rattle.plates.proofs.tested.used_sound.Goals as goal

pub place_rows-requires : goal.place_rows-requires
place_rows-requires c =
    let p = c.requires in
    record {
      n_bound = p.n_bound.0;
      rows_len_bound = p.rows_len_bound;
      by_last = empty-table _;
    }

pub returns-then-not-place_rows : goal.returns-then-not-place_rows
returns-then-not-place_rows c = fails (λ u. c.place_rows.ensures.decides.no_is c.if-not-place_rows.true u.standing)

pub heads_clear-requires : goal.heads_clear-requires
heads_clear-requires c =
    let p = c.requires in
    let e = c.place_rows.ensures in
    record {
      n_bound = p.n_bound.0;
      rows_len_bound = p.rows_len_bound;
      standing = e.decides.yes_is c.if-not-place_rows.false;
      by_last = e.by_last c.if-not-place_rows.false;
    }

pub returns-then-not-heads_clear : goal.returns-then-not-heads_clear
returns-then-not-heads_clear c = fails (λ u. c.heads_clear.ensures.no_is c.if-not-heads_clear.true u.cleared)

pub profile_is-requires : goal.profile_is-requires
profile_is-requires c =
    let p = c.requires in
    let e = c.place_rows.ensures in
    record {
      n_bound = p.n_bound;
      rows_len_bound = p.rows_len_bound;
      standing = e.decides.yes_is c.if-not-place_rows.false;
      by_last = e.by_last c.if-not-place_rows.false;
    }

pub returns : goal.returns
returns c =
    alike
    (λ p. record {
      standing = c.place_rows.ensures.decides.yes_is c.if-not-place_rows.false;
      cleared = c.heads_clear.ensures.yes_is c.if-not-heads_clear.false;
      profiled = p;
    })
    (λ u. u.profiled) c.profile_is.ensures
