-- `plates::plate_of_matrix` meets its contract: the steps one after the other.
use mathlib.Core.Path.{refl}
use Rattle.plates.proofs.ProfilePassed.{marks-balanced, widen-rows}
use Rattle.plates.proofs.Replies.{plate-done}
use Rattle.plates.proofs.plate_of_matrix.Goals as goal

pub fill-used-requires : goal.fill-used-requires
fill-used-requires c =
    let pre = c.requires in
    record {
      n_bound = pre.n_bound;
      rows_len_bound = pre.rows_len_bound;
      by_index = pre.by_index;
      table_value = refl;
    }

pub reduce-k-requires : goal.reduce-k-requires
reduce-k-requires c = c.fill-used.ensures.table

pub heads-heads-requires : goal.heads-heads-requires
heads-heads-requires c = widen-rows c.reduce-k.ensures.rows

pub ends-ends-requires : goal.ends-ends-requires
ends-ends-requires c = widen-rows c.reduce-k.ensures.rows

pub tally-requires : goal.tally-requires
tally-requires c =
    record {
      balanced = marks-balanced c.reduce-k.ensures.rows c.heads-heads.ensures c.ends-ends.ensures;
      profile_value = refl;
    }

pub returns : goal.returns
returns c =
    plate-done c.fill-used.ensures c.reduce-k.ensures c.heads-heads.ensures c.ends-ends.ensures c.tally.ensures
