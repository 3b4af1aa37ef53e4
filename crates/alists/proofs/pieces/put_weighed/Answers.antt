-- `pieces::put_weighed` meets its contract: six parts.
use Rattle.alists.proofs.Weighed.{Weighed, all-put, heights-small, room-five, room-four, room-one, room-six, room-three, room-two, tall-few, wide-few, widths-small}
use Rattle.alists.proofs.pieces.put_weighed.Goals as goal
use Rattle.alists.proofs.pieces.put_weighed.Goals.{After-largest_of-wide}

-- what the parts stand on, once the largest weights are known
weighed : (c : After-largest_of-wide) → let a = c.args in
    Weighed a.columns.now a.rows.now a.heights.now a.widths.now c.largest_of-tall.result c.largest_of-wide.result
weighed c = record {
  few_columns = c.requires.columns_len_bound;
  few_rows = c.requires.rows_len_bound;
  heights_are = c.requires.heights_value;
  widths_are = c.requires.widths_value;
  tall_is = c.largest_of-tall.ensures;
  wide_is = c.largest_of-wide.ensures;
}

pub put_pair-sizes-requires : goal.put_pair-sizes-requires
put_pair-sizes-requires c =
    let w = weighed (goal.at.put_pair-sizes-requires c).After-largest_of-wide in
    record {
      one_bound = c.requires.columns_len_bound;
      other_bound = c.requires.rows_len_bound;
      other_bound_2 = room-one _ _ _ _ _ _ w c.args.room.now;
    }

pub put_pair-most-requires : goal.put_pair-most-requires
put_pair-most-requires c =
    let w = weighed (goal.at.put_pair-most-requires c).After-largest_of-wide in
    record {
      one_bound = tall-few w;
      other_bound = wide-few w;
      other_bound_2 = room-two _ _ _ _ _ _ w c.put_pair-sizes.ensures;
    }

pub put_line-first-requires : goal.put_line-first-requires
put_line-first-requires c =
    let w = weighed (goal.at.put_line-first-requires c).After-largest_of-wide in
    record {
      small = heights-small w;
      numbers_bound = room-three _ _ _ _ _ _ w c.put_pair-sizes.ensures c.put_pair-most.ensures;
    }

pub put_line-second-requires : goal.put_line-second-requires
put_line-second-requires c =
    let w = weighed (goal.at.put_line-second-requires c).After-largest_of-wide in
    record {
      small = widths-small w;
      numbers_bound = room-four _ _ _ _ _ _ w c.put_pair-sizes.ensures c.put_pair-most.ensures c.put_line-first.ensures;
    }

pub put_lists-lists-requires : goal.put_lists-lists-requires
put_lists-lists-requires c =
    let w = weighed (goal.at.put_lists-lists-requires c).After-largest_of-wide in
    record {
      most_bound = tall-few w;
      words_bound = room-five _ _ _ _ _ _ w c.put_pair-sizes.ensures c.put_pair-most.ensures c.put_line-first.ensures c.put_line-second.ensures;
    }

pub put_lists-requires : goal.put_lists-requires
put_lists-requires c =
    let w = weighed (goal.at.put_lists-requires c).After-largest_of-wide in
    record {
      most_bound = wide-few w;
      words_bound = room-six _ _ _ _ _ _ w c.put_pair-sizes.ensures c.put_pair-most.ensures c.put_line-first.ensures
          c.put_line-second.ensures c.put_lists-lists.ensures;
    }

pub returns : goal.returns
returns c =
    let w = weighed (goal.at.returns c).After-largest_of-wide in
    all-put _ _ _ _ _ _ w c.put_pair-sizes.ensures c.put_pair-most.ensures c.put_line-first.ensures
    c.put_line-second.ensures c.put_lists-lists.ensures c.put_lists.ensures
