-- `plates::matrix::fill` meets its contract: the rows themselves, or the words that pass them.
use Rattle.plates.proofs.CheckTaken.{checked}
use Rattle.plates.proofs.TableFilled.{loaded, units-table}
use Rattle.plates.proofs.matrix.fill.Goals as goal

pub take_checks-requires : goal.take_checks-requires
take_checks-requires c =
    let pre = c.requires in
    units-table pre.n_bound c.unit_words.ensures

pub returns-in-G : goal.returns-in-G
returns-in-G c =
    let pre = c.requires in
    loaded c.in-G.is pre.n_bound pre.rows_len_bound pre.by_index c.load_rows.ensures

pub returns-in-H : goal.returns-in-H
returns-in-H c =
    let pre = c.requires in
    checked c.in-H.is pre.n_bound c.unit_words.ensures c.take_checks.ensures
