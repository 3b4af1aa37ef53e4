-- `reading::on_rows` meets its contract.
use lib.ListN.{drop}
use Rattle.alists.specs.Reading.{lists_from}
use Rattle.alists.proofs.Chain.{answer-fault, fault-read, rows-done, rows-extra, rows-fault, words-read}
use native.Mathlib.Omega.{arith}
use Rattle.alists.proofs.reading.on_rows.Goals as goal

pub lists_at-requires : goal.lists_at-requires
lists_at-requires c =
    record {
      from_in_bounds = c.requires.at_in_bounds;
      most_bound = c.requires.most_bound;
      size_bound = c.requires.n_bound;
      seen_len_bound = c.requires.columns_len_bound;
      weights_len_bound = c.requires.weights_len_bound;
    }

pub overflow_add-result-in-Err : goal.overflow_add-result-in-Err
overflow_add-result-in-Err c =
    let e = c.in-Err.ensures.is in
    omega (arith, e.1)

pub returns-then-next-text : goal.returns-then-next-text
returns-then-next-text c =
    let e = c.in-Ok.ensures.is in
    let w = words-read c.args.most c.args.n c.args.columns.now c.args.weights.now (drop c.args.at c.args.text.now) e.0 in
    answer-fault _ c.args.table.now (rows-extra c.args.n c.args.text.now c.in-Ok.next w (omega arith))

pub returns-in-Err : goal.returns-in-Err
returns-in-Err c =
    let e = c.in-Err.ensures.is in
    let f = fault-read (lists_from c.args.most c.args.n c.args.columns.now 0 c.args.weights.now (drop c.args.at c.args.text.now)) _ _ e.0 in
    answer-fault _ c.args.table.now (rows-fault c.args.n _ _ f)

pub returns : goal.returns
returns c =
    let e = c.in-Ok.ensures.is in
    let w = words-read c.args.most c.args.n c.args.columns.now c.args.weights.now (drop c.args.at c.args.text.now) e.0 in
    rows-done c.args.n c.args.text.now c.in-Ok.next w c.requires.weights_len_bound (omega arith) c.args.table.now
