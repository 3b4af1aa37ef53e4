-- `reading::on_columns` meets its contract.
use lib.ListN.{drop, length-replicate}
use lib.Seq.{length-take-le}
use mathlib.Core.List.{[]}
use mathlib.Core.Path.{sym}
use Prim.Native.Nat.{ℕ}
use Rattle.alists.specs.Reading.{lists_from}
use Rattle.alists.proofs.Bounds.{front}
use Rattle.alists.proofs.Chain.{answer-fault, columns-fault, columns-good, fault-read, words-read}
use native.Mathlib.Omega.{arith}
use Rattle.alists.proofs.reading.on_columns.Goals as goal

pub lists_at-requires : goal.lists_at-requires
lists_at-requires c =
    record {
      from_in_bounds = c.requires.at_in_bounds;
      most_bound = c.requires.tall_bound;
      size_bound = c.requires.m_bound;
      seen_len_bound = omega arith;
      weights_len_bound = omega arith;
    }

pub overflow_add-result : goal.overflow_add-result
overflow_add-result c =
    let e = c.in-Err.ensures.is in
    omega (arith, e.1)

pub slice_bounds-columns-end : goal.slice_bounds-columns-end
slice_bounds-columns-end c =
    let l = c.lists_at.ensures.size in
    omega (arith, l, length-replicate {A = ℕ} 64 0)

pub slice_bounds-on_rows-end : goal.slice_bounds-on_rows-end
slice_bounds-on_rows-end c =
    let l = c.lists_at.ensures.size in
    sym (length-take-le _ _ (omega (arith, l, length-replicate {A = ℕ} 64 0)))

pub on_rows-requires : goal.on_rows-requires
on_rows-requires c =
    let e = c.in-Ok.ensures.is in
    let w = words-read c.args.tall c.args.m [] c.args.heights.now (drop c.args.at c.args.text.now) e.0 in
    let z = c.lists_at.ensures.size in
    record {
      at_in_bounds = e.1;
      n_bound = c.requires.n_bound;
      most_bound = c.requires.wide_bound;
      columns_len_bound = rw (length-take-le c.args.n c.lists_at.new.table (omega (arith, z, length-replicate {A = ℕ} 64 0))) c.requires.n_bound;
      weights_len_bound = c.requires.widths_len_bound;
    }

pub returns-in-Err : goal.returns-in-Err
returns-in-Err c =
    let e = c.in-Err.ensures.is in
    let f = fault-read (lists_from c.args.tall c.args.m [] 0 c.args.heights.now (drop c.args.at c.args.text.now)) _ _ e.0 in
    answer-fault _ c.args.table.now (columns-fault c.args.n c.args.wide c.args.widths.now _ _ f)

pub returns-in-Ok : goal.returns-in-Ok
returns-in-Ok c =
    let e = c.in-Ok.ensures.is in
    let w = words-read c.args.tall c.args.m [] c.args.heights.now (drop c.args.at c.args.text.now) e.0 in
    let g = w.long in
    let f = front w.words c.args.n (omega (arith, g)) c.requires.n_bound in
    let s = w.stands in
    let k = columns-good c.args.n c.args.wide c.args.widths.now _ _ _ w.is in
    rw k (rw (s, f) at c.on_rows.ensures)
