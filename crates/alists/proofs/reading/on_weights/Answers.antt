-- `reading::on_weights` meets its contract.
use Rattle.std.proofs.lemmas.Result.{err_from_is_err_and}
use lib.ListN.{drop, take}
use Rattle.alists.proofs.Storing.{refused-for, weights-kept, weights-lost}
use Rattle.alists.proofs.Chain.{answer-fault, heights-lost, heights-met, widths-lost, widths-met}
use Rattle.alists.specs.Lines.{line_of}
use Rattle.alists.proofs.reading.on_weights.Goals as goal

pub returns-in_err-below : goal.returns-in_err-below
returns-in_err-below c =
    let r = c.in_err-below.ensures in
    let p = err_from_is_err_and c.from_residual.result c.from_residual.ensures.1 in
    let line = line_of c.args.n (drop c.args.at c.args.text.now) in
    let l = rw r.ok_part at c.weights_at.ensures.is in
    rw (p.1, p.2, refused-for r.ok_part r.value)
    (answer-fault _ c.args.table.now (heights-lost c.args.n c.args.m c.args.tall c.args.wide line (weights-lost c.args.tall _ line l)))

pub returns-in_err-lists : goal.returns-in_err-lists
returns-in_err-lists c =
    let r = c.in_err-lists.ensures in
    let p = err_from_is_err_and c.from_residual-in_err-lists.result c.from_residual-in_err-lists.ensures.1 in
    let h = rw c.in_ok-below.ensures.ok_part at c.weights_at.ensures.is in
    let k = weights-kept c.args.tall c.args.n (drop c.args.at c.args.text.now) c.requires.n_bound h.0 in
    let line = line_of c.args.m (drop c.in_ok-below.below c.args.text.now) in
    let lost = weights-lost c.args.wide _ line (rw r.ok_part at c.weights_at-2.ensures.is) in
    rw (p.1, p.2, refused-for r.ok_part r.value, heights-met c.args.n c.args.m c.args.tall c.args.wide _ _ k.0 k.1)
    (answer-fault _ c.args.table.now (widths-lost c.args.n c.args.m c.args.tall c.args.wide (take c.args.n c.weights_at.new.table) line lost))

pub returns : goal.returns
returns c =
    let h = rw c.in_ok-below.ensures.ok_part at c.weights_at.ensures.is in
    let w = rw c.in_ok-lists.ensures.ok_part at c.weights_at-2.ensures.is in
    let k = weights-kept c.args.tall c.args.n (drop c.args.at c.args.text.now) c.requires.n_bound h.0 in
    let j = weights-kept c.args.wide c.args.m (drop c.in_ok-below.below c.args.text.now) c.requires.m_bound w.0 in
    rw (
      heights-met c.args.n c.args.m c.args.tall c.args.wide _ _ k.0 k.1,
      widths-met c.args.n c.args.m c.args.tall c.args.wide (take c.args.n c.weights_at.new.table) _ _ j.0 j.1,
    )
    c.on_columns.ensures
