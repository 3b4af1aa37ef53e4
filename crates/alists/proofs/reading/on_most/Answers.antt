-- `reading::on_most` meets its contract.
use Rattle.std.proofs.lemmas.Result.{err_from_is_err_and}
use lib.ListN.{drop}
use mathlib.Core.Logic.{⊎_elim}
use lib.Seq.{get_or-take}
use Rattle.alists.proofs.Storing.{line_kept, line-lost, refused-for}
use Rattle.alists.proofs.Chain.{most-faulty, most-good, tall-over, wide-over}
use native.Mathlib.Omega.{arith}
use Rattle.alists.proofs.reading.on_most.Goals as goal

pub returns-in_err-next : goal.returns-in_err-next
returns-in_err-next c =
    let r = c.in_err-next.ensures in
    let p = err_from_is_err_and c.from_residual.result c.from_residual.ensures.1 in
    let l = rw r.ok_part at c.read_line.ensures.is in
    rw (p.1, p.2, refused-for r.ok_part r.value)
    (most-faulty c.args.table.now c.args.n c.args.m (line-lost _ 2 (drop c.args.at c.args.text.now) l))

pub returns-then-m-tall : goal.returns-then-m-tall
returns-then-m-tall c =
    let l = rw c.in_ok-next.ensures.ok_part at c.read_line.ensures.is in
    let k = line_kept 2 (drop c.args.at c.args.text.now) (omega arith) l.0 in
    let a = get_or-take 2 c.read_line.new.table 0 0 (omega arith) in
    let b = get_or-take 2 c.read_line.new.table 1 0 (omega arith) in
    ⊎_elim
    (λ t. tall-over c.args.table.now c.args.n c.args.m _ _ k (rw a t))
    (λ w. wide-over c.args.table.now c.args.n c.args.m _ _ k (rw a w.0) (rw b w.1))
    c.then-m-tall.either

pub on_weights-requires : goal.on_weights-requires
on_weights-requires c =
    let l = rw c.in_ok-next.ensures.ok_part at c.read_line.ensures.is in
    record {
      at_in_bounds = l.1;
      n_bound = c.requires.n_bound;
      m_bound = c.requires.m_bound;
      tall_bound = omega arith;
      wide_bound = omega arith;
    }

pub returns : goal.returns
returns c =
    let l = rw c.in_ok-next.ensures.ok_part at c.read_line.ensures.is in
    let k = line_kept 2 (drop c.args.at c.args.text.now) (omega arith) l.0 in
    let a = get_or-take 2 c.read_line.new.table 0 0 (omega arith) in
    let b = get_or-take 2 c.read_line.new.table 1 0 (omega arith) in
    rw (most-good c.args.n c.args.m _ _ k (rw a c.if-m-tall.false) (rw b c.if-n-wide.false), a, b) c.on_weights.ensures
