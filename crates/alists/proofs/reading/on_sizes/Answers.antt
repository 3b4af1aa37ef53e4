-- `reading::on_sizes` meets its contract.
use Rattle.std.proofs.lemmas.Result.{err_from_is_err_and}
use lib.Seq.{get_or-take}
use mathlib.Core.Path.{sym, ◌∙◌}
use Rattle.alists.proofs.Storing.{line_kept, line-lost, refused-for}
use Rattle.alists.proofs.NumbersFound.{between}
use Rattle.alists.proofs.Chain.{size_none, size-none-second, sizes-faulty, sizes-good}
use native.Mathlib.Omega.{arith}
use Rattle.alists.proofs.reading.on_sizes.Goals as goal
use Rattle.alists.proofs.reading.on_sizes.Goals.{then-not-in_size-via-then-not-in_size, then-not-in_size-via-else-not-in_size+then-not-in_size-2}

pub returns-in_err-next : goal.returns-in_err-next
returns-in_err-next c =
    let r = c.in_err-next.ensures in
    let p = err_from_is_err_and c.from_residual.result c.from_residual.ensures.1 in
    let l = rw r.ok_part at c.read_line.ensures.is in
    rw (p.1, p.2, refused-for r.ok_part r.value) (sizes-faulty c.args.table.now c.args.text.now (line-lost _ 2 c.args.text.now l))

pub returns-then-not-in_size : goal.returns-then-not-in_size
returns-then-not-in_size c =
    let l = rw c.in_ok-next.ensures.ok_part at c.read_line.ensures.is in
    let k = line_kept 2 c.args.text.now (omega arith) l.0 in
    let a = get_or-take 2 c.read_line.new.table 0 0 (omega arith) in
    let b = get_or-take 2 c.read_line.new.table 1 0 (omega arith) in
    elim c.then-not-in_size.branch [
      | then-not-in_size-via-then-not-in_size w ↦ size_none c.args.table.now c.args.text.now _ _ k (rw a (sym c.in_size.ensures ∙ w.if-not-in_size.true))
      | then-not-in_size-via-else-not-in_size+then-not-in_size-2 w ↦
          size-none-second c.args.table.now c.args.text.now _ _ k
          (rw a (sym c.in_size.ensures ∙ w.if-not-in_size.false))
          (rw b (sym w.in_size-else-not-in_size.ensures ∙ w.if-not-in_size-2.true))
    ]

pub on_most-requires : goal.on_most-requires
on_most-requires c =
    let l = rw c.in_ok-next.ensures.ok_part at c.read_line.ensures.is in
    record {
      at_in_bounds = l.1;
      n_bound = (between 1 64 _ (sym c.in_size.ensures ∙ c.if-not-in_size.false)).1;
      m_bound = (between 1 64 _ (sym c.in_size-else-not-in_size.ensures ∙ c.if-not-in_size-2.false)).1;
    }

pub returns : goal.returns
returns c =
    let l = rw c.in_ok-next.ensures.ok_part at c.read_line.ensures.is in
    let k = line_kept 2 c.args.text.now (omega arith) l.0 in
    let a = get_or-take 2 c.read_line.new.table 0 0 (omega arith) in
    let b = get_or-take 2 c.read_line.new.table 1 0 (omega arith) in
    let first = sym c.in_size.ensures ∙ c.if-not-in_size.false in
    let second = sym c.in_size-else-not-in_size.ensures ∙ c.if-not-in_size-2.false in
    rw (sizes-good c.args.text.now _ _ k (rw a first) (rw b second), a, b) c.on_most.ensures
