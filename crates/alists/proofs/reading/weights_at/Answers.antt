-- `reading::weights_at` meets its contract.
use lib.ListN.{drop}
use lib.Seq.{length-take-le}
use mathlib.Core.Path.{sym, ◌≡◌, ◌∙◌}
use Rattle.alists.proofs.Storing.{line-kept-in, met-lost, met-same, met-unmet}
use Rattle.alists.specs.Lines.{line_of}
use native.Mathlib.Omega.{arith}
use Rattle.alists.proofs.reading.weights_at.Goals as goal

pub returns-in_err-next : goal.returns-in_err-next
returns-in_err-next c =
    let l = c.in_err-next.ensures.is in
    let line = line_of c.args.count (drop c.args.at c.args.text.now) in
    record { size = c.read_line.ensures.size; is = rw c.from_residual.ensures (met-lost c.args.most c.args.table.now line l) }

pub slice_bounds-largest_of-end : goal.slice_bounds-largest_of-end
slice_bounds-largest_of-end c =
    let s = c.read_line.ensures.size in
    sym (length-take-le _ _ (omega (arith, s)))

pub returns-then-largest_of-most : goal.returns-then-largest_of-most
returns-then-largest_of-most c =
    let l = c.in_ok-next.ensures.is in
    let k = line-kept-in c.args.table.now c.args.count (drop c.args.at c.args.text.now) (omega arith) l.0 in
    record {
      size = c.read_line.ensures.size;
      is = met-unmet c.args.most c.args.table.now _ _ k (λ e. omega (arith, c.if-largest_of-most.true, c.largest_of.ensures, e));
    }

pub returns : goal.returns
returns c =
    let l = c.in_ok-next.ensures.is in
    let q : c.largest_of.result ≡ c.args.most = omega arith in
    let k = line-kept-in c.args.table.now c.args.count (drop c.args.at c.args.text.now) (omega arith) l.0 in
    record {
      size = c.read_line.ensures.size;
      is = rw (met-same c.args.most _ _ k (sym c.largest_of.ensures ∙ q)) l;
    }
