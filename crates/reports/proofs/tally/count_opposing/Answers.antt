-- `tally::count_opposing` meets its contract.
use Rattle.reports.specs.Tally.{opposes}
use Rattle.reports.proofs.TallyCounts.{counted-first, opposing-end, opposing-on}
use Rattle.std.proofs.Common.{◌≡◌, ◌+◌, true, false, sym, get_or, pos, ◌∙◌, arith, to_z-of_z, w16}
use Rattle.words.specs.Word.{bit}
use Rattle.reports.proofs.tally.count_opposing.Goals as goal
use Rattle.reports.proofs.tally.count_opposing.Goals.{then-opposes, else-opposes}

pub loop-i-init : goal.loop-i-init
loop-i-init c = (c.requires, omega arith, counted-first _)

pub loop-i-preserved : goal.loop-i-preserved
loop-i-preserved c =
    let l = c.loop-i in
    let ys = c.args.samples.now in
    let y = get_or ys l.i (pos 0) in
    let f : c.opposes.result ≡ opposes y (bit c.args.word l.i) =
    rw (to_z-of_z {w = w16} {z = y} (record { sfits = c.opposes-arg-1.given }), c.bit_at.ensures) at c.opposes.ensures in
    elim c.if-opposes.branch [
      | then-opposes w ↦
          (let o : opposes y (bit c.args.word l.i) ≡ true = sym f ∙ w.if-opposes.true in
          (l.invariant.0, omega arith, rw w.count-is (opposing-on ys l.i c.args.word 1 (omega arith) (rw o) (omega arith) l.invariant.2)))
      | else-opposes w ↦
          (let o : opposes y (bit c.args.word l.i) ≡ false = sym f ∙ w.if-opposes.false in
          let e : c.if-opposes.count ≡ l.count + 0 = omega (arith, w.count-is) in
          (l.invariant.0, omega arith, rw e (opposing-on ys l.i c.args.word 0 (omega arith) (rw o) (omega arith) l.invariant.2)))
    ]

pub returns : goal.returns
returns c = opposing-end c.args.samples.now c.loop-i.i c.args.word (omega arith) c.loop-i.invariant.2
