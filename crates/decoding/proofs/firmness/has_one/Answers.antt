-- `decoding::firmness::has_one` meets its contract. The loop's invariant: the rows before j have 0 at the position.
use mathlib.Core.Bool.{false≢true, true≢false}
use mathlib.Core.Path.{◌≡◌, ◌∙◌, sym}
use native.Mathlib.Omega.{arith}
use Rattle.decoding.proofs.ForcedRows.{passed-row}
use Rattle.decoding.proofs.firmness.has_one.Goals as goal

pub loop-j-init : goal.loop-j-init
loop-j-init c = (omega arith, λ i h. absurd (omega arith))

pub returns-then-bit_at-eq1 : goal.returns-then-bit_at-eq1
returns-then-bit_at-eq1 c =
    record {
      yes_is = λ h. record { row = c.loop-j.j; there = c.loop-j-test.true; one = sym c.bit_at.ensures ∙ c.if-bit_at-eq1.true };
      no_is = λ h. absurd (true≢false h);
    }

pub loop-j-preserved : goal.loop-j-preserved
loop-j-preserved c =
    let l = c.loop-j in (
      omega (arith, c.loop-j-test.true),
      passed-row c.args.rows.now c.args.position l.j l.invariant.1 (λ e. c.if-bit_at-eq1.false (c.bit_at.ensures ∙ e)),
    )

pub returns : goal.returns
returns c =
    let e : c.loop-j.j ≡ c.args.k = omega (arith, c.loop-j-test.false, c.loop-j.invariant.0) in
    record { yes_is = λ h. absurd (false≢true h); no_is = λ h. rw e at c.loop-j.invariant.1 }
