-- `levels::values::first_not_a_number` meets its contract. The loop's invariant: the samples before i are erased or numbers.
use borrow.Author.Count.{below_more}
use mathlib.Core.Path.{ap, ◌∙◌}
use native.Mathlib.Omega.{arith}
use Prim.Native.Nat.{ℕ}
use Rattle.levels.specs.Choosing.{sample_at, sample_of}
use Rattle.levels.specs.Giving.{not_a_number}
use Rattle.levels.specs.Testing.{IsNumber}
use Rattle.levels.proofs.Tests.{found, not_found}
use Rattle.levels.proofs.values.first_not_a_number.Goals as goal

pub loop-i-init : goal.loop-i-init
loop-i-init c = (omega arith, λ j h. absurd (omega arith))

pub returns-then-is_not_a_number : goal.returns-then-is_not_a_number
returns-then-is_not_a_number c =
    let l = c.loop-i in
    record {
      there = c.loop-i-test.true;
      before = l.invariant.1;
      here = found (c.is_not_a_number.ensures ∙ ap not_a_number (c.sample_of.ensures ∙ ap (sample_of _) c.bit_at.ensures)) c.if-is_not_a_number.true;
    }

pub loop-i-preserved : goal.loop-i-preserved
loop-i-preserved c =
    let l = c.loop-i in (
      omega (arith, c.loop-i-test.true),
      below_more (λ (j : ℕ). IsNumber (sample_at c.args.values.now c.args.erased j)) l.i l.invariant.1
          (not_found (c.is_not_a_number.ensures ∙ ap not_a_number (c.sample_of.ensures ∙ ap (sample_of _) c.bit_at.ensures)) c.if-is_not_a_number.false),
    )

pub returns : goal.returns
returns c =
    λ j h. c.loop-i.invariant.1 j (omega (arith, h, c.loop-i-test.false))
