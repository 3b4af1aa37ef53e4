-- `numbers::skip_spaces` meets its contract. The invariant: what stands after the spaces from i on stands after those from `at` on.
use native.Mathlib.Omega.{arith}
use lib.ListN.{length}
use mathlib.Core.Path.{◌≡◌, refl, sym, ◌∙◌}
use Rattle.alists.proofs.NumbersFound.{skip-end, skip-here, skip-other}
use Rattle.alists.proofs.numbers.skip_spaces.Goals as goal

pub loop-i-init : goal.loop-i-init
loop-i-init c = (omega arith, refl)

pub returns-then-text-i-ne32 : goal.returns-then-text-i-ne32
returns-then-text-i-ne32 c =
    record { after = sym (skip-other _ c.loop-i.i (omega arith) c.if-text-i-ne32.true) ∙ c.loop-i.invariant.1; within = omega arith }

pub loop-i-preserved : goal.loop-i-preserved
loop-i-preserved c = (omega arith, sym (skip-here _ c.loop-i.i (omega arith) (omega arith)) ∙ c.loop-i.invariant.1)

pub returns : goal.returns
returns c =
    let e : c.loop-i.i ≡ length c.args.text.now = omega arith in
    record { after = sym (skip-end _ (length c.args.text.now) (omega arith)) ∙ rw e at c.loop-i.invariant.1; within = omega arith }
