-- `exports::weighing::widest_entry` meets its contract. The loop's invariant: the largest entry up to t. The measure is what is left of n.
use lib.ListN.{get_or}
use mathlib.Core.Path.{◌≡◌, ◌∙◌, ap, refl, sym}
use native.Mathlib.Numerals.{add-one}
use native.Mathlib.Omega.{arith}
use Prim.Native.Nat.{ℕ, max}
use Rattle.decoding.specs.Needs.{widest_entry}
use Rattle.exports.proofs.weighing.widest_entry.Goals as goal

pub loop-t-init : goal.loop-t-init
loop-t-init c = (omega arith, refl)

pub loop-t-preserved : goal.loop-t-preserved
loop-t-preserved c =
    let profile = c.args.profile.now in (
      omega (arith, c.loop-t-test.true),
      c.max-most.ensures ∙ ap (max (get_or profile _ 0)) c.loop-t.invariant.1
          ∙ ap (λ (x : ℕ). max (get_or profile x 0) (widest_entry profile c.loop-t.t)) (add-one c.loop-t.t)
          ∙ ap (widest_entry profile) (sym (add-one c.loop-t.t)),
    )

pub returns : goal.returns
returns c =
    let e : c.loop-t.t ≡ c.args.n = omega (arith, c.loop-t-test.false, c.loop-t.invariant.0) in
    rw e at c.loop-t.invariant.1
