-- `decoding::rooms::widest` meets its contract. The loop's invariant: the largest entry up to t.
use lib.ListN.{get_or}
use mathlib.Core.Path.{◌≡◌, ◌∙◌, ap, refl, sym}
use native.Mathlib.Numerals.{add-one}
use native.Mathlib.Omega.{arith}
use Prim.Native.Nat.{◌+◌, ℕ, max}
use Rattle.decoding.specs.Needs.{widest_entry}
use Rattle.decoding.proofs.rooms.widest.Goals as goal

pub loop-t-init : goal.loop-t-init
loop-t-init c = (omega arith, refl)

pub loop-t-preserved : goal.loop-t-preserved
loop-t-preserved c =
    let l = c.loop-t in (
      omega (arith, c.loop-t-test.true),
      c.max-most.ensures ∙ ap (max (get_or c.args.profile.now (l.t + 1) 0)) l.invariant.1
          ∙ ap (λ (x : ℕ). max (get_or c.args.profile.now x 0) (widest_entry c.args.profile.now l.t)) (add-one l.t)
          ∙ ap (widest_entry c.args.profile.now) (sym (add-one l.t)),
    )

pub returns : goal.returns
returns c =
    let e : c.loop-t.t ≡ c.args.n = omega (arith, c.loop-t-test.false, c.loop-t.invariant.0) in
    rw e at c.loop-t.invariant.1
