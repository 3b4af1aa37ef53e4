-- `ours::first_suiting` meets its contract.
use mathlib.Core.Path.{◌∙◌, ap, sym}
use native.Mathlib.Numerals.{add-one}
use native.Mathlib.Omega.{arith}
use Prim.Native.Nat.{ℕ}
use Rattle.judging.specs.Ours.{suits}
use Rattle.judging.proofs.Reading.{searching-found, searching-none, searching-on, searching-start}
use Rattle.judging.proofs.ours.first_suiting.Goals as goal

pub loop-a-init : goal.loop-a-init
loop-a-init c = (omega arith, searching-start _ _)

pub returns-then-suiting : goal.returns-then-suiting
returns-then-suiting c =
    let s = c.args in
    let l = c.loop-a in
    searching-found l.invariant.1 (omega (arith, c.loop-a-test.true, c.weight_of-states.ensures.below (omega (arith, c.requires.live)))) (ap (λ (y : ℕ). suits s.section y s.zero s.one) (sym (add-one l.a)) ∙ sym c.suiting.ensures ∙ c.if-suiting.true)

pub loop-a-preserved : goal.loop-a-preserved
loop-a-preserved c =
    let s = c.args in
    let l = c.loop-a in
    (omega (arith, c.loop-a-test.true, c.weight_of-states.ensures.below (omega (arith, c.requires.live))), searching-on l.invariant.1 (ap (λ (y : ℕ). suits s.section y s.zero s.one) (sym (add-one l.a)) ∙ sym c.suiting.ensures ∙ c.if-suiting.false))

pub returns : goal.returns
returns c =
    let l = c.loop-a in
    searching-none l.invariant.1 (omega (arith, c.loop-a-test.false, c.weight_of-states.ensures.below (omega (arith, c.requires.live))))
