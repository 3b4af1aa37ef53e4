-- `marks::passing` meets its contract. The loop's invariant: so many of the places from j on pass.
use mathlib.Core.Path.{sym, ◌∙◌, ◌≡◌}
use mathlib.Core.Bool.{true, false}
use native.Mathlib.Numerals.{add-one}
use native.Mathlib.Omega.{arith}
use Prim.Native.Nat.{◌-◌, ◌+◌}
use Rattle.judging.proofs.Counting.{tallied-end, tallied-on}
use Rattle.judging.proofs.marks.passing.Goals as goal

pub loop-j-preserved-then-test : goal.loop-j-preserved-then-test
loop-j-preserved-then-test g c =
    let l = c.loop-j in
    let k = c.loop-j-test.true in (
      omega (arith, k, l.invariant.0),
      λ P h.
          let t = l.invariant.1 P h in
          let p : P (l.j - 1) ≡ true = sym (h (l.j - 1) _ (omega (arith, k, t.within)) c.test.ensures) ∙ c.if-test.true in
          tallied-on _ P l.j l.c k t (l.c + 1) (rw p (add-one l.c)),
    )

pub loop-j-preserved : goal.loop-j-preserved
loop-j-preserved g c =
    let l = c.loop-j in
    let k = c.loop-j-test.true in (
      omega (arith, k, l.invariant.0),
      λ P h.
          let t = l.invariant.1 P h in
          let p : P (l.j - 1) ≡ false = sym (h (l.j - 1) _ (omega (arith, k, t.within)) c.test.ensures) ∙ c.if-test.false in
          tallied-on _ P l.j l.c k t l.c (rw p),
    )

pub returns : goal.returns
returns g c = λ P h. tallied-end _ P c.loop-j.j c.loop-j.c (c.loop-j.invariant.1 P h) (omega (arith, c.loop-j-test.false))
