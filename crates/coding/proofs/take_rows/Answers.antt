-- `coding::take_rows` meets its contract. The loop's invariant: the rows before j are taken off.
use borrow.Author.Rules.{rules}
use mathlib.Core.Path.{◌≡◌, subst}
use native.Mathlib.Numerals.{add-one}
use native.Mathlib.Omega.{arith}
use Prim.Native.Nat.{ℕ}
use Rattle.coding.specs.TakingOff.{Read}
use Rattle.coding.proofs.ReadingRows.{read-start, read-on}
use Rattle.coding.proofs.take_rows.Goals as goal

pub loop-j-init : goal.loop-j-init
loop-j-init c = search (read-start, rules)

pub loop-j-preserved : goal.loop-j-preserved
loop-j-preserved c = search (add-one, read-on)

pub returns : goal.returns
returns c =
    let a = c.args in
    let e : c.loop-j.j ≡ a.k = omega (arith, c.loop-j-test.false, c.loop-j.invariant.0) in
    subst (λ (x : ℕ). Read a.rows.now a.k a.word x c.loop-j.reading) e c.loop-j.invariant.1
