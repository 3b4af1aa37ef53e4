-- `exports::reading::put_others` meets its contract.
use borrow.Author.Rules.{rules}
use mathlib.Core.Path.{◌≡◌, subst}
use native.Mathlib.Omega.{arith}
use Prim.Native.Nat.{ℕ}
use Rattle.exports.proofs.PositionsCrossed.{read-on}
use Rattle.exports.specs.Flat.{plate_of}
use Rattle.exports.specs.Reading.{ReadTo, firm_rooms}
use Rattle.exports.proofs.reading.put_others.Goals as goal

pub loop-i-init : goal.loop-i-init
loop-i-init c = record { within = search rules; reads = λ lent r. r }

pub put_position-requires : goal.put_position-requires
put_position-requires c =
    let l = c.loop-i in
    let pre = c.requires in
    let i = c.loop-i-test.true in
    (pre.in_bounds.0, omega (arith, i, l.auto.fixed, pre.in_bounds.1, pre.bound.1), omega (arith, i, l.auto.values, pre.in_bounds.2, pre.bound.1))

pub loop-i-preserved : goal.loop-i-preserved
loop-i-preserved c =
    let l = c.loop-i in
    let pre = c.requires in
    let put = c.put_position in
    let i = c.loop-i-test.true in
    record {
      within = omega (arith, i);
      reads = λ lent r. read-on lent put.result (l.invariant.reads lent r) put.ensures i
          (omega (arith, i, l.auto.fixed, pre.in_bounds.1, pre.bound.1)) (omega (arith, i, l.auto.values, pre.in_bounds.2, pre.bound.1));
    }

pub returns : goal.returns
returns c =
    let l = c.loop-i in
    let a = c.args in
    let e : l.i ≡ (plate_of a.plate.now).n = omega (arith, c.loop-i-test.false, l.invariant.within) in
    λ lent r. subst (λ (m : ℕ). ReadTo (plate_of a.plate.now) a.samples.now m lent (firm_rooms l.metrics l.decisions l.fixed l.values)) e
    (l.invariant.reads lent r)
