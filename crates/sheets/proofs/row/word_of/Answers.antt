-- `row::word_of` meets its contract. The invariant: the word is that of the positions from i on.
use lib.ListN.{drop, get_or, length, length-drop}
use mathlib.Core.Path.{◌≡◌}
use native.Mathlib.Omega.{arith}
use Prim.Native.Nat.{◌-◌}
use Rattle.sheets.specs.Turning.{in_order}
use Rattle.sheets.proofs.Bytes.{back, done}
use Rattle.sheets.proofs.Characters.{bit_small, word_room}
use Rattle.sheets.proofs.Turns.{in-order-entry, in-order-length}
use Rattle.sheets.proofs.row.word_of.Goals as goal

pub loop-i-init : goal.loop-i-init
loop-i-init c =
    let a = c.args in
    (omega arith, rw (done (in_order a.order a.f.now) (length a.f.now) (rw in-order-length (omega arith))))

pub overflow_mul-word : goal.overflow_mul-word
overflow_mul-word c =
    let s = in_order c.args.order c.args.f.now in
    omega (arith, word_room (drop c.loop-i.i s) 0 64 (rw (length-drop, in-order-length) (omega arith)) (omega arith))

pub overflow_add-word : goal.overflow_add-word
overflow_add-word c =
    let s = in_order c.args.order c.args.f.now in
    omega (arith, word_room (drop c.loop-i.i s) c.bit_of.result 64 (rw (length-drop, in-order-length) (omega arith)) (rw c.bit_of.ensures (bit_small _)))

pub loop-i-preserved : goal.loop-i-preserved
loop-i-preserved c =
    let a = c.args in
    let s = in_order a.order a.f.now in
    let e = c.bit_of.ensures in
    let p : get_or s (c.loop-i.i - 1) 0 ≡ get_or a.f.now c.listed_at.result 0 =
    rw c.listed_at.ensures.value (in-order-entry a.order a.f.now (c.loop-i.i - 1) 0 (omega arith)) in
    (omega arith, rw (back s c.loop-i.i (omega arith) (rw in-order-length (omega arith)), p) (omega arith))

pub returns : goal.returns
returns c =
    let e : c.loop-i.i ≡ 0 = omega arith in
    rw e at c.loop-i.invariant.1
