-- `columns::column_at` meets its contract. The invariant: the word is the column of the rows from j on.
use lib.ListN.{drop, get_or, length, length-drop}
use mathlib.Core.Path.{◌≡◌}
use Prim.Native.Nat.{◌-◌, ◌<◌}
use Rattle.alists.proofs.Filling.{column-back, column-room}
use Rattle.alists.proofs.Places.{done}
use Rattle.words.proofs.Word.{bit-lt}
use native.Mathlib.Omega.{arith}
use Rattle.alists.proofs.columns.column_at.Goals as goal

pub loop-j-init : goal.loop-j-init
loop-j-init c = (omega arith, rw (done c.args.rows.now (length c.args.rows.now) (omega arith)))

pub overflow_mul-word : goal.overflow_mul-word
overflow_mul-word c =
    omega (arith, column-room (drop c.loop-j.j c.args.rows.now) c.args.i 0 64 (rw length-drop (omega arith)) (omega arith))

pub overflow_add-word : goal.overflow_add-word
overflow_add-word c =
    let b : c.bit_at.result < 2 = rw c.bit_at.ensures (bit-lt c.args.i (get_or c.args.rows.now (c.loop-j.j - 1) 0)) in
    omega (arith, column-room (drop c.loop-j.j c.args.rows.now) c.args.i c.bit_at.result 64 (rw length-drop (omega arith)) b)

pub loop-j-preserved : goal.loop-j-preserved
loop-j-preserved c =
    let e = c.bit_at.ensures in
    (omega arith, rw (column-back c.args.rows.now c.args.i c.loop-j.j (omega arith) (omega arith)) (omega arith))

pub returns : goal.returns
returns c =
    let e : c.loop-j.j ≡ 0 = omega arith in
    rw e at c.loop-j.invariant.1
