-- `decoding::live::ending_rows` meets its contract: the rows are noted one after the other.
use lib.ListN.{length, take}
use mathlib.Core.Path.{◌≡◌, subst}
use native.Mathlib.Numerals.{add-one}
use native.Mathlib.Omega.{arith}
use Prim.Native.Nat.{ℕ, zero-le}
use Rattle.decoding.proofs.EndsFound.{Noted, all_noted, none-noted, one-noted}
use Rattle.decoding.proofs.PassedRows.{counted, row_ends, row_last}
use Rattle.decoding.proofs.live.ending_rows.Goals as goal

pub loop-j-init : goal.loop-j-init
loop-j-init c = (zero-le, none-noted (take c.args.k c.args.rows.now))

pub overflow_cast-ends : goal.overflow_cast-ends
overflow_cast-ends c = record { fits = omega (arith, c.loop-j-test.true, c.requires.few) }

pub bounds-ends-last : goal.bounds-ends-last
bounds-ends-last c = row_ends c.requires c.loop-j.j c.loop-j-test.true c.last_one-last.ensures

pub loop-j-smaller : goal.loop-j-smaller
loop-j-smaller c = omega (arith, c.loop-j-test.true)

pub loop-j-preserved : goal.loop-j-preserved
loop-j-preserved c =
    let j = c.loop-j.j in
    let h = c.loop-j-test.true in (
      omega arith,
      rw (add-one j)
          (one-noted (take c.args.k c.args.rows.now) c.loop-j.invariant.1 c.last_one-last.result
          (row_last c.requires j h c.last_one-last.ensures) (row_ends c.requires j h c.last_one-last.ensures)),
    )

pub returns : goal.returns
returns c =
    let plate = take c.args.k c.args.rows.now in
    let e : c.loop-j.j ≡ length plate = omega (arith, counted c.requires, c.loop-j-test.false) in
    all_noted plate (subst (λ (n : ℕ). Noted plate n c.loop-j.ends) e c.loop-j.invariant.1)
