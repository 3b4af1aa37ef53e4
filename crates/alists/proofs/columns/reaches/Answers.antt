-- `columns::reaches` meets its contract.
use borrow.Author.Tests.{le-ltb, lt-leb}
use native.Mathlib.Nat.{lt_of_lt_of_le, pow-le-pow_right}
use native.Mathlib.Omega.{arith}
use Prim.Native.Nat.{◌^◌, ◌≤◌}
use Rattle.alists.proofs.columns.reaches.Goals as goal

pub returns-else-n-lt64 : goal.returns-else-n-lt64
returns-else-n-lt64 c =
    let far : 64 ≤ c.args.n = c.if-n-lt64.false in
    let above : 2 ^ 64 ≤ 2 ^ c.args.n = pow-le-pow_right {n = 2} (omega arith) far in
    rw (le-ltb c.args.n 64 c.if-n-lt64.false, lt-leb (2 ^ c.args.n) c.args.word (lt_of_lt_of_le c.ranges.word.fits above))
