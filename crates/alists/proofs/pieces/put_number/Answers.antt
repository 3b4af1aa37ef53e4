-- `pieces::put_number` meets its contract.
use mathlib.Core.Path.{ap, ◌≡◌}
use lib.ListN.{length}
use Rattle.alists.specs.Text.{decimal}
use Rattle.alists.proofs.Putting.{decimal-one, decimal-two, puts_then}
use native.Mathlib.Omega.{arith}
use Rattle.alists.proofs.pieces.put_number.Goals as goal

pub put_byte-requires : goal.put_byte-requires
put_byte-requires c =
    let l : length (decimal c.args.value) ≡ 1 = ap length (decimal-one c.args.value c.if-value-lt10.true) in
    omega (arith, l)

pub returns-then-value-lt10 : goal.returns-then-value-lt10
returns-then-value-lt10 c = rw (decimal-one c.args.value c.if-value-lt10.true, ← c.character.ensures) c.put_byte.ensures

pub put_byte-next-requires : goal.put_byte-next-requires
put_byte-next-requires c =
    let l : length (decimal c.args.value) ≡ 2 = ap length (decimal-two c.args.value c.if-value-lt10.false) in
    omega (arith, l)

pub put_byte-requires-2 : goal.put_byte-requires-2
put_byte-requires-2 c =
    let l : length (decimal c.args.value) ≡ 2 = ap length (decimal-two c.args.value c.if-value-lt10.false) in
    let n = c.put_byte-next.ensures.next in
    omega (arith, l, n)

pub returns : goal.returns
returns c =
    rw (decimal-two c.args.value c.if-value-lt10.false, ← c.character-2.ensures, ← c.character-3.ensures)
    (puts_then c.put_byte-next.ensures c.put_byte-2.ensures)
