-- `coding::with_row` meets its contract.
use lib.Bits.{bit_xor}
use mathlib.Core.Path.{◌≡◌, ap, sym}
use native.Mathlib.Omega.{arith}
use Rattle.words.specs.Sum.{taken}
use Rattle.coding.proofs.with_row.Goals as goal

pub returns : goal.returns
returns c =
    let one : c.args.digit ≡ 1 = omega (arith, c.if-digit-eq0.false) in
    ap (λ d. bit_xor (taken d c.args.row) c.args.sum) (sym one)
