-- `decoding::cosets::less_row` meets its contract.
use lib.Bits.{xor_zero_l}
use mathlib.Core.Path.{◌≡◌, ◌∙◌, ap, sym}
use native.Mathlib.Omega.{arith}
use Rattle.words.proofs.Ends.{first-one-is}
use Rattle.words.proofs.Word.{bit-lt}
use Rattle.words.specs.Word.{bit}
use Rattle.decoding.proofs.RestOfWords.{less-row}
use Rattle.decoding.proofs.cosets.less_row.Goals as goal

pub returns-then-bit_at-eq0 : goal.returns-then-bit_at-eq0
returns-then-bit_at-eq0 c =
    let b = c.bit_at in
    sym (xor_zero_l c.args.word)
    ∙ less-row c.args.row c.args.word 0 (λ h.
    sym c.if-bit_at-eq0.true ∙ b.ensures ∙ ap (bit c.args.word) (first-one-is h c.ranges.row.fits c.first_one.ensures))

pub returns : goal.returns
returns c =
    let b = c.bit_at in
    let one : b.result ≡ 1 = omega (arith, c.if-bit_at-eq0.false, b.ensures, bit-lt c.first_one.result c.args.word) in
    less-row c.args.row c.args.word 1 (λ h.
    sym one ∙ b.ensures ∙ ap (bit c.args.word) (first-one-is h c.ranges.row.fits c.first_one.ensures))
