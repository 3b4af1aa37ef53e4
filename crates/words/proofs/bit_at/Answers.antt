-- `words::bit_at` meets its contract.
use borrow.Author.Rules.{rules}
use Prim.Native.Nat.{◌/◌, ◌^◌, ◌≤◌}
use lib.Bits.{and_mask}
use mathlib.Core.Path.{sym, ◌∙◌}
use Rattle.words.proofs.Word.{bit-div, bits_below}
use Rattle.words.proofs.bit_at.Goals as goal

pub returns-then-position-lt64 : goal.returns-then-position-lt64
returns-then-position-lt64 c = let a = c.args in and_mask (a.word / 2 ^ a.position) 1 ∙ sym (bit-div a.position a.word)

pub returns : goal.returns
returns c =
    let h : 64 ≤ c.args.position = search rules in
    sym (bits_below 64 c.args.word c.ranges.word.fits c.args.position h)
