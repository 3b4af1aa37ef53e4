-- `coding::take_off` meets its contract.
use lib.Bits.{bit_or, or_shifted_r}
use lib.Pow.{pow-lt}
use mathlib.Core.Path.{◌≡◌, ◌∙◌, ap, refl, sym}
use native.Mathlib.Nat.{add_comm, mod-eq_of_lt}
use native.Mathlib.Omega.{arith}
use Prim.Native.Nat.{ℕ, ◌*◌, ◌^◌, ◌<◌}
use Rattle.words.proofs.Ends.{some-pos}
use Rattle.words.proofs.Span.{first-unique}
use Rattle.words.proofs.Word.{bit-lt}
use Rattle.words.specs.Word.{bit}
use Rattle.coding.proofs.take_off.Goals as goal

pub returns-then-bit_at-eq0 : goal.returns-then-bit_at-eq0
returns-then-bit_at-eq0 c =
    record {
      digit = 0;
      at_head = λ p f.
          sym c.if-bit_at-eq0.true ∙ c.bit_at.ensures
          ∙ ap (bit c.args.before.rest) (first-unique (c.first_one.ensures.some (some-pos _ p f.one)) f);
      information = omega arith;
      rest = refl;
    }

pub returns : goal.returns
returns c =
    let j : ℕ = c.args.j in
    let low : c.args.j < 64 = c.requires.0 in
    let p : 1 * 2 ^ c.args.j < 2 ^ 64 = omega (arith, pow-lt low) in
    let b = c.bit_at in
    let one : b.result ≡ 1 = omega (arith, c.if-bit_at-eq0.false, b.ensures, bit-lt c.first_one.result c.args.before.rest) in
    record {
      digit = 1;
      at_head = λ q f.
          sym one ∙ b.ensures
          ∙ ap (bit c.args.before.rest) (first-unique (c.first_one.ensures.some (some-pos _ q f.one)) f);
      information =
          ap (bit_or c.args.before.information) (mod-eq_of_lt p)
          ∙ or_shifted_r 1 c.args.j c.args.before.information c.requires.1 ∙ add_comm (1 * 2 ^ c.args.j) c.args.before.information;
      rest = refl;
    }
