-- Which word is earlier, by its first position and the rest.
use mathlib.Core.Path.{ap, sym, ◌∙◌, ◌≡◌}
use native.Mathlib.Omega.{arith}
use Prim.Native.Nat.{◌*◌, ◌+◌, ◌<◌, suc, zero, ℕ}
use Rattle.words.proofs.Word.{half}
use Rattle.words.specs.Word.{Earlier, bit}

bit-front : (w b i : ℕ) → b < 2 → bit (w * 2 + b) (suc i) ≡ bit w i
bit-front w b i h = ap (λ (x : ℕ). bit x i) (half w b h)

bit-first : (w b : ℕ) → b < 2 → bit (w * 2 + b) 0 ≡ b
bit-first w b h = omega arith

-- the same bit in front of both
pub earlier-behind : (b : ℕ) {v w : ℕ} → b < 2 → Earlier v w → Earlier (v * 2 + b) (w * 2 + b)
earlier-behind b {v} {w} h e = record {
  place = suc e.place;
  same = same;
  zero_here = bit-front v b e.place h ∙ e.zero_here;
  one_there = bit-front w b e.place h ∙ e.one_there;
}
  where
    same : (i : ℕ) → i < suc e.place → bit (v * 2 + b) i ≡ bit (w * 2 + b) i
    same zero k = bit-first v b h ∙ sym (bit-first w b h)
    same (suc i) k = bit-front v b i h ∙ e.same i (omega arith) ∙ sym (bit-front w b i h)

-- 0 in front of one and 1 in front of the other
pub earlier-here : (v w : ℕ) → Earlier (v * 2 + 0) (w * 2 + 1)
earlier-here v w = record {
  place = 0;
  same = λ i k. absurd (omega arith);
  zero_here = bit-first v 0 (omega arith);
  one_there = bit-first w 1 (omega arith);
}
