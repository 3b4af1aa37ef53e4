-- Wolf's states grow by one column of the matrix at a time: 0 at depth 0, then plus the column of the position where the word has a one;
-- a codeword is back at 0 at depth n.
use lib.Bits.{and_block, and_lt, and_mask, and_zero_r, bit_and}
use lib.Count.{ones, ones_cat}
use lib.ListN.{get_or, length}
use lib.Pow.{mod-pow-add, pow_pos}
use mathlib.Core.List.{List}
use mathlib.Core.Path.{ap, ap₂, refl, sym, ◌∙◌, ◌≡◌}
use native.Mathlib.Nat.{add_comm, div-add-mod', mod-eq_of_lt, mod-lt, mul-one, mul-zero}
use native.Mathlib.Numerals.{add-one}
use native.Mathlib.Omega.{arith}
use Prim.Native.Nat.{◌%◌, ◌*◌, ◌+◌, ◌/◌, ◌<◌, ◌^◌, suc, zero, ℕ}
use Rattle.plates.specs.Code.{Checked}
use Rattle.trellises.specs.Beginnings.{beginning, syndrome}
use Rattle.words.proofs.Parity.{parity-zero}
use Rattle.words.proofs.Word.{bit-div, bit-lt}
use Rattle.words.specs.Parity.{parity}
use Rattle.words.specs.Word.{bit}

-- a check meets a beginning as its own beginning does
same-beginning : (t c w : ℕ) → bit_and c (beginning t w) ≡ bit_and (c % 2 ^ t) (w % 2 ^ t)
same-beginning t c w =
    let z : (x : ℕ) → x ≡ 0 * 2 ^ t + x = λ x. omega arith in
    ap₂ bit_and (sym (div-add-mod' c (2 ^ t))) (z (w % 2 ^ t))
    ∙ and_block t (c / 2 ^ t) 0 (c % 2 ^ t) (w % 2 ^ t) (mod-lt c (pow_pos t)) (mod-lt w (pow_pos t))
    ∙ ap (λ (x : ℕ). x * 2 ^ t + bit_and (c % 2 ^ t) (w % 2 ^ t)) (and_zero_r (c / 2 ^ t)) ∙ sym (z (bit_and (c % 2 ^ t) (w % 2 ^ t)))

-- one position more
next-beginning : (t c w : ℕ) → bit_and c (beginning (suc t) w) ≡ bit_and (c / 2 ^ t) (bit w t) * 2 ^ t + bit_and (c % 2 ^ t) (w % 2 ^ t)
next-beginning t c w =
    let e : w % 2 ^ suc t ≡ bit w t * 2 ^ t + w % 2 ^ t =
    ap (λ (x : ℕ). w % 2 ^ x) (sym (add-one t) ∙ add_comm t 1) ∙ mod-pow-add w 1 t ∙ ap (λ (x : ℕ). x * 2 ^ t + w % 2 ^ t) (sym (bit-div t w)) in
    ap₂ bit_and (sym (div-add-mod' c (2 ^ t))) e ∙ and_block t (c / 2 ^ t) (bit w t) (c % 2 ^ t) (w % 2 ^ t) (mod-lt c (pow_pos t)) (mod-lt w (pow_pos t))

-- the ones that a number has in common with a digit
ones-digit : (n d : ℕ) → d < 2 → ones (bit_and n d) ≡ n % 2 * d
unfolding ones
ones-digit n zero h = ap ones (and_zero_r n) ∙ sym (mul-zero (n % 2))
ones-digit n (suc zero) h = ap ones (and_mask n 1) ∙ one (n % 2) (omega arith) ∙ sym (mul-one (n % 2))
  where
    one : (x : ℕ) → x < 2 → ones x ≡ x
    one zero k = refl
    one (suc zero) k = refl
    one (suc (suc x)) k = absurd (omega arith)
ones-digit n (suc (suc d)) h = absurd (omega arith)

module _ (checks : List ℕ) (w j : ℕ) where
  -- 0 at depth 0
  pub syndrome-start : syndrome checks 0 w j ≡ 0
  syndrome-start = let e : w % 1 ≡ 0 = omega arith in ap (parity (get_or checks j 0)) e ∙ parity-zero (get_or checks j 0)

  -- each section adds its column where the word has a one
  pub syndrome-step : (t : ℕ) → syndrome checks (suc t) w j ≡ (syndrome checks t w j + bit (get_or checks j 0) t * bit w t) % 2
  syndrome-step t =
      let c : ℕ = get_or checks j 0 in
      let h : bit_and (c % 2 ^ t) (w % 2 ^ t) < 2 ^ t = and_lt t (c % 2 ^ t) (w % 2 ^ t) (mod-lt c (pow_pos t)) (mod-lt w (pow_pos t)) in
      let d : ones (bit_and (c / 2 ^ t) (bit w t)) ≡ bit c t * bit w t =
      ones-digit (c / 2 ^ t) (bit w t) (bit-lt t w) ∙ ap (λ (x : ℕ). x * bit w t) (sym (bit-div t c)) in
      let e : ones (bit_and c (beginning (suc t) w)) ≡ bit c t * bit w t + ones (bit_and c (beginning t w)) =
      ap ones (next-beginning t c w) ∙ ones_cat t (bit_and (c / 2 ^ t) (bit w t)) (bit_and (c % 2 ^ t) (w % 2 ^ t)) h
      ∙ ap₂ (λ (x y : ℕ). x + ones y) d (sym (same-beginning t c w)) in
      ap (λ (x : ℕ). x % 2) e ∙ last (bit c t * bit w t) (ones (bit_and c (beginning t w)))
    where
      last : (x y : ℕ) → (x + y) % 2 ≡ (y % 2 + x) % 2
      last x y = omega arith

  -- and 0 at depth n for a codeword
  pub syndrome-end : (n : ℕ) → Checked n checks w → j < length checks → syndrome checks n w j ≡ 0
  syndrome-end n c k = ap (parity (get_or checks j 0)) (mod-eq_of_lt c.below) ∙ c.even j k
