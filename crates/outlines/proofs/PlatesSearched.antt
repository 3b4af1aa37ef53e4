-- A plate searched for the earliest word that another does not have: what the search over its rows finds.
use lib.Bits.{bit_xor, xor_comm, xor_zero_r}
use mathlib.Core.Path.{◌≡◌, ap, refl, subst, sym, ◌∙◌}
use native.Mathlib.Omega.{arith}
use Prim.Native.Nat.{◌<◌, ◌^◌, ℕ}
use Rattle.std.specs.Prelude.{None, Option, Some}
use Rattle.decoding.proofs.MaskedWords.{rest_of}
use Rattle.decoding.proofs.RestOfWords.{off-cleared, off-sum, off_zero}
use Rattle.decoding.specs.Cosets.{taken_off}
use Rattle.outlines.proofs.EarliestOut.{Heads, earliest-out, xor-twice}
use Rattle.outlines.proofs.RestTells.{rest_below, rest-same, rested-words, rows-below, xor_below}
use Rattle.outlines.proofs.Reversing.{read_below, read-xor}
use Rattle.outlines.specs.Searching.{Outside, OutsideAs, first_out, left_of, read_from}
use Rattle.plates.proofs.SoundIsPrepared.{sound}
use Rattle.plates.specs.declared.Plate.{Plate}
use Rattle.plates.specs.Prepare.{IsPrepared, IsWord, rows_of}
use Rattle.sheets.specs.declared.Order.{Order}
use Rattle.words.proofs.Sums.{all-zero, in-xor}
use Rattle.words.proofs.Word.{below-bits, bits_below, xor_assoc, xor-four, xor_self}
use Rattle.words.specs.Sum.{IsSum, sum_of}

-- ---- the words of a plate

module _ (a : Plate) (p : IsPrepared a) where
  -- have n positions
  pub word_below : (w : ℕ) → IsWord a w → w < 2 ^ a.n
  word_below w g =
      subst (λ (x : ℕ). x < 2 ^ a.n) (xor-twice w a.mask) (xor_below a.n (bit_xor w a.mask) a.mask code (sound p).masked)
    where
      code : bit_xor w a.mask < 2 ^ a.n
      code =
          subst (λ (x : ℕ). x < 2 ^ a.n) g.sum
          (below-bits a.n (sum_of (rows_of a) g.by) (λ i l. all-zero (rows_of a) i (λ j k. bits_below a.n _ (rows-below a p j k) i l) g.by))

  module _ (order : Order) where
    -- what is a word when it is so read
    abbrev Read : ℕ → Type 0
    Read w = IsWord a (read_from order a.n w)

    -- nothing is left of those, and of no others
    none_read : (w : ℕ) → left_of order a.n (rows_of a) a.mask w ≡ 0 → Read w
    unfolding left_of
    none_read w e =
        let x = bit_xor (read_from order a.n w) a.mask in
        subst (IsSum (rows_of a)) (ap (bit_xor x) e ∙ xor_zero_r x) (off-sum (rows_of a) x)

    read_none : (w : ℕ) → w < 2 ^ a.n → Read w → left_of order a.n (rows_of a) a.mask w ≡ 0
    unfolding left_of
    read_none w h g =
        let x = bit_xor (read_from order a.n w) a.mask in
        rest-same a p x 0 (xor_below a.n (read_from order a.n w) a.mask (read_below order a.n w h) (sound p).masked)
        (omega (arith, (sound p).masked)) (subst (IsSum (rows_of a)) (sym (xor_zero_r x)) g)
        ∙ off_zero (rows_of a)

    -- the sum of three is one
    read-three : (x y z : ℕ) → Read x → Read y → Read z → Read (bit_xor x (bit_xor y z))
    read-three x y z f g h =
        subst (IsSum (rows_of a))
        (three (read_from order n x) (read_from order n y) (read_from order n z)
        ∙ ap (λ (v : ℕ). bit_xor v m) (ap (bit_xor (read_from order n x)) (sym (read-xor order n y z)) ∙ sym (read-xor order n x (bit_xor y z))))
        (in-xor f (in-xor g h))
      where
        n : ℕ
        n = a.n

        m : ℕ
        m = a.mask

        three : (q r s : ℕ) → bit_xor (bit_xor q m) (bit_xor (bit_xor r m) (bit_xor s m)) ≡ bit_xor (bit_xor q (bit_xor r s)) m
        three q r s =
            ap (bit_xor (bit_xor q m)) (xor-four r m s m ∙ ap (bit_xor (bit_xor r s)) (xor_self m) ∙ xor_zero_r (bit_xor r s)) ∙ xor_assoc q m (bit_xor r s)
            ∙ ap (bit_xor q) (xor_comm m (bit_xor r s)) ∙ sym (xor_assoc q (bit_xor r s) m)

-- ---- the search

heads : (a : Plate) → IsPrepared a → Heads a.n (rest_of a) (rows_of a)
heads a p =
    let s = (sound p).reduced.spans in
    record { leads = s.first; rising = s.rising; below = rows-below a p; clear = off-cleared (rows_of a) a.mask s.first s.rising }

-- the words by the rest are the words by the mask
rested : (a : Plate) (p : IsPrepared a) (Q : ℕ → Type 0) (found : Option ℕ) → OutsideAs (λ w. IsSum (rows_of a) (bit_xor w (rest_of a))) Q found
    → OutsideAs (IsWord a) Q found
rested a p Q None h = λ w g. h w ((rested-words a p w).0 g)
rested a p Q (Some w) h = (((rested-words a p w).1 h.0.0, h.0.1), λ v b e. h.1 v ((rested-words a p v).0 b.0, b.1) e)

-- b: a plate of the same length
module _ (order : Order) (a b : Plate) (p : IsPrepared a) (q : IsPrepared b) where
  at_length : (n : ℕ) → n ≡ b.n → a.n ≡ n
      → OutsideAs (IsWord a) (λ w. IsWord b (read_from order n w)) (first_out (left_of order n (rows_of b) b.mask) (rest_of a) (rows_of a))
  at_length n e f =
      rested a p (λ w. IsWord b (read_from order n w)) (first_out (left_of order n (rows_of b) b.mask) (rest_of a) (rows_of a))
      (earliest-out n (λ w. IsWord b (read_from order n w)) (left_of order n (rows_of b) b.mask) three none_in in-none (rest_of a)
      (subst (λ (m : ℕ). rest_of a < 2 ^ m) f (rest_below a p a.mask (sound p).masked)) (rows_of a)
      (subst (λ (m : ℕ). Heads m (rest_of a) (rows_of a)) f (heads a p)))
    where
      three : (x y z : ℕ) → IsWord b (read_from order n x) → IsWord b (read_from order n y) → IsWord b (read_from order n z)
          → IsWord b (read_from order n (bit_xor x (bit_xor y z)))
      three = rw e (read-three b q order)

      none_in : (w : ℕ) → left_of order n (rows_of b) b.mask w ≡ 0 → IsWord b (read_from order n w)
      none_in = rw e (none_read b q order)

      in-none : (w : ℕ) → w < 2 ^ n → IsWord b (read_from order n w) → left_of order n (rows_of b) b.mask w ≡ 0
      in-none = rw e (read_none b q order)

pub outside-found : {order : Order} {a b : Plate} {rest : ℕ} {found : Option ℕ} → IsPrepared a → IsPrepared b → a.n ≡ b.n → rest ≡ taken_off (rows_of a) a.mask
    → found ≡ first_out (left_of order a.n (rows_of b) b.mask) rest (rows_of a) → Outside order a b found
outside-found {order} {a} {b} {rest} {found} p q e f g = record {
  is =
      subst (OutsideAs (IsWord a) (λ w. IsWord b (read_from order a.n w)))
      (sym (g ∙ ap (λ (x : ℕ). first_out (left_of order a.n (rows_of b) b.mask) x (rows_of a)) f)) (at_length order a b p q a.n e refl);
}
