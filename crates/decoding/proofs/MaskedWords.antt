-- The words of a plate and the codewords: the rest of the mask leads from one to the other, and keeps which of two is earlier.
use lib.Bits.{bit_xor, differ, xor_comm, xor_zero_r}
use lib.ListN.{length}
use mathlib.Core.Path.{ap, ap₂, fun_ext, subst, sym, ◌∙◌, ◌≡◌}
use Prim.Native.Nat.{◌<◌, ℕ}
use Rattle.decoding.proofs.RestOfWords.{off-cleared, off-sum, xor-through}
use Rattle.decoding.specs.Cosets.{taken_off}
use Rattle.plates.proofs.SoundIsPrepared.{sound}
use Rattle.plates.specs.declared.Plate.{Plate}
use Rattle.plates.specs.Prepare.{IsPrepared, IsWord, rows_of}
use Rattle.words.proofs.Sums.{in-xor, in-zero}
use Rattle.words.proofs.Word.{bit-xor, differ_self, xor_assoc, xor_self}
use Rattle.words.specs.Ends.{firsts}
use Rattle.words.specs.Span.{First}
use Rattle.words.specs.Sum.{IsSum}
use Rattle.words.specs.Word.{Earlier, bit}

-- what is left of the mask once the plate's rows are taken off it
abbrev pub rest_of : Plate → ℕ
rest_of plate = taken_off (rows_of plate) plate.mask

-- the mask is a word: the zero codeword plus mask
pub mask_word : (plate : Plate) → IsWord plate plate.mask
mask_word plate = subst (IsSum (rows_of plate)) (sym (xor_self plate.mask)) (in-zero (rows_of plate))

-- with a zero mask the words are the codewords
pub words-plain : (plate : Plate) → plate.mask ≡ 0 → IsWord plate ≡ IsSum (rows_of plate)
words-plain plate e = fun_ext (λ w. ap (IsSum (rows_of plate)) (ap (bit_xor w) e ∙ xor_zero_r w))

module _ (plate : Plate) where
  -- what was taken off the mask is a codeword
  rest_sum : IsSum (rows_of plate) (bit_xor plate.mask (rest_of plate))
  rest_sum = off-sum (rows_of plate) plate.mask

  -- a word plus the rest is a codeword, and a codeword plus the rest is a word
  pub word-code : (w : ℕ) → IsWord plate w → IsSum (rows_of plate) (bit_xor w (rest_of plate))
  word-code w g = subst (IsSum (rows_of plate)) (xor-through w plate.mask (rest_of plate)) (in-xor g rest_sum)

  pub code-word : (v : ℕ) → IsSum (rows_of plate) v → IsWord plate (bit_xor v (rest_of plate))
  code-word v g =
      subst (IsSum (rows_of plate)) (ap (bit_xor v) (xor_comm plate.mask (rest_of plate)) ∙ sym (xor_assoc v (rest_of plate) plate.mask))
      (in-xor g rest_sum)

  module _ (given : IsPrepared plate) where
    -- what is left of a word once the rows are taken off has 0 where a codeword has its first one
    pub off-clear : (word v p : ℕ) → IsSum (rows_of plate) v → First v p → bit (taken_off (rows_of plate) word) p ≡ 0
    off-clear word v p g f =
        let h : (j : ℕ) × (j < length (rows_of plate)) × (firsts (rows_of plate) j ≡ p) = given.same.reply.1.rows.heads v p g f in
        subst (λ (q : ℕ). bit (taken_off (rows_of plate) word) q ≡ 0) h.2
        (off-cleared (rows_of plate) word (sound given).reduced.spans.first (sound given).reduced.spans.rising h.0 h.1)

    rest-clear : (v p : ℕ) → IsSum (rows_of plate) v → First v p → bit (rest_of plate) p ≡ 0
    rest-clear = off-clear plate.mask

    -- so of two codewords the earlier one gives the earlier word
    pub earlier_word : (a b : ℕ) → IsSum (rows_of plate) a → IsSum (rows_of plate) b → Earlier a b → Earlier (bit_xor a (rest_of plate)) (bit_xor b (rest_of plate))
    earlier_word a b g h e = record {
      place = e.place;
      same = λ i k. bit-xor i a (rest_of plate) ∙ ap (λ (x : ℕ). differ x (bit (rest_of plate) i)) (e.same i k) ∙ sym (bit-xor i b (rest_of plate));
      zero_here = bit-xor e.place a (rest_of plate) ∙ ap₂ differ e.zero_here clear;
      one_there = bit-xor e.place b (rest_of plate) ∙ ap₂ differ e.one_there clear;
    }
      where
        begins : First (bit_xor a b) e.place
        begins = record {
          one = bit-xor e.place a b ∙ ap₂ differ e.zero_here e.one_there;
          zeros = λ i k. bit-xor i a b ∙ ap (λ (x : ℕ). differ x (bit b i)) (e.same i k) ∙ differ_self (bit b i);
        }

        clear : bit (rest_of plate) e.place ≡ 0
        clear = rest-clear (bit_xor a b) e.place (in-xor g h) begins
