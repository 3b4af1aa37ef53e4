-- Words of a plate and codewords: each is the other once the mask is added.
use lib.Bits.{bit_xor, xor_zero_r}
use mathlib.Core.Path.{ap, sym, ◌∙◌, ◌≡◌}
use Prim.Native.Nat.{ℕ}
use Rattle.coding.specs.Coding.{word_of}
use Rattle.plates.specs.declared.Plate.{Plate}
use Rattle.plates.specs.Prepare.{IsWord, rows_of}
use Rattle.words.proofs.Word.{xor_assoc, xor_self}
use Rattle.words.specs.Sum.{sum_of}

-- a mask that is added twice is gone
pub mask-twice : (w mask : ℕ) → bit_xor (bit_xor w mask) mask ≡ w
mask-twice w mask = xor_assoc w mask mask ∙ ap (bit_xor w) (xor_self mask) ∙ xor_zero_r w

module _ (plate : Plate) where
  -- what information makes is a word of the plate
  pub made-is-word : (u : ℕ) → IsWord plate (word_of plate u)
  made-is-word u = record { by = u; sum = sym (mask-twice (sum_of (rows_of plate) u) plate.mask) }

  -- information whose codeword is a word plus mask makes the word
  pub makes_word : (u w : ℕ) → sum_of (rows_of plate) u ≡ bit_xor w plate.mask → word_of plate u ≡ w
  makes_word u w e = ap (λ (x : ℕ). bit_xor x plate.mask) e ∙ mask-twice w plate.mask

  -- where two words are equal, so are their codewords
  pub same-codeword : (u v : ℕ) → word_of plate u ≡ word_of plate v → sum_of (rows_of plate) u ≡ sum_of (rows_of plate) v
  same-codeword u v e =
      sym (mask-twice (sum_of (rows_of plate) u) plate.mask) ∙ ap (λ (x : ℕ). bit_xor x plate.mask) e
      ∙ mask-twice (sum_of (rows_of plate) v) plate.mask
