-- Encode and read back undo each other, and read back refuses exactly the words that are no words of the plate.
use Rattle.std.proofs.Common.{Result, Ok, Err}
use Rattle.plates.specs.declared.Refusal.{Refusal}
use lib.Bits.{bit_xor, xor_lt}
use lib.ListN.{get_or, length}
use mathlib.Core.Logic.{inl, inr, ◌↔◌}
use mathlib.Core.Path.{ap, refl, subst, ◌∙◌, ◌≡◌}
use native.Mathlib.Omega.{arith}
use Prim.Native.Nat.{◌<◌, ◌^◌, ℕ, ◌≤◌}
use Rattle.coding.proofs.CodingDetermined.{encode-determined, read-back-determined}
use Rattle.coding.proofs.PlateWords.{made-is-word, makes_word, mask-twice}
use Rattle.coding.specs.Coding.{Encodes, ReadsBack, word_of}
use Rattle.plates.proofs.OneDimension.{sum-trim, trim, trim-lt}
use Rattle.plates.proofs.SoundIsPrepared.{sound, used-row, used-rows}
use Rattle.plates.specs.declared.Plate.{Plate}
use Rattle.plates.specs.declared.Refusal.TheVariants.{NoCodeword}
use Rattle.plates.specs.Prepare.{IsPrepared, IsWord, rows_of}
use Rattle.words.proofs.Sums.{all-zero}
use Rattle.words.proofs.Word.{below-bits, bits_below}
use Rattle.words.specs.Sum.{IsSum}
use Rattle.words.specs.Word.{bit}

module _ (plate : Plate) (prepared : IsPrepared plate) where
  -- encode then read back returns the information, for every information below 2 ^ k
  pub encode-then-read : (u : ℕ) → u < 2 ^ plate.k → (r : Result ℕ Refusal) → Encodes plate u r
      → (r ≡ Ok (word_of plate u)) × ((s : Result ℕ Refusal) → ReadsBack plate (word_of plate u) s → s ≡ Ok u)
  encode-then-read u h r x = (encoded, λ s y. read-back-determined plate (word_of plate u) s (Ok u) y is_read)
    where
      encoded : r ≡ Ok (word_of plate u)
      encoded =
          encode-determined plate u r (Ok (word_of plate u)) x
          (((λ p b. b.0 prepared), ((λ p b. omega (arith, b.0)), tt)), refl)

      is_read : ReadsBack plate (word_of plate u) (Ok u)
      is_read = (((λ p b. b.0 prepared), ((λ p b. b.0 (made-is-word plate u)), tt)), h, refl)

  -- the information of a word of the plate
  pub information-of : (w : ℕ) → IsWord plate w → (u : ℕ) × (u < 2 ^ plate.k) × (word_of plate u ≡ w)
  information-of w g =
      let size : length (rows_of plate) ≡ plate.k = used-rows plate (sound prepared).few (sound prepared).table in (
        trim (length (rows_of plate)) g.by,
        subst (λ (x : ℕ). trim (length (rows_of plate)) g.by < 2 ^ x) size (trim-lt (length (rows_of plate)) g.by),
        makes_word plate (trim (length (rows_of plate)) g.by) w (sum-trim (rows_of plate) g.by ∙ g.sum),
      )

  -- read back then encode returns the word, for every word of the plate
  pub read-then-encode : (w : ℕ) → IsWord plate w → (s : Result ℕ Refusal) → ReadsBack plate w s
      → (u : ℕ) × (s ≡ Ok u) × ((r : Result ℕ Refusal) → Encodes plate u r → r ≡ Ok w)
  read-then-encode w g s y =
      let i = information-of w g in (
        i.0,
        read-back-determined plate w s (Ok i.0) y (((λ p b. b.0 prepared), ((λ p b. b.0 g), tt)), i.1, i.2),
        λ r x. (encode-then-read i.0 i.1 r x).0 ∙ ap Ok i.2,
      )

  -- read back refuses exactly the words that are no words of the plate
  pub read-refuses : (w : ℕ) (s : Result ℕ Refusal) → ReadsBack plate w s → (s ≡ Err NoCodeword) ↔ (IsWord plate w → ⊥)
  read-refuses w s y = ((λ e g. no_word e g), λ n. read-back-determined plate w s (Err NoCodeword) y (inr ((λ p b. b.0 prepared), inl (n, refl))))
    where
      no_word : s ≡ Err NoCodeword → IsWord plate w → ⊥
      no_word e g = let c = (read-then-encode w g s y).1 in let z : ◌≡◌ {A = ℕ} 0 1 = cc in omega arith

  -- a codeword has no one at n or beyond
  pub codeword-below : (w : ℕ) → IsSum (rows_of plate) w → w < 2 ^ plate.n
  codeword-below w g = subst (λ (x : ℕ). x < 2 ^ plate.n) g.sum (below-bits plate.n _ (λ i m. all-zero (rows_of plate) i (λ j k. high i m j k) g.by))
    where
      high : (i : ℕ) → plate.n ≤ i → (j : ℕ) → j < length (rows_of plate) → bit (get_or (rows_of plate) j 0) i ≡ 0
      high i m j k =
          let l : j < plate.k = omega (arith, used-rows plate (sound prepared).few (sound prepared).table) in
          ap (λ (x : ℕ). bit x i) (used-row plate j l) ∙ bits_below plate.n (get_or plate.rows j 0) ((sound prepared).below j l) i m

  -- words with a one at n or beyond included
  pub beyond-refused : (w : ℕ) → 2 ^ plate.n ≤ w → IsWord plate w → ⊥
  beyond-refused w h g =
      let below = xor_lt plate.n (bit_xor w plate.mask) plate.mask (codeword-below (bit_xor w plate.mask) g) (sound prepared).masked in
      omega (arith, h, subst (λ (x : ℕ). x < 2 ^ plate.n) (mask-twice w plate.mask) below)
