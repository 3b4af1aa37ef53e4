-- What is left of a mask once a plate's rows are taken off tells its coset: two masks that differ by a codeword leave the same.
use lib.Bits.{bit_xor, differ, xor_comm, xor_zero_r}
use lib.ListN.{get_or, length}
use mathlib.Core.Path.{◌≡◌, ap, ap₂, refl, subst, sym, ◌∙◌}
use native.Mathlib.Decide.{ℕ_discrete}
use native.Mathlib.Omega.{arith}
use Prim.Native.Nat.{◌<◌, ◌^◌, ℕ}
use Rattle.decoding.proofs.MaskedWords.{code-word, off-clear, rest_of, word-code}
use Rattle.decoding.proofs.RestOfWords.{off-below, off-sum, xor-through}
use Rattle.decoding.specs.Cosets.{taken_off}
use Rattle.outlines.proofs.Fitting.{rows-used}
use Rattle.plates.proofs.SoundIsPrepared.{prepared, sound, used-row}
use Rattle.plates.specs.declared.Plate.{Plate}
use Rattle.plates.specs.Prepare.{IsPrepared, IsWord, rows_of}
use Rattle.words.proofs.Ends.{first-trailing}
use Rattle.words.proofs.Span.{zero_one}
use Rattle.words.proofs.Sums.{in-xor}
use Rattle.words.proofs.Word.{below-bits, bit-xor, bits_below, xor_assoc, xor_self, xor-zero-eq}
use Rattle.words.specs.Span.{First}
use Rattle.words.specs.Sum.{IsSum}
use Rattle.words.specs.Word.{bit}

-- the sum of two words of n positions has n
pub xor_below : (n a b : ℕ) → a < 2 ^ n → b < 2 ^ n → bit_xor a b < 2 ^ n
xor_below n a b h k = below-bits n (bit_xor a b) (λ i l. bit-xor i a b ∙ ap₂ differ (bits_below n a h i l) (bits_below n b k i l))

module _ (plate : Plate) (p : IsPrepared plate) where
  -- the rows have no one at n or beyond
  pub rows-below : (j : ℕ) → j < length (rows_of plate) → get_or (rows_of plate) j 0 < 2 ^ plate.n
  rows-below j h =
      let k : j < plate.k = omega (arith, h, rows-used p) in
      subst (λ (x : ℕ). x < 2 ^ plate.n) (sym (used-row plate j k)) ((sound p).below j k)

  pub rest_below : (a : ℕ) → a < 2 ^ plate.n → taken_off (rows_of plate) a < 2 ^ plate.n
  rest_below a h = off-below plate.n (rows_of plate) a rows-below h

  -- the difference of what is left is a codeword with 0 at every head, so it is zero
  pub rest-same : (a b : ℕ) → a < 2 ^ plate.n → b < 2 ^ plate.n → IsSum (rows_of plate) (bit_xor a b)
      → taken_off (rows_of plate) a ≡ taken_off (rows_of plate) b
  rest-same a b h k c = by (taken_off (rows_of plate) a) (taken_off (rows_of plate) b) refl refl
    where
      by : (x y : ℕ) → x ≡ taken_off (rows_of plate) a → y ≡ taken_off (rows_of plate) b → x ≡ y
      by x y e f = go (ℕ_discrete (bit_xor x y) 0)
        where
          -- x + a, a + b and b + y are codewords
          codeword : IsSum (rows_of plate) (bit_xor x y)
          codeword =
              subst (IsSum (rows_of plate))
              (ap (λ (z : ℕ). bit_xor z (bit_xor b y)) (ap (λ (z : ℕ). bit_xor z (bit_xor a b)) (xor_comm a x) ∙ xor-through x a b) ∙ xor-through x b y)
              (in-xor (in-xor (rw (← e) at (off-sum (rows_of plate) a)) c) (rw (← f) at (off-sum (rows_of plate) b)))

          clear : (q : ℕ) → First (bit_xor x y) q → bit (bit_xor x y) q ≡ 0
          clear q g =
              bit-xor q x y
              ∙ ap₂ differ (ap (λ (z : ℕ). bit z q) e ∙ off-clear plate p a (bit_xor x y) q codeword g)
              (ap (λ (z : ℕ). bit z q) f ∙ off-clear plate p b (bit_xor x y) q codeword g)

          go : Dec (bit_xor x y ≡ 0) → x ≡ y
          go (yes z) = xor-zero-eq x y z
          go (no z) =
              let g = first-trailing plate.n (bit_xor x y) (omega (arith, z))
              (xor_below plate.n x y (rw (← e) at (rest_below a h)) (rw (← f) at (rest_below b k))) in
              absurd (zero_one (clear _ g) g.one)

  -- the plate with what is left of its mask
  abbrev pub rested_plate : Plate
  rested_plate = record { n = plate.n; k = plate.k; mask = rest_of plate; rows = plate.rows; profile = plate.profile }

  -- is prepared too
  pub rested-prepared : IsPrepared rested_plate
  rested-prepared =
      let s = sound p in
      prepared (record {
        positive = s.positive;
        short = s.short;
        few = s.few;
        masked = rest_below plate.mask s.masked;
        table = s.table;
        below = s.below;
        reduced = s.reduced;
        unused_rows = s.unused_rows;
        entries = s.entries;
        profile = s.profile;
        unused_entries = s.unused_entries;
        narrow = s.narrow;
      })

  -- and has the same words
  pub rested-words : (w : ℕ) → (IsWord plate w → IsWord rested_plate w) × (IsWord rested_plate w → IsWord plate w)
  rested-words w = (
    word-code plate w,
    λ g. subst (IsWord plate) (xor_assoc w (rest_of plate) (rest_of plate) ∙ ap (bit_xor w) (xor_self (rest_of plate)) ∙ xor_zero_r w)
        (code-word plate (bit_xor w (rest_of plate)) g),
  )
