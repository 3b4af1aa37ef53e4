-- The reading by rows and forced metrics is what the promise says: the bit of every word, or the margin of the best.
use lib.Bits.{bit_xor, differ}
use lib.IntN.{pos, ℤ}
use lib.ListN.{length}
use mathlib.Core.List.{List}
use mathlib.Core.Logic.{inl, inr, ◌⊎◌}
use mathlib.Core.Path.{ap, refl, sym, ◌∙◌, ◌≡◌}
use native.Mathlib.Omega.{arith}
use Prim.Native.Nat.{◌<◌, suc, zero, ℕ}
use Rattle.decoding.proofs.ForcedMetrics.{best-among}
use Rattle.decoding.proofs.ForcedRows.{never-one, row-with}
use Rattle.decoding.proofs.MaskedWords.{code-word, rest_of, word-code}
use Rattle.decoding.proofs.MetricBounds.{Within}
use Rattle.decoding.proofs.PlateSizes.{plate_sizes}
use Rattle.decoding.specs.declared.firmness.Reading.{Reading}
use Rattle.decoding.specs.declared.firmness.Reading.TheVariants.{Fixed, Open}
use Rattle.decoding.specs.Firmness.{FlagOf}
use Rattle.decoding.specs.Forcing.{ByForcing, RowWith, best_with}
use Rattle.decoding.specs.Metric.{limit}
use Rattle.plates.specs.declared.Plate.{Plate}
use Rattle.plates.specs.Prepare.{IsPrepared, IsWord, rows_of}
use Rattle.trellises.specs.SectionOf.{section_of}
use Rattle.words.proofs.Sums.{in-zero}
use Rattle.words.proofs.Word.{bit-cases, bit-same, bit-xor, bit-zero}
use Rattle.words.specs.Sum.{IsSum}
use Rattle.words.specs.Word.{bit}

-- where a row has a one at a position, a word has either bit there: the rest, and the row plus rest
module _ (plate : Plate) (p : ℕ) (r : RowWith plate.rows plate.k p) where
  by_code : (v d : ℕ) → IsSum (rows_of plate) v → bit v p ≡ d → (b : ℕ) → differ d (bit (rest_of plate) p) ≡ b → (w : ℕ) × IsWord plate w × (bit w p ≡ b)
  by_code v d g e b f = (bit_xor v (rest_of plate), code-word plate v g, bit-xor p v (rest_of plate) ∙ ap (λ (x : ℕ). differ x (bit (rest_of plate) p)) e ∙ f)

  by_row : (b : ℕ) → differ 1 (bit (rest_of plate) p) ≡ b → (w : ℕ) × IsWord plate w × (bit w p ≡ b)
  by_row b f = let q = row-with plate.rows plate.k p r in by_code q.0 1 q.1 q.2 b f

  with-bit : (b : ℕ) → b < 2 → (w : ℕ) × IsWord plate w × (bit w p ≡ b)
  with-bit b h = go b h (bit-cases (rest_of plate) p)
    where
      go : (b : ℕ) → b < 2 → (bit (rest_of plate) p ≡ 0) ⊎ (bit (rest_of plate) p ≡ 1) → (w : ℕ) × IsWord plate w × (bit w p ≡ b)
      go zero h (inl e) = by_code 0 0 (in-zero (rows_of plate)) (bit-zero p) 0 e
      go zero h (inr e) = by_row 0 (ap (differ 1) e)
      go (suc zero) h (inl e) = by_row 1 (ap (differ 1) e)
      go (suc zero) h (inr e) = by_code 0 0 (in-zero (rows_of plate)) (bit-zero p) 1 e
      go (suc (suc b)) h e = absurd (omega arith)

module _ (plate : Plate) (given : IsPrepared plate) (samples : List ℤ) (size : length samples ≡ plate.n) (within : Within limit samples)
    (position : ℕ) (there : position < plate.n) where
  pub flag-of : (reading : Reading) → ByForcing plate.rows (plate_sizes plate given) samples position reading
      → FlagOf (IsWord plate) samples position (record { position = position; reading = reading })
  flag-of (Fixed b) h = record {
    position_is = refl;
    reading = λ w g.
        ap pos (bit-same w (rest_of plate) position (never-one plate.rows plate.k position h.1 (bit_xor w (rest_of plate)) (word-code plate w g))
        ∙ sym h.0);
  }
  flag-of (Open margin) h =
      let z = with-bit plate position h.0 0 (omega arith) in
      let o = with-bit plate position h.0 1 (omega arith) in
      record {
        position_is = refl;
        reading = record {
          with_zero = best_with (section_of (rows_of plate)) (rest_of plate) samples position 0;
          with_one = best_with (section_of (rows_of plate)) (rest_of plate) samples position 1;
          zero_best = best-among plate given samples size within position there 0 (omega arith) z.0 z.1 z.2;
          one_best = best-among plate given samples size within position there 1 (omega arith) o.0 o.1 o.2;
          is = h.1;
        };
      }
