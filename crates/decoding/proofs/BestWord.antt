-- The word read off and its metric are what decoding promises: a word of the plate, of greatest metric, and of equals the earliest.
use lib.Bits.{bit_xor}
use lib.IntN.{ℤ}
use lib.ListN.{length}
use lib.Signed.{◌<ℤ◌, <ℤ_irrefl, ◌≤ℤ◌, ≤ℤ_refl}
use mathlib.Core.List.{List}
use mathlib.Core.Logic.{inl, inr, ◌⊎◌}
use mathlib.Core.Path.{ap, subst, sym, ◌∙◌, ◌≡◌}
use native.Mathlib.Omega.{arith}
use Prim.Native.Nat.{ℕ}
use Rattle.decoding.proofs.BestWay.{Way, attains, none-beats}
use Rattle.decoding.proofs.BranchesCounted.{additions-are-branches, comparisons-are-entering-less-one}
use Rattle.decoding.proofs.IntegerOrder.{<ℤ-≤ℤ}
use Rattle.decoding.proofs.MaskedWords.{code-word, earlier_word, rest_of, word-code}
use Rattle.decoding.proofs.PlateWays.{codeword-way, plate-chain, start-state, way-codeword}
use Rattle.decoding.proofs.StateChoice.{Under}
use Rattle.decoding.proofs.TurnedSamples.{turned-back, turned-length, turned-metric}
use Rattle.decoding.specs.Backward.{best, counted, word_from}
use Rattle.decoding.specs.declared.Answer.{Answer}
use Rattle.decoding.specs.declared.Counts.{Counts}
use Rattle.decoding.specs.Decode.{Best}
use Rattle.decoding.specs.Metric.{metric_of}
use Rattle.decoding.specs.Turning.{turned_by}
use Rattle.plates.specs.declared.Plate.{Plate}
use Rattle.plates.specs.Prepare.{IsPrepared, IsWord, rows_of}
use Rattle.trellises.proofs.MaskedGraph.{xor-twice}
use Rattle.trellises.specs.declared.Section.{Section}
use Rattle.trellises.specs.SectionOf.{section_of}
use Rattle.words.specs.Sum.{IsSum}
use Rattle.words.specs.Word.{Earlier}

-- ---- among the codewords, with any gains

module _ (plate : Plate) (given : IsPrepared plate) (ys : List ℤ) (size : length ys ≡ plate.n) where
  abbrev sections : ℕ → Section
  sections = section_of (rows_of plate)

  abbrev the_word : ℕ
  the_word = word_from (section_of (rows_of plate)) ys 0 0

  abbrev the_metric : ℤ
  the_metric = best (section_of (rows_of plate)) ys 0 0

  reached : Way (section_of (rows_of plate)) ys 0 0 the_word × (metric_of ys the_word ≡ the_metric)
  reached = attains sections plate.n (plate-chain plate given) ys 0 0 (omega arith) (start-state plate given)

  read-codeword : IsSum (rows_of plate) the_word
  read-codeword = way-codeword plate given ys size the_word reached.0

  under : (w : ℕ) → IsSum (rows_of plate) w → Under the_metric the_word w (metric_of ys w)
  under w g = none-beats sections plate.n (plate-chain plate given) ys 0 0 w (omega arith) (start-state plate given) (codeword-way plate given ys size w g)

not-greater : (B : ℤ) (W w : ℕ) (m : ℤ) → Under B W w m → m ≤ℤ B
not-greater B W w m (inl l) = <ℤ-≤ℤ l
not-greater B W w m (inr e) = subst (λ (z : ℤ). z ≤ℤ B) (sym e.0) (≤ℤ_refl B)

not_earlier : (B : ℤ) (W w : ℕ) (m : ℤ) → m ≡ B → Under B W w m → (W ≡ w) ⊎ Earlier W w
not_earlier B W w m e (inl l) = absurd (<ℤ_irrefl (subst (λ (z : ℤ). z <ℤ B) e l))
not_earlier B W w m e (inr r) = r.1

-- ---- among the words, with the gains turned by the rest of the mask

module _ (plate : Plate) (given : IsPrepared plate) (samples : List ℤ) (size : length samples ≡ plate.n) where
  abbrev gains : List ℤ
  gains = turned_by (rest_of plate) samples

  gains-size : length (turned_by (rest_of plate) samples) ≡ plate.n
  gains-size = turned-length (rest_of plate) samples ∙ size

  -- the codeword that is read off
  abbrev read : ℕ
  read = word_from (section_of (rows_of plate)) gains 0 0

  word-under : (w : ℕ) → IsWord plate w → Under (best (section_of (rows_of plate)) gains 0 0) read (bit_xor w (rest_of plate)) (metric_of samples w)
  word-under w g =
      subst (Under _ _ (bit_xor w (rest_of plate))) (turned-back (rest_of plate) samples w)
      (under plate given gains gains-size (bit_xor w (rest_of plate)) (word-code plate w g))

  -- where it is another's or earlier, so is its word
  word-earlier : (w : ℕ) → IsWord plate w → (read ≡ bit_xor w (rest_of plate)) ⊎ Earlier read (bit_xor w (rest_of plate))
      → (bit_xor read (rest_of plate) ≡ w) ⊎ Earlier (bit_xor read (rest_of plate)) w
  word-earlier w g (inl e) = inl (ap (λ (x : ℕ). bit_xor x (rest_of plate)) e ∙ xor-twice w (rest_of plate))
  word-earlier w g (inr e) =
      inr (subst (Earlier _) (xor-twice w (rest_of plate))
      (earlier_word plate given read (bit_xor w (rest_of plate)) (read-codeword plate given gains gains-size) (word-code plate w g) e))

  pub best-word : (a : Answer) → a.word ≡ bit_xor (word_from (section_of (rows_of plate)) (turned_by (rest_of plate) samples) 0 0) (rest_of plate)
      → a.metric ≡ best (section_of (rows_of plate)) (turned_by (rest_of plate) samples) 0 0
      → a.counts ≡ counted (section_of (rows_of plate)) (turned_by (rest_of plate) samples) 0 → Best plate samples a
  best-word a e m k = record {
    codeword = subst (IsWord plate) (sym e) (code-word plate read (read-codeword plate given gains gains-size));
    metric = m ∙ sym (reached plate given gains gains-size).1 ∙ turned-metric (rest_of plate) samples _ ∙ ap (metric_of samples) (sym e);
    greatest = λ w g. subst (λ (z : ℤ). metric_of samples w ≤ℤ z) (sym m) (not-greater _ _ _ (metric_of samples w) (word-under w g));
    earliest = λ w g t. subst (λ (x : ℕ). (x ≡ w) ⊎ Earlier x w) (sym e) (word-earlier w g (not_earlier _ _ _ (metric_of samples w) (t ∙ m) (word-under w g)));
    additions = ap (λ (c : Counts). c.additions) k ∙ additions-are-branches plate given gains gains-size;
    comparisons = ap (λ (c : Counts). c.comparisons) k ∙ comparisons-are-entering-less-one plate given gains gains-size;
  }
