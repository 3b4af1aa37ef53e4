-- Tests of how firm a position is, and of why a word was not chosen: by each word of the plate.
use Rattle.std.proofs.Common.{Ok}
use lib.IntN.{◌-ℤ◌, pos, ℤ}
use lib.Signed.{◌≤ℤ◌}
use mathlib.Core.List.{List}
use mathlib.Core.Logic.{inl, inr}
use mathlib.Core.Path.{refl, ◌≡◌}
use native.Mathlib.Omega.{arith}
use Prim.Native.Nat.{suc, suc-le-suc, ℕ}
use Rattle.asking.proofs.WhyNotDetermined.{why-not-determined}
use Rattle.asking.specs.Asking.{Asks, Continued, Explains, NoCodewordAt}
use Rattle.asking.specs.declared.Reason.{Reason}
use Rattle.asking.specs.declared.Reason.TheVariants.{Chosen, NoCodeword, ScoresLess, TiesAndLoses}
use Rattle.decoding.proofs.FirmnessDetermined.{firmness-determined}
use Rattle.decoding.specs.Backward.{counted}
use Rattle.decoding.specs.declared.Answer.{Answer}
use Rattle.decoding.specs.declared.firmness.Flag.{Flag}
use Rattle.decoding.specs.declared.firmness.Reading.{Reading}
use Rattle.decoding.specs.declared.firmness.Reading.TheVariants.{Fixed, Open}
use Rattle.decoding.specs.Firmness.{BestAmong, FlagOf, TellsFirmness, Margin, Means, is_fixed, value}
use Rattle.decoding.specs.Metric.{metric_of}
use Rattle.demands.proofs.BlocksChecked.{at_most_whole, in-rooms, less_whole, ready, tested, tested-best}
use Rattle.demands.proofs.Checking.{Check, at_most, below, both, by, each, either, equal, less, some, unequal, whole}
use Rattle.demands.proofs.CodeWords.{plate_word, plate_words, some_plate_word}
use Rattle.demands.proofs.Demand1.{decode-passes}
use Rattle.demands.proofs.A3.{firmness-passes}
use Rattle.demands.specs.Examples.{InRooms}
use Rattle.plates.specs.declared.Plate.{Plate}
use Rattle.plates.specs.Prepare.{IsWord, rows_of}
use Rattle.trellises.specs.SectionOf.{section_of}
use Rattle.words.specs.Word.{bit}

-- ---- how firm a position is

module _ (plate : Plate) (samples : List ℤ) (position : ℕ) where
  -- a word has bit b there, and no word with that bit has a greater metric
  abbrev pub BestWith : ℕ → ℕ → Type 0
  BestWith b w = (bit w position ≡ b) × ((v : ℕ) → IsWord plate v → bit v position ≡ b → metric_of samples v ≤ℤ metric_of samples w)

  abbrev pub best_with : (b w : ℕ) → Check (BestWith b w)
  best_with b w =
      both (equal (bit w position) b)
      (plate_words plate (λ v.
      by (λ s e. elim s [ inl d ↦ absurd (d e) | inr x ↦ x ]) (either (unequal (bit v position) b) (at_most_whole (metric_of samples v) (metric_of samples w)))))

  pub best-with : (b w : ℕ) → IsWord plate w → BestWith b w → BestAmong (IsWord plate) samples position b (metric_of samples w)
  best-with b w g x = record { word = w; codeword = g; has = x.0; metric = refl; greatest = x.1 }

  -- the margin is the difference of the best metrics of some two words with 0 and with 1 there
  abbrev pub margin : (m : ℤ) → Check (Margin (IsWord plate) samples position m)
  margin m =
      by (λ s. record {
        with_zero = metric_of samples s.0;
        with_one = metric_of samples s.2.1.0;
        zero_best = best-with 0 s.0 s.1 s.2.0;
        one_best = best-with 1 s.2.1.0 s.2.1.1 s.2.1.2.0;
        is = s.2.1.2.1;
      })
      (some_plate_word plate (λ w.
      both (best_with 0 w) (some_plate_word plate (λ v. both (best_with 1 v) (whole m (metric_of samples w -ℤ metric_of samples v))))))

  -- a fixed bit is each word's
  abbrev pub reading : (r : Reading) → Check (Means (IsWord plate) samples position (is_fixed r) (value r))
  reading (Fixed b) = plate_words plate (λ w. whole (pos (bit w position)) (pos b))
  reading (Open m) = margin m

  abbrev pub flagged : (flag : Flag) → Check (FlagOf (IsWord plate) samples position flag)
  flagged flag = by (λ p. record { position_is = p.0; reading = p.1 }) (both (equal flag.position position) (reading flag.reading))

  -- the position is judged so, and not otherwise
  abbrev pub judged : (flag : Flag) → Check (InRooms plate (TellsFirmness plate samples position) (Ok flag))
  judged flag =
      by (λ p.
      in-rooms plate (TellsFirmness plate samples position) (Ok flag) (firmness-determined plate samples position) (λ metrics decisions m d. (
        firmness-passes plate samples position metrics decisions p.0.given p.0.count p.0.within p.1.0 m d,
        p.1.1,
        record { metrics_zero = refl; decisions_zero = refl },
      )))
      (both (ready plate samples) (both (less position plate.n) (flagged flag)))

-- ---- why a word was not chosen

module _ (plate : Plate) (w : ℕ) where
  -- some word has its bits up to i
  abbrev pub continued : (i : ℕ) → Check (Continued (IsWord plate) w i)
  continued i =
      by (λ s. record { by = s.0; codeword = s.1; same = λ j h. s.2 j (suc-le-suc h) })
      (some_plate_word plate (λ c. each (suc i) (λ j. equal (bit c j) (bit w j))))

  -- each word has another one
  abbrev pub uncontinued : (i : ℕ) → Check (Continued (IsWord plate) w i → ⊥)
  uncontinued i =
      by (λ h c. let x = h c.by c.codeword in x.2 (c.same x.0 (omega (arith, x.1))))
      (plate_words plate (λ c. some (suc i) (λ j. unequal (bit c j) (bit w j))))

  abbrev pub no_word_at : (p : ℕ) → Check (NoCodewordAt plate w p)
  no_word_at p =
      by (λ x. record { none = λ g. x.0 w g refl; within = x.1.0; sooner = x.1.1.0; stops = x.1.1.1 })
      (both (plate_words plate (λ c. unequal c w)) (both (at_most p plate.n) (both (each p continued) (below p plate.n (uncontinued p)))))

module _ (plate : Plate) (samples : List ℤ) (w : ℕ) where
  -- a reason against an answer
  abbrev pub explaining : (a : Answer) (reason : Reason) → Check (Explains plate samples a w reason)
  explaining a Chosen = equal w a.word
  explaining a (NoCodeword p) = no_word_at plate w p
  explaining a (ScoresLess difference) =
      by (λ x. record { codeword = x.0; less = x.1.0; by = x.1.1 })
      (both (plate_word plate w) (both (less_whole (metric_of samples w) a.metric) (whole difference (a.metric -ℤ metric_of samples w))))
  explaining a (TiesAndLoses p) =
      by (λ x. record {
        codeword = x.0;
        tie = x.1.0;
        loses = record { place = p; same = x.1.1.0; zero_here = x.1.1.1.0; one_there = x.1.1.1.1 };
        at = refl;
      })
      (both (plate_word plate w)
      (both (whole (metric_of samples w) a.metric)
      (both (each p (λ i. equal (bit a.word i) (bit w i))) (both (equal (bit a.word p) 0) (equal (bit w p) 1)))))

  -- an answer with this word
  abbrev pub answer_at : ℕ → Answer
  answer_at v = record { word = v; metric = metric_of samples v; counts = counted (section_of (rows_of plate)) samples 0 }

  -- some answer is the best, and the reason holds against it: the word is explained so, and not otherwise
  abbrev pub explained : (reason : Reason) → Check (InRooms plate (Asks plate samples w) (Ok reason))
  explained reason =
      by (λ p.
      in-rooms plate (Asks plate samples w) (Ok reason) (why-not-determined plate samples w) (λ metrics decisions m d. (
        decode-passes plate samples metrics decisions p.0.given p.0.count p.0.within m d,
        record {
          answer = answer_at p.1.0;
          best = tested-best plate samples (answer_at p.1.0) p.0 p.1.2.0;
          explains = p.1.2.1;
        },
        record { metrics_zero = refl; decisions_zero = refl },
      )))
      (both (ready plate samples) (some_plate_word plate (λ v. both (tested plate samples (answer_at v)) (explaining (answer_at v) reason))))
