-- Tests of a decoded block: each word is compared, and the counts are those of the steps.
use Rattle.std.proofs.Common.{Ok}
use borrow.Author.Tests.{eqb-false, eqb-true}
use lib.Dec.{T, eqb, eqb→eq}
use lib.IntN.{nat_abs, pos, ℤ}
use lib.ListN.{drop, get_or, length, replicate}
use lib.Signed.{◌<ℤ◌, <ℤ_irrefl, le_z, le_z_yes, lt_z, lt_z_yes, ◌≤ℤ◌}
use mathlib.Core.Bool.{Bool, cond, false, true}
use mathlib.Core.List.{◌++◌, List}
use mathlib.Core.Logic.{inl, inr, ◌⊎◌}
use mathlib.Core.Path.{ap, ap₂, refl, subst, sym, ◌∙◌, ◌≡◌}
use native.Mathlib.Decide.{dec_lt}
use native.Mathlib.Omega.{arith}
use Prim.Native.Nat.{◌%◌, ◌/◌, ◌<◌, suc, zero, ℕ, ◌≤◌}
use Rattle.decoding.proofs.BranchesCounted.{additions-are-branches, comparisons-are-entering-less-one}
use Rattle.decoding.proofs.DecodeDetermined.{decode-determined}
use Rattle.decoding.specs.Backward.{counted}
use Rattle.decoding.specs.declared.Answer.{Answer}
use Rattle.decoding.specs.Decode.{Best, Decodes, decision_need, metric_need}
use Rattle.decoding.specs.Metric.{limit, metric_of}
use Rattle.demands.proofs.Checking.{Check, at_most, both, by, each, either, equal, whole}
use Rattle.demands.proofs.CodeWords.{plate_word, plate_words}
use Rattle.demands.proofs.Demand1.{decode-passes}
use Rattle.demands.proofs.PlatesChecked.{is_prepared}
use Rattle.demands.specs.Examples.{InRooms}
use Rattle.plates.specs.declared.Plate.{Plate}
use Rattle.plates.specs.Prepare.{IsPrepared, IsWord, rows_of}
use Rattle.trellises.specs.SectionOf.{section_of}
use Rattle.words.specs.Word.{bit, Earlier}

-- ---- which of two words is earlier, by their first k positions

-- a has 0 at the first difference
abbrev pub is_earlier : ℕ → ℕ → ℕ → Bool
is_earlier zero a b = false
is_earlier (suc k) a b = cond (eqb (a % 2) (b % 2)) (is_earlier k (a / 2) (b / 2)) (eqb (a % 2) 0)

-- then a is earlier
pub is-earlier : (k a b : ℕ) → T (is_earlier k a b) → Earlier a b
is-earlier zero a b t = absurd t
is-earlier (suc k) a b t = go (eqb (a % 2) (b % 2)) refl t (is-earlier k (a / 2) (b / 2))
  where
    go : (s : Bool) → eqb (a % 2) (b % 2) ≡ s → T (cond s (is_earlier k (a / 2) (b / 2)) (eqb (a % 2) 0))
        → (T (is_earlier k (a / 2) (b / 2)) → Earlier (a / 2) (b / 2)) → Earlier a b
    go true q t rest = (let e = rest t in record {
      place = suc e.place;
      same = λ i. elim i as (λ k. k < suc e.place → bit a k ≡ bit b k) [ zero ↦ (λ h. eqb-true (a % 2) (b % 2) q) | suc j ↦ (λ h. e.same j (omega arith)) ];
      zero_here = e.zero_here;
      one_there = e.one_there;
    })
    go false q t rest =
        let z : a % 2 ≡ 0 = eqb→eq (a % 2) 0 t in
        let d = eqb-false (a % 2) (b % 2) q in
        record { place = 0; same = λ i h. absurd (omega arith); zero_here = z; one_there = odd (dec_lt (b % 2) 1) d z }
      where
        odd : Dec (b % 2 < 1) → (a % 2 ≡ b % 2 → ⊥) → a % 2 ≡ 0 → b % 2 ≡ 1
        odd (yes h) d z = absurd (d (omega (arith, h, z)))
        odd (no h) d z = omega arith

-- of words of 64 positions
abbrev pub earlier : (a b : ℕ) → Check (Earlier a b)
earlier a b = record { test = is_earlier 64 a b; law = is-earlier 64 a b }

-- ---- a call that is lent both rooms

-- one reply meets the promise, with the needed room zero after it
pub in-rooms : {R : Type 0} (plate : Plate) (Promise : List ℤ → List ℕ → List ℤ → List ℕ → R → Type 0) (reply : R)
    → ((metrics : List ℤ) (decisions : List ℕ) (r s : R) (m n : List ℤ) (d e : List ℕ) → Promise metrics decisions m d r → Promise metrics decisions n e s
    → (r ≡ s) × (m ≡ n) × (d ≡ e))
    → ((metrics : List ℤ) (decisions : List ℕ) → metric_need plate ≤ length metrics → decision_need plate ≤ length decisions
    → Promise metrics decisions (replicate (metric_need plate) (pos 0) ++ drop (metric_need plate) metrics)
    (replicate (decision_need plate) 0 ++ drop (decision_need plate) decisions) reply)
    → InRooms plate Promise reply
in-rooms {R} plate Promise reply determined holds metrics decisions m d r = (
  (λ x.
      let e = determined metrics decisions r.0 reply r.1 _ r.2 _ x (holds metrics decisions m d) in
      ap₂ (λ (y : R) (z : List ℤ). (y, z, r.2)) e.0 e.1
      ∙ ap (λ (z : List ℕ). (reply, replicate (metric_need plate) (pos 0) ++ drop (metric_need plate) metrics, z)) e.2),
  λ e. subst (λ (x : R × List ℤ × List ℕ). Promise metrics decisions x.1 x.2 x.0) (sym e) (holds metrics decisions m d),
)

-- ---- decode

-- one metric is at most another
abbrev pub at_most_whole : (a b : ℤ) → Check (a ≤ℤ b)
at_most_whole a b = record { test = le_z a b; law = le_z_yes }

-- one metric is less than another
abbrev pub less_whole : (a b : ℤ) → Check (a <ℤ b)
less_whole a b = record { test = lt_z a b; law = lt_z_yes }

module _ (plate : Plate) (samples : List ℤ) where
  -- what is tested of a block before it is decoded
  pub record Ready : Type 0 where
    pub given : IsPrepared plate
    pub count : length samples ≡ plate.n
    pub within : (i : ℕ) → i < length samples → nat_abs (get_or samples i (pos 0)) ≤ limit

  abbrev pub ready : Check Ready
  ready =
      by (λ p. record { given = p.0; count = p.1.0; within = p.1.1 })
      (both (is_prepared plate)
      (both (equal (length samples) plate.n) (each (length samples) (λ i. at_most (nat_abs (get_or samples i (pos 0))) limit))))

module _ (plate : Plate) (samples : List ℤ) (a : Answer) where
  -- a word is less than the answer, or as great and not earlier
  abbrev pub Behind : ℕ → Type 0
  Behind w = (metric_of samples w ≤ℤ a.metric) × ((metric_of samples w <ℤ a.metric) ⊎ ((a.word ≡ w) ⊎ Earlier a.word w))

  -- tested by computing the metric
  abbrev pub behind : (w : ℕ) → Check (Behind w)
  behind w =
      both (at_most_whole (metric_of samples w) a.metric)
      (either (less_whole (metric_of samples w) a.metric) (either (equal a.word w) (earlier a.word w)))

  -- what is tested of the answer
  pub record TestedAnswer : Type 0 where
    pub codeword : IsWord plate a.word
    pub metric : a.metric ≡ metric_of samples a.word
    pub others : (w : ℕ) → IsWord plate w → Behind w
    pub additions : a.counts.additions ≡ (counted (section_of (rows_of plate)) samples 0).additions
    pub comparisons : a.counts.comparisons ≡ (counted (section_of (rows_of plate)) samples 0).comparisons

  -- all of it, computed
  abbrev pub tested : Check TestedAnswer
  tested =
      by (λ p. record { codeword = p.0; metric = p.1.0; others = p.1.1.0; additions = p.1.1.1.0; comparisons = p.1.1.1.1 })
      (both (plate_word plate a.word)
      (both (whole a.metric (metric_of samples a.word))
      (both (plate_words plate behind)
      (both (equal a.counts.additions (counted (section_of (rows_of plate)) samples 0).additions)
      (equal a.counts.comparisons (counted (section_of (rows_of plate)) samples 0).comparisons)))))

  -- of equals the answer is the earliest
  pub tie : (w : ℕ) → Behind w → metric_of samples w ≡ a.metric → (a.word ≡ w) ⊎ Earlier a.word w
  tie w b e = go b.1
    where
      go : (metric_of samples w <ℤ a.metric) ⊎ ((a.word ≡ w) ⊎ Earlier a.word w) → (a.word ≡ w) ⊎ Earlier a.word w
      go (inl l) = absurd (<ℤ_irrefl (subst (λ (m : ℤ). m <ℤ a.metric) e l))
      go (inr s) = s

  -- the answer is the best
  pub tested-best : Ready plate samples → TestedAnswer → Best plate samples a
  tested-best r p = record {
    codeword = p.codeword;
    metric = p.metric;
    greatest = λ w g. (p.others w g).0;
    earliest = λ w g. tie w (p.others w g);
    additions = p.additions ∙ additions-are-branches plate r.given samples r.count;
    comparisons = p.comparisons ∙ comparisons-are-entering-less-one plate r.given samples r.count;
  }

  -- the block is decoded so, and not otherwise
  abbrev pub decoded : Check (InRooms plate (Decodes plate samples) (Ok a))
  decoded =
      by (λ p.
      in-rooms plate (Decodes plate samples) (Ok a) (decode-determined plate samples) (λ metrics decisions m d. (
        decode-passes plate samples metrics decisions p.0.given p.0.count p.0.within m d,
        tested-best p.0 p.1,
        record { metrics_zero = refl; decisions_zero = refl },
      )))
      (both (ready plate samples) tested)
