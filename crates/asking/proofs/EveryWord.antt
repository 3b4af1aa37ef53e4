-- Every word has a reason, and what each reason says besides: where a one at n or beyond is told, how large a difference is.
use lib.Bits.{bit_xor}
use lib.Count.{count_trailing_zeros}
use lib.IntN.{+ℤ_comm, +ℤ_invr, nat_abs, neg_ℤ, pos, ℤ, ◌+ℤ◌, ◌-ℤ◌}
use lib.Signed.{◌<ℤ◌, lt_z}
use mathlib.Core.Bool.{Bool, false, true}
use mathlib.Core.List.{List}
use mathlib.Core.Path.{ap, refl, subst, sym, ◌∙◌, ◌≡◌}
use native.Mathlib.Decide.{dec_lt, ℕ_discrete}
use native.Mathlib.Nat.{le_refl, pow-suc}
use native.Mathlib.Omega.{arith}
use Prim.Native.Nat.{◌<◌, ◌^◌, min, suc, zero, ℕ, ◌-◌, ◌≤◌}
use Rattle.asking.proofs.Reasons.{best-fits, metric-fits, scores-less, ties-and-loses}
use Rattle.asking.proofs.Stopping.{nothing_left, stopped}
use Rattle.asking.specs.Asking.{Explains, Less, NoCodewordAt}
use Rattle.asking.specs.Working.{Asked}
use Rattle.asking.specs.declared.Reason.{Reason}
use Rattle.asking.specs.declared.Reason.TheVariants.{Chosen, NoCodeword, ScoresLess, TiesAndLoses}
use Rattle.coding.proofs.RoundTrip.{beyond-refused}
use Rattle.decoding.proofs.IntegerOrder.{add-lt}
use Rattle.decoding.proofs.Integers.{abs-add, abs_neg}
use Rattle.decoding.specs.Cosets.{taken_off}
use Rattle.decoding.specs.declared.Answer.{Answer}
use Rattle.decoding.specs.Metric.{metric_of}
use Rattle.plates.proofs.SoundIsPrepared.{sound}
use Rattle.plates.specs.declared.Plate.{Plate}
use Rattle.plates.specs.Prepare.{IsPrepared, IsWord, rows_of}
use Rattle.words.proofs.Ends.{first-trailing}
use Rattle.words.proofs.Word.{below-ext, xor-zero-eq}
use Rattle.words.specs.Ends.{FirstOne}
use Rattle.words.specs.Span.{First}
use Rattle.words.specs.Word.{bit}

-- ---- a one at n or beyond

module _ {plate : Plate} (given : IsPrepared plate) (w : ℕ) where
  -- a word that fails only by a one at n or beyond stops at n
  pub beyond-at-n : (c : ℕ) → IsWord plate c → ((i : ℕ) → i < plate.n → bit c i ≡ bit w i) → 2 ^ plate.n ≤ w → NoCodewordAt plate w plate.n
  beyond-at-n c g same over = record {
    none = beyond-refused plate given w over;
    within = le_refl plate.n;
    sooner = λ i h. record { by = c; codeword = g; same = λ j l. same j (omega arith) };
    stops = λ h. absurd (omega arith);
  }

  -- and no other word does
  pub at-n-beyond : NoCodewordAt plate w plate.n → 2 ^ plate.n ≤ w
  at-n-beyond x = go (dec_lt w (2 ^ plate.n))
    where
      go : Dec (w < 2 ^ plate.n) → 2 ^ plate.n ≤ w
      go (no h) = omega arith
      go (yes h) =
          let positive : 1 ≤ plate.n = (sound given).positive in
          let c = x.sooner (plate.n - 1) (omega arith) in
          absurd (x.none (subst (IsWord plate) (below-ext plate.n c.by w (below c.by c.codeword) h (λ i l. c.same i (omega arith))) c.codeword))
        where
          below : (v : ℕ) → IsWord plate v → v < 2 ^ plate.n
          below v g = at (dec_lt v (2 ^ plate.n))
            where
              at : Dec (v < 2 ^ plate.n) → v < 2 ^ plate.n
              at (yes l) = l
              at (no l) = absurd (beyond-refused plate given v (omega arith) g)

-- ---- a difference

-- it is above zero, and at most 262,016
pub difference-bounds : (plate : Plate) (samples : List ℤ) (a : Answer) → Asked plate samples a → (w : ℕ) (d : ℤ) → Less plate samples a w d
    → (pos 0 <ℤ d) × (nat_abs d ≤ 262016)
difference-bounds plate samples a asked w d l = (
  subst (λ (z : ℤ). pos 0 <ℤ z) (+ℤ_comm (neg_ℤ m) a.metric ∙ sym l.by)
      (subst (λ (z : ℤ). z <ℤ (neg_ℤ m +ℤ a.metric)) (+ℤ_comm (neg_ℤ m) m ∙ +ℤ_invr m) (add-lt (neg_ℤ m) l.less)),
  omega (arith, ap nat_abs l.by, abs-add a.metric (neg_ℤ m), abs_neg m, best-fits plate samples a asked, metric-fits plate samples a asked w),
)
  where
    m : ℤ
    m = metric_of samples w

-- ---- every word has a reason

own_power : (n : ℕ) → n < 2 ^ n
own_power zero = omega arith
own_power (suc n) = omega (arith, own_power n, pow-suc 2 n)

first_of : (w : ℕ) → 0 < w → First w (count_trailing_zeros w w)
first_of w h = first-trailing w w h (own_power w)

module _ (plate : Plate) (samples : List ℤ) (a : Answer) (asked : Asked plate samples a) (w : ℕ) where
  codeword-reason : IsWord plate w → (w ≡ a.word → ⊥) → (r : Reason) × Explains plate samples a w r
  codeword-reason g other = go (lt_z (metric_of samples w) a.metric) refl
    where
      sum : ℕ
      sum = bit_xor w a.word

      first_one : FirstOne sum (count_trailing_zeros sum sum)
      first_one = record { none = λ e. absurd (other (xor-zero-eq w a.word e)); some = first_of sum }

      go : (t : Bool) → lt_z (metric_of samples w) a.metric ≡ t → (r : Reason) × Explains plate samples a w r
      go true t = (ScoresLess (a.metric -ℤ metric_of samples w), scores-less plate samples a asked w g t _ refl)
      go false t = (TiesAndLoses (count_trailing_zeros sum sum), ties-and-loses plate samples a asked w g other t _ first_one)

  pub some-reason : (r : Reason) × Explains plate samples a w r
  some-reason = go (ℕ_discrete w a.word) (ℕ_discrete (taken_off (rows_of plate) (bit_xor w plate.mask)) 0)
    where
      rest : ℕ
      rest = taken_off (rows_of plate) (bit_xor w plate.mask)

      go : Dec (w ≡ a.word) → Dec (taken_off (rows_of plate) (bit_xor w plate.mask) ≡ 0) → (r : Reason) × Explains plate samples a w r
      go (yes e) l = (Chosen, e)
      go (no other) (yes e) = codeword-reason (nothing_left asked.given w (taken_off (rows_of plate) (bit_xor w plate.mask)) refl e) other
      go (no other) (no some) = (
        NoCodeword (min (count_trailing_zeros rest rest) plate.n),
        stopped asked.given w rest refl some _ (record { stop = λ h. (count_trailing_zeros rest rest, first_of rest h, refl) }),
      )
