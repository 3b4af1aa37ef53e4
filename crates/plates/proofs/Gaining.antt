-- Rows that gain another row: one row, and row after row.
use lib.Bits.{bit_xor, xor_zero_r}
use lib.ListN.{get_or, length, length-set, set}
use lib.Seq.{get_or-set_other, get_or-set_same, set-get_or}
use mathlib.Core.List.{List}
use mathlib.Core.Logic.{inl, inr, ◌↔◌, ◌≢◌, ◌⊎◌}
use mathlib.Core.Path.{ap, refl, subst, sym, ◌∙◌, ◌≡◌}
use native.Mathlib.Decide.{dec_lt, ℕ_discrete}
use native.Mathlib.Omega.{arith}
use Prim.Native.Nat.{◌+◌, ◌<◌, ◌^◌, suc, zero, ℕ, ◌≤◌}
use Rattle.plates.specs.Working.{Gained, GainedRow, Odd, SameSums, Tells, gain_row}
use Rattle.plates.specs.Tested.{Decides}
use mir.Val.{bool_byte}
use mathlib.Core.Bool.{Bool, false, true}
use Rattle.words.proofs.Rows.{same_code}
use Rattle.words.proofs.Sums.{all-zero, in_row}
use Rattle.words.proofs.Word.{below-bits, bits_below, digit}
use Rattle.words.specs.Parity.{parity}
use Rattle.words.specs.Sum.{IsSum, add_row, sum_of, taken}

-- ---- lists with the same sums

pub same_refl : {t : List ℕ} → SameSums t t
same_refl = record { to = λ w g. g; from = λ w g. g }

pub same-trans : {t u v : List ℕ} → SameSums t u → SameSums u v → SameSums t v
same-trans p q = record { to = λ w g. q.to w (p.to w g); from = λ w g. p.from w (q.from w g) }

pub same_of : {t u : List ℕ} → ((w : ℕ) → IsSum u w ↔ IsSum t w) → SameSums t u
same_of h = record { to = λ w. (h w).1; from = λ w. (h w).0 }

-- ---- the word taken

pub taken-some : (d w : ℕ) → (d ≡ 0 → ⊥) → w ≡ taken d w
taken-some zero w n = absurd (n refl)
taken-some (suc d) w n = refl

-- ---- one row

-- nothing is gained
stays : (t : List ℕ) (i p d : ℕ) → d ≡ 0 → gain_row t i p d ≡ t
stays t i p d e = ap (λ (x : ℕ). set t i (bit_xor (get_or t i 0) (taken x (get_or t p 0)))) e ∙ ap (set t i) (xor_zero_r (get_or t i 0)) ∙ set-get_or t i 0

gains : (t : List ℕ) (i p d : ℕ) → d ≡ 1 → gain_row t i p d ≡ add_row t i p
gains t i p d e = ap (λ (x : ℕ). set t i (bit_xor (get_or t i 0) (taken x (get_or t p 0)))) e

-- the row i is the only one from i on before i + 1
only : (Q : ℕ → Type 0) (i : ℕ) → Q i → (m : ℕ) → i ≤ m → m < i + 1 → Q m
only Q i q m a b = let e : i ≡ m = omega arith in subst Q e q

apart : (i m : ℕ) → (m < i) ⊎ (i + 1 ≤ m) → m ≢ i
apart i m (inl h) e = omega arith
apart i m (inr h) e = omega arith

pub gained-row : {P : ℕ → Type 0} (t : List ℕ) (i p d : ℕ) → i < length t → i ≢ p → Tells (P (get_or t i 0)) d → Gained t (gain_row t i p d) P i (i + 1) p
gained-row {P} t i p d hi ne tells = go tells.digit
  where
    go : (d ≡ 0) ⊎ (d ≡ 1) → Gained t (gain_row t i p d) P i (i + 1) p
    go (inl e) =
        subst (λ (x : List ℕ). Gained t x P i (i + 1) p) (sym (stays t i p d e))
        (record {
          size = refl;
          same = same_refl;
          others = λ m h. refl;
          rows = only (λ m. GainedRow P (get_or t m 0) (get_or t p 0) (get_or t m 0)) i (inr (tells.no_is e, refl));
        })
    go (inr e) =
        subst (λ (x : List ℕ). Gained t x P i (i + 1) p) (sym (gains t i p d e))
        (record {
          size = length-set t i (bit_xor (get_or t i 0) (get_or t p 0));
          same = same_of (same_code t i p ne);
          others = λ m h. get_or-set_other t i m (bit_xor (get_or t i 0) (get_or t p 0)) 0 (apart i m h);
          rows = only (λ m. GainedRow P (get_or t m 0) (get_or t p 0) (get_or (add_row t i p) m 0))
              i (inl (tells.yes_is e, get_or-set_same t i (bit_xor (get_or t i 0) (get_or t p 0)) 0 hi));
        })

-- ---- row after row

pub gained-none : {t : List ℕ} {P : ℕ → Type 0} {a p : ℕ} → Gained t t P a a p
gained-none = record { size = refl; same = same_refl; others = λ m h. refl; rows = λ m a b. absurd (omega arith) }

pub gained-on : {t u v : List ℕ} {P : ℕ → Type 0} {a j p : ℕ} → (p < a) ⊎ (j < p) → a ≤ j → Gained t u P a j p → Gained u v P j (j + 1) p → Gained t v P a (j + 1) p
gained-on {t} {u} {v} {P} {a} {j} {p} outside h g s = record {
  size = s.size ∙ g.size;
  same = same-trans g.same s.same;
  others = λ m k. s.others m (far m k) ∙ g.others m (further m k);
  rows = λ m k l. at m k l (ℕ_discrete m j);
}
  where
    far : (m : ℕ) → (m < a) ⊎ (j + 1 ≤ m) → (m < j) ⊎ (j + 1 ≤ m)
    far m (inl k) = inl (omega arith)
    far m (inr k) = inr k

    further : (m : ℕ) → (m < a) ⊎ (j + 1 ≤ m) → (m < a) ⊎ (j ≤ m)
    further m (inl k) = inl k
    further m (inr k) = inr (omega arith)

    pivot : (p < a) ⊎ (j < p) → get_or u p 0 ≡ get_or t p 0
    pivot (inl k) = g.others p (inl k)
    pivot (inr k) = g.others p (inr (omega arith))

    at : (m : ℕ) → a ≤ m → m < j + 1 → Dec (m ≡ j) → GainedRow P (get_or t m 0) (get_or t p 0) (get_or v m 0)
    at m k l (no d) = subst (GainedRow P (get_or t m 0) (get_or t p 0)) (sym (s.others m (inl (omega arith)))) (g.rows m k (omega arith))
    at m k l (yes e) =
        subst (λ (x : ℕ). GainedRow P (get_or t x 0) (get_or t p 0) (get_or v x 0)) (sym e)
        (subst (λ (x : ℕ). GainedRow P x (get_or t p 0) (get_or v j 0)) (g.others j (inr (omega arith)))
        (subst (λ (y : ℕ). GainedRow P (get_or u j 0) y (get_or v j 0)) (pivot outside) (s.rows j (omega arith) (omega arith))))

pub gained-end : {t u : List ℕ} {P : ℕ → Type 0} {a b i p : ℕ} → i ≤ b → b ≤ i → Gained t u P a i p → Gained t u P a b p
gained-end {t} {u} {P} {a} {b} {i} {p} h k g = let e : i ≡ b = omega arith in subst (λ (x : ℕ). Gained t u P a x p) e g

-- a parity tells whether it is odd
pub odd-tells : {check w d : ℕ} → d ≡ parity check w → Tells (Odd check w) d
odd-tells {check} {w} {d} e =
    record { digit = digit d (omega arith); yes_is = λ q. record { odd = sym e ∙ q }; no_is = λ q o. omega (arith, o.odd) }

-- so does a test, taken as a digit
pub test-tells : {P : Type 0} (b : Bool) → Decides P b → Tells P (bool_byte b)
test-tells true d = record { digit = inr refl; yes_is = λ e. d.yes_is refl; no_is = λ e. absurd (omega arith) }
test-tells false d = record { digit = inl refl; yes_is = λ e. absurd (omega arith); no_is = λ e. d.no_is refl }

-- a parity that is not odd is even
pub not-odd : {check w : ℕ} → (Odd check w → ⊥) → parity check w ≡ 0
not-odd {check} {w} n = go (digit (parity check w) (omega arith))
  where
    go : (parity check w ≡ 0) ⊎ (parity check w ≡ 1) → parity check w ≡ 0
    go (inl e) = e
    go (inr e) = absurd (n (record { odd = e }))

-- row m, which was x and is z, is as it was; or it had P, stands before b, and gained y
abbrev pub KeptOrGained : (ℕ → Type 0) → ℕ → ℕ → ℕ → ℕ → ℕ → Type 0
KeptOrGained P b m x y z = (z ≡ x) ⊎ (P x × (m < b) × (z ≡ bit_xor x y))

pub gained-cases : {t u : List ℕ} {P : ℕ → Type 0} {a b p : ℕ} → Gained t u P a b p → (m : ℕ) → KeptOrGained P b m (get_or t m 0) (get_or t p 0) (get_or u m 0)
gained-cases {t} {u} {P} {a} {b} {p} g m = go (dec_lt m a) (dec_lt m b)
  where
    inside : m < b → GainedRow P (get_or t m 0) (get_or t p 0) (get_or u m 0) → KeptOrGained P b m (get_or t m 0) (get_or t p 0) (get_or u m 0)
    inside h (inl q) = inr (q.0, h, q.1)
    inside h (inr q) = inl q.1

    go : Dec (m < a) → Dec (m < b) → KeptOrGained P b m (get_or t m 0) (get_or t p 0) (get_or u m 0)
    go (yes h) d = inl (g.others m (inl h))
    go (no h) (yes k) = inside k (g.rows m (omega arith) k)
    go (no h) (no k) = inl (g.others m (inr (omega arith)))

-- ---- rows with the same sums are as long

-- sums of words of length n are words of length n
pub sums-below : (n : ℕ) (t : List ℕ) → ((j : ℕ) → get_or t j 0 < 2 ^ n) → (w : ℕ) → IsSum t w → w < 2 ^ n
sums-below n t h w g = subst (λ (x : ℕ). x < 2 ^ n) g.sum (below-bits n (sum_of t g.by) (λ i l. all-zero t i (λ j k. bits_below n (get_or t j 0) (h j) i l) g.by))

pub narrow-same : (n : ℕ) {t u : List ℕ} → ((j : ℕ) → get_or t j 0 < 2 ^ n) → SameSums t u → (j : ℕ) → get_or u j 0 < 2 ^ n
narrow-same n {t} {u} h s j = sums-below n t h (get_or u j 0) (s.from (get_or u j 0) (in_row u j))
