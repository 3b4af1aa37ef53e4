-- A parity check taken in: generators of the words of a code that pass one more check; and the unit words, which generate every word.
use lib.Bits.{bit_xor, differ}
use lib.ListN.{get_or, length}
use mathlib.Core.List.{List, [], ◌∷◌}
use mathlib.Core.Logic.{inl, inr, ◌↔◌, ◌≢◌, ◌⊎◌}
use mathlib.Core.Path.{ap, ap₂, refl, subst, sym, ◌∙◌, ◌≡◌}
use native.Mathlib.Decide.{dec_lt}
use native.Mathlib.Nat.{pow-suc}
use native.Mathlib.Omega.{arith}
use Prim.Native.Nat.{◌%◌, ◌*◌, ◌/◌, ◌<◌, ◌^◌, suc, suc-le-suc, zero, zero-le, ℕ, ◌≤◌}
use Rattle.words.proofs.Parity.{parity-comm, parity-xor, parity-zero}
use Rattle.words.proofs.Span.{zero_one}
use Rattle.words.proofs.Sums.{all-zero, in_all, in-xor, in-zero}
use Rattle.words.proofs.Word.{below-bits, bit-cases, bit-ext, bit-xor, bit-zero, bits_below, differ-zero, xor_assoc, xor-four, xor_self, xor-swap}
use Rattle.words.specs.Parity.{parity}
use Rattle.words.specs.Sum.{IsSum, sum_of, taken}
use Rattle.words.specs.Word.{bit}

-- ---- a position with a 1 in one row only has in each sum what takes that row

pub single : (rows : List ℕ) (p j : ℕ) → j < length rows → bit (get_or rows j 0) p ≡ 1 → ((i : ℕ) → i < length rows → i ≢ j → bit (get_or rows i 0) p ≡ 0)
    → (u : ℕ) → bit (sum_of rows u) p ≡ bit u j
single [] p j k h z u = absurd (omega arith)
single (r ∷ rs) p zero k h z u =
    bit-xor p (taken (u % 2) r) (sum_of rs (u / 2)) ∙ ap (differ (bit (taken (u % 2) r) p)) (all-zero rs p (λ i m. z (suc i) (suc-le-suc m) (omega arith)) (u / 2))
    ∙ differ-zero (bit (taken (u % 2) r) p) ∙ side (bit-cases u 0)
  where
    side : (u % 2 ≡ 0) ⊎ (u % 2 ≡ 1) → bit (taken (u % 2) r) p ≡ u % 2
    side (inl e) = ap (λ (d : ℕ). bit (taken d r) p) e ∙ bit-zero p ∙ sym e
    side (inr e) = ap (λ (d : ℕ). bit (taken d r) p) e ∙ h ∙ sym e
single (r ∷ rs) p (suc j) k h z u =
    bit-xor p (taken (u % 2) r) (sum_of rs (u / 2))
    ∙ ap₂ differ (side (u % 2)) (single rs p j (omega arith) h (λ i m n. z (suc i) (suc-le-suc m) (λ e. n (omega arith))) (u / 2))
  where
    side : (d : ℕ) → bit (taken d r) p ≡ 0
    side zero = bit-zero p
    side (suc d) = z 0 (suc-le-suc zero-le) (omega arith)

-- ---- the powers of 2

double : (x : ℕ) → x * 2 / 2 ≡ x
double x = omega arith

pub pow-here : (i : ℕ) → bit (2 ^ i) i ≡ 1
pow-here zero = refl
pow-here (suc i) = ap (λ (x : ℕ). bit (x / 2) i) (pow-suc 2 i) ∙ ap (λ (x : ℕ). bit x i) (double (2 ^ i)) ∙ pow-here i

pub pow-other : (i p : ℕ) → i ≢ p → bit (2 ^ i) p ≡ 0
pow-other zero zero h = absurd (h refl)
pow-other zero (suc p) h = bit-zero p
pow-other (suc i) zero h = omega (arith, pow-suc 2 i)
pow-other (suc i) (suc p) h = ap (λ (x : ℕ). bit (x / 2) p) (pow-suc 2 i) ∙ ap (λ (x : ℕ). bit x p) (double (2 ^ i)) ∙ pow-other i p (λ e. h (ap suc e))

-- with a row for each of n positions the code is every word
pub every-word : (n : ℕ) (rows : List ℕ) → length rows ≡ n → ((i : ℕ) → i < n → get_or rows i 0 ≡ 2 ^ i) → (w : ℕ) → IsSum rows w ↔ (w < 2 ^ n)
every-word n rows e h w = (
  (λ g. subst (λ (x : ℕ). x < 2 ^ n) g.sum (below-bits n (sum_of rows g.by) (high g.by))),
  λ b. record { by = w; sum = bit-ext (sum_of rows w) w (λ i. at b i (dec_lt i n)) },
)
  where
    high : (u i : ℕ) → n ≤ i → bit (sum_of rows u) i ≡ 0
    high u i b = all-zero rows i (λ j k. ap (λ (x : ℕ). bit x i) (h j (omega arith)) ∙ pow-other j i (λ q. omega arith)) u

    at : w < 2 ^ n → (i : ℕ) → Dec (i < n) → bit (sum_of rows w) i ≡ bit w i
    at b i (yes k) =
        single rows i i (omega arith) (ap (λ (x : ℕ). bit x i) (h i k) ∙ pow-here i)
        (λ j m d. ap (λ (x : ℕ). bit x i) (h j (omega arith)) ∙ pow-other j i d) w
    at b i (no k) = high w i (omega arith) ∙ sym (bits_below n w b i (omega arith))

-- ---- one check

-- rows that each have an even number of ones in common with c: so have their sums
pub parity-all : (c : ℕ) (rows : List ℕ) → ((j : ℕ) → j < length rows → parity c (get_or rows j 0) ≡ 0) → (w : ℕ) → IsSum rows w → parity c w ≡ 0
parity-all c rows h w g = subst (λ (x : ℕ). parity c x ≡ 0) g.sum (go rows h g.by)
  where
    go : (rows : List ℕ) → ((j : ℕ) → j < length rows → parity c (get_or rows j 0) ≡ 0) → (u : ℕ) → parity c (sum_of rows u) ≡ 0
    go [] h u = parity-zero c
    go (r ∷ rs) h u =
        parity-comm c (bit_xor (taken (u % 2) r) (sum_of rs (u / 2))) ∙ parity-xor (taken (u % 2) r) (sum_of rs (u / 2)) c
        ∙ ap₂ differ (parity-comm (taken (u % 2) r) c ∙ one (u % 2)) (parity-comm (sum_of rs (u / 2)) c ∙ go rs (λ j k. h (suc j) (suc-le-suc k)) (u / 2))
      where
        one : (d : ℕ) → parity c (taken d r) ≡ 0
        one zero = parity-zero c
        one (suc d) = h 0 (suc-le-suc zero-le)

-- `old` has a row q with an odd number of ones in common with c; each row of `new` is a sum of `old`'s with an even number, and each of `old`'s
-- rows is a sum of `new`'s, or is one after q is added: then `new` generates the words of `old`'s code that pass c
module _ (c : ℕ) (old new : List ℕ) (q : ℕ) (gq : IsSum old q) (odd : parity c q ≡ 1)
    (from : (j : ℕ) → j < length new → IsSum old (get_or new j 0)) (even : (j : ℕ) → j < length new → parity c (get_or new j 0) ≡ 0)
    (back : (j : ℕ) → j < length old → IsSum new (get_or old j 0) ⊎ IsSum new (bit_xor q (get_or old j 0))) where
  reach : (rows : List ℕ) → ((j : ℕ) → j < length rows → IsSum new (get_or rows j 0) ⊎ IsSum new (bit_xor q (get_or rows j 0)))
      → (u : ℕ) → IsSum new (sum_of rows u) ⊎ IsSum new (bit_xor q (sum_of rows u))
  reach [] h u = inl (in-zero new)
  reach (r ∷ rs) h u = join (taken (u % 2) r) (sum_of rs (u / 2)) (one (u % 2)) (reach rs (λ j k. h (suc j) (suc-le-suc k)) (u / 2))
    where
      one : (d : ℕ) → IsSum new (taken d r) ⊎ IsSum new (bit_xor q (taken d r))
      one zero = inl (in-zero new)
      one (suc d) = h 0 (suc-le-suc zero-le)

      join : (a b : ℕ) → IsSum new a ⊎ IsSum new (bit_xor q a) → IsSum new b ⊎ IsSum new (bit_xor q b) → IsSum new (bit_xor a b) ⊎ IsSum new (bit_xor q (bit_xor a b))
      join a b (inl x) (inl y) = inl (in-xor x y)
      join a b (inl x) (inr y) = inr (subst (IsSum new) (xor-swap a q b) (in-xor x y))
      join a b (inr x) (inl y) = inr (subst (IsSum new) (xor_assoc q a b) (in-xor x y))
      join a b (inr x) (inr y) = inl (subst (IsSum new) (xor-four q a q b ∙ ap (λ (z : ℕ). bit_xor z (bit_xor a b)) (xor_self q)) (in-xor x y))

  pub one-check : (w : ℕ) → IsSum new w ↔ (IsSum old w × (parity c w ≡ 0))
  one-check w = ((λ g. (in_all new old from w g, parity-all c new even w g)), λ p. pass p.1 (subst (λ (x : ℕ). IsSum new x ⊎ IsSum new (bit_xor q x)) p.0.sum (reach old back p.0.by)))
    where
      pass : parity c w ≡ 0 → IsSum new w ⊎ IsSum new (bit_xor q w) → IsSum new w
      pass z (inl g) = g
      pass z (inr g) =
          absurd (zero_one (parity-all c new even (bit_xor q w) g)
          (parity-comm c (bit_xor q w) ∙ parity-xor q w c ∙ ap₂ differ (parity-comm q c ∙ odd) (parity-comm w c ∙ z)))
