-- The profile in one pass: from depth t to t + 1 one row more is live where one begins at t, and one less where one ends there.
use borrow.Author.Tests.{eq-eqb, le-leb, le-ltb, lt-leb, lt-ltb, ne_eqb}
use lib.Bits.{bit_xor, differ}
use lib.Dec.{T, eqb, eqb→eq, leb, ltb}
use mathlib.Core.Bool.{◌&&◌, Bool, false, true}
use mathlib.Core.Logic.{inl, inr, ◌⊎◌}
use mathlib.Core.Path.{ap, ap₂, refl, subst, sym, ◌∙◌, ◌≡◌}
use native.Mathlib.Decide.{ℕ_discrete}
use native.Mathlib.Numerals.{add-one}
use native.Mathlib.Omega.{arith}
use Prim.Native.Nat.{◌+◌, ◌<◌, ◌^◌, suc, suc-le-suc, zero, zero-le, ℕ, ◌≤◌}
use Rattle.plates.proofs.OneCheck.{pow-here, pow-other}
use Rattle.plates.specs.Profile.{live}
use Rattle.plates.specs.Profiling.{Marks}
use Rattle.words.proofs.Choice.{count_none}
use Rattle.words.proofs.Span.{lt-tri}
use Rattle.words.proofs.Word.{bit-xor, bit-zero, differ-zero}
use Rattle.words.specs.Choice.{count, more}
use Rattle.words.specs.Word.{bit}

-- ---- counting

swap-more : (a b : Bool) (n : ℕ) → more a (more b n) ≡ more b (more a n)
swap-more true true n = refl
swap-more true false n = refl
swap-more false true n = refl
swap-more false false n = refl

-- the last place counted first
pub count-last : (k : ℕ) (P : ℕ → Bool) → count (suc k) P ≡ more (P k) (count k P)
count-last zero P = refl
count-last (suc k) P = ap (more (P 0)) (count-last k (λ j. P (suc j))) ∙ swap-more (P 0) (P (suc k)) (count k (λ j. P (suc j)))

pub count_same : (k : ℕ) (P Q : ℕ → Bool) → ((j : ℕ) → j < k → P j ≡ Q j) → count k P ≡ count k Q
count_same zero P Q h = refl
count_same (suc k) P Q h = ap₂ more (h 0 (suc-le-suc zero-le)) (count_same k (λ j. P (suc j)) (λ j. Q (suc j)) (λ j l. h (suc j) (suc-le-suc l)))

more-add : (b : Bool) (n : ℕ) → more b n ≡ more b 0 + n
more-add true n = omega arith
more-add false n = omega arith

pub count-le : (k : ℕ) (P : ℕ → Bool) → count k P ≤ k
count-le zero P = zero-le
count-le (suc k) P = go (P 0) (count-le k (λ j. P (suc j)))
  where
    go : (b : Bool) → count k (λ j. P (suc j)) ≤ k → more b (count k (λ j. P (suc j))) ≤ suc k
    go true h = suc-le-suc h
    go false h = omega arith

both : (a b : Bool) (m n : ℕ) → more a m + more b n ≡ more a 0 + more b 0 + (m + n)
both a b m n = omega (arith, more-add a m, more-add b n)

-- two tests pass as often as two others, at each place and so in all
four : (k : ℕ) (P Q R S : ℕ → Bool) → ((j : ℕ) → j < k → more (P j) 0 + more (Q j) 0 ≡ more (R j) 0 + more (S j) 0) → count k P + count k Q ≡ count k R + count k S
four zero P Q R S h = refl
four (suc k) P Q R S h =
    let ih = four k (λ j. P (suc j)) (λ j. Q (suc j)) (λ j. R (suc j)) (λ j. S (suc j)) (λ j l. h (suc j) (suc-le-suc l)) in
    omega (arith, h 0 (suc-le-suc zero-le), both (P 0) (Q 0) (count k (λ j. P (suc j))) (count k (λ j. Q (suc j))), both (R 0) (S 0) (count k (λ j. R (suc j))) (count k (λ j. S (suc j))))

-- ---- from depth to depth

-- a row that begins at f and ends at l: live at t + 1 and ending at t, or live at t and beginning at t
one-step : (f l t : ℕ) → f ≤ l → more (ltb f (suc t) && leb (suc t) l) 0 + more (eqb l t) 0 ≡ more (ltb f t && leb t l) 0 + more (eqb f t) 0
one-step f l t h = go (lt-tri f t) (lt-tri l t)
  where
    go : (f < t) ⊎ ((f ≡ t) ⊎ (t < f)) → (l < t) ⊎ ((l ≡ t) ⊎ (t < l)) → more (ltb f (suc t) && leb (suc t) l) 0 + more (eqb l t) 0 ≡ more (ltb f t && leb t l) 0 + more (eqb f t) 0
    go (inl x) (inl y) = simp (lt-ltb f (suc t) (omega arith), lt-leb (suc t) l (omega arith), ne_eqb l t (λ e. omega arith), lt-ltb f t x, lt-leb t l y, ne_eqb f t (λ e. omega arith))
    go (inl x) (inr (inl y)) = simp (lt-ltb f (suc t) (omega arith), lt-leb (suc t) l (omega arith), eq-eqb l t y, lt-ltb f t x, le-leb t l (omega arith), ne_eqb f t (λ e. omega arith))
    go (inl x) (inr (inr y)) = simp (lt-ltb f (suc t) (omega arith), le-leb (suc t) l (omega arith), ne_eqb l t (λ e. omega arith), lt-ltb f t x, le-leb t l (omega arith), ne_eqb f t (λ e. omega arith))
    go (inr (inl x)) (inl y) = absurd (omega arith)
    go (inr (inl x)) (inr (inl y)) = simp (lt-ltb f (suc t) (omega arith), lt-leb (suc t) l (omega arith), eq-eqb l t y, le-ltb f t (omega arith), eq-eqb f t x)
    go (inr (inl x)) (inr (inr y)) = simp (lt-ltb f (suc t) (omega arith), le-leb (suc t) l (omega arith), ne_eqb l t (λ e. omega arith), le-ltb f t (omega arith), eq-eqb f t x)
    go (inr (inr x)) (inl y) = absurd (omega arith)
    go (inr (inr x)) (inr (inl y)) = absurd (omega arith)
    go (inr (inr x)) (inr (inr y)) = simp (le-ltb f (suc t) (omega arith), ne_eqb l t (λ e. omega arith), le-ltb f t (omega arith), ne_eqb f t (λ e. omega arith))

-- s(t + 1) + rows that end at t = s(t) + rows that begin at t
pub live-step : (k : ℕ) (f l : ℕ → ℕ) → ((j : ℕ) → j < k → f j ≤ l j) → (t : ℕ)
    → count k (live f l (suc t)) + count k (λ j. eqb (l j) t) ≡ count k (live f l t) + count k (λ j. eqb (f j) t)
live-step k f l h t = four k (live f l (suc t)) (λ j. eqb (l j) t) (live f l t) (λ j. eqb (f j) t) (λ j b. one-step (f j) (l j) t (h j b))

-- nothing is live before the first position
pub live-none : (k : ℕ) (f l : ℕ → ℕ) → count k (live f l 0) ≡ 0
live-none k f l = count_none k (live f l 0) (λ j h. no_row j)
  where
    no_row : (j : ℕ) → T (live f l 0 j) → ⊥
    no_row j x = subst (λ (b : Bool). T (b && leb 0 (l j))) (le-ltb (f j) 0 zero-le) x

-- ---- the words that mark where rows begin and end

pub marks-none : {f : ℕ → ℕ} → Marks f 0 0
marks-none = record { at = bit-zero }

pub marks-on : {f : ℕ → ℕ} {j m r w : ℕ} → ((i : ℕ) → i < j → f i ≡ f j → ⊥) → r ≡ f j → w ≡ 2 ^ r → Marks f j m → Marks f (j + 1) (bit_xor m w)
marks-on {f} {j} {m} {r} {w} fresh e q s = record {
  at = λ p.
      bit-xor p m w ∙ ap (λ (x : ℕ). differ (bit m p) (bit x p)) (q ∙ ap (λ (x : ℕ). 2 ^ x) e) ∙ here p (ℕ_discrete (f j) p)
      ∙ sym (ap (λ (x : ℕ). count x (λ i. eqb (f i) p)) (add-one j) ∙ count-last j (λ i. eqb (f i) p));
}
  where
    clean : count j (λ i. eqb (f i) (f j)) ≡ 0
    clean = count_none j (λ i. eqb (f i) (f j)) (λ i l x. fresh i l (eqb→eq (f i) (f j) x))

    here : (p : ℕ) → Dec (f j ≡ p) → differ (bit m p) (bit (2 ^ f j) p) ≡ more (eqb (f j) p) (count j (λ i. eqb (f i) p))
    here p (yes z) = subst (λ (x : ℕ). differ (bit m x) (bit (2 ^ f j) x) ≡ more (eqb (f j) x) (count j (λ i. eqb (f i) x))) z
        (ap₂ differ (s.at (f j) ∙ clean) (pow-here (f j)) ∙ sym (ap₂ more (eq-eqb (f j) (f j) refl) clean))
    here p (no z) =
        ap (differ (bit m p)) (pow-other (f j) p z) ∙ differ-zero (bit m p) ∙ s.at p
        ∙ sym (ap (λ (b : Bool). more b (count j (λ i. eqb (f i) p))) (ne_eqb (f j) p z))

pub marks-end : {f : ℕ → ℕ} {i k m : ℕ} → i ≤ k → k ≤ i → Marks f i m → Marks f k m
marks-end {f} {i} {k} {m} h b s = let e : i ≡ k = omega arith in subst (λ (x : ℕ). Marks f x m) e s
