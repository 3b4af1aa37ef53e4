-- As many rows are active in section t as are live at depth t, and one more where a row begins there.
use lib.Dec.{T}
use lib.ListN.{length}
use mathlib.Core.Bool.{Bool, false, true}
use mathlib.Core.List.{List}
use mathlib.Core.Logic.{◌≢◌}
use mathlib.Core.Path.{ap, ap₂, refl, sym, ◌∙◌, ◌≡◌}
use native.Mathlib.Decide.{dec_lt}
use native.Mathlib.Omega.{arith}
use Prim.Native.Nat.{◌<◌, suc, suc-le-suc, zero, zero-le, ℕ, ◌≤◌}
use Rattle.plates.proofs.Live.{is_live, live_is}
use Rattle.plates.specs.Profile.{live}
use Rattle.trellises.proofs.Active.{active-is, is-active}
use Rattle.trellises.specs.States.{active}
use Rattle.words.proofs.Span.{rising-apart, zero_one}
use Rattle.words.specs.Choice.{count, more}
use Rattle.words.specs.Span.{Spans}

-- two tests that pass together are the same
same_test : (a b : Bool) → (T a → T b) → (T b → T a) → a ≡ b
same_test true true f g = refl
same_test true false f g = absurd (f tt)
same_test false true f g = absurd (g tt)
same_test false false f g = refl

-- two tests that are the same at every place
count_same : (k : ℕ) (P Q : ℕ → Bool) → ((i : ℕ) → i < k → P i ≡ Q i) → count k P ≡ count k Q
count_same zero P Q h = refl
count_same (suc k) P Q h = ap₂ more (h 0 (suc-le-suc zero-le)) (count_same k (λ i. P (suc i)) (λ i. Q (suc i)) (λ i l. h (suc i) (suc-le-suc l)))

-- two tests that are the same but at place j, which passes P and not Q
count-more : (k : ℕ) (P Q : ℕ → Bool) (j : ℕ) → j < k → P j ≡ true → Q j ≡ false → ((i : ℕ) → i < k → i ≢ j → P i ≡ Q i) → count k P ≡ suc (count k Q)
count-more zero P Q j h p q e = absurd (omega arith)
count-more (suc k) P Q zero h p q e =
    ap₂ more p (count_same k (λ i. P (suc i)) (λ i. Q (suc i)) (λ i l. e (suc i) (suc-le-suc l) (omega arith)))
    ∙ sym (ap (λ (b : Bool). suc (more b (count k (λ i. Q (suc i))))) q)
count-more (suc k) P Q (suc j) h p q e =
    ap₂ more (e 0 (suc-le-suc zero-le) (omega arith))
    (count-more k (λ i. P (suc i)) (λ i. Q (suc i)) j (omega arith) p q (λ i l d. e (suc i) (suc-le-suc l) (λ r. d (omega arith))))
    ∙ step (Q 0) (count k (λ i. Q (suc i)))
  where
    step : (b : Bool) (n : ℕ) → more b (suc n) ≡ suc (more b n)
    step true n = refl
    step false n = refl

module _ (rows : List ℕ) (f l : ℕ → ℕ) (s : Spans rows f l) (t : ℕ) where
  -- an active row that does not begin at t is live
  other : (i : ℕ) → (f i ≡ t → ⊥) → active f l t i ≡ live f l t i
  other i d =
      same_test (active f l t i) (live f l t i)
      (λ a. let b = active-is f l t i a in is_live f l t i (go (dec_lt (f i) t) b.0) b.1)
      (λ a. let b = live_is f l t i a in is-active f l t i (omega arith) b.1)
    where
      go : Dec (f i < t) → f i ≤ t → f i < t
      go (yes a) b = a
      go (no a) b = absurd (d (omega arith))

  -- where no row begins
  pub active-same : ((j : ℕ) → j < length rows → f j ≡ t → ⊥) → count (length rows) (active f l t) ≡ count (length rows) (live f l t)
  active-same none = count_same (length rows) (active f l t) (live f l t) (λ i k. other i (none i k))

  -- a row that begins at t is active, and not yet live
  pub active-more : (j : ℕ) → j < length rows → f j ≡ t → count (length rows) (active f l t) ≡ suc (count (length rows) (live f l t))
  active-more j k e =
      count-more (length rows) (active f l t) (live f l t) j k
      (same_test (active f l t j) true (λ a. tt) (λ a. is-active f l t j (omega arith) (ends (dec_lt (l j) (f j)))))
      (same_test (live f l t j) false (λ a. let b = live_is f l t j a in omega arith) (λ a. absurd a))
      (λ i m d. other i (λ q. d (rising-apart (length rows) f s.rising i j m k (q ∙ sym e))))
    where
      ends : Dec (l j < f j) → t ≤ l j
      ends (no a) = omega arith
      ends (yes a) = absurd (zero_one ((s.first j k).zeros (l j) a) (s.last j k).one)
