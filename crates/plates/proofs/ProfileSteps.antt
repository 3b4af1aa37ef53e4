-- The profile from depth to depth: from 0 at the start to 0 at the end, it gains 1 where a row begins and loses 1 where one ends.
use borrow.Author.Tests.{eq-eqb, le-leb, le-ltb, lt-leb, lt-ltb, ne_eqb}
use lib.Dec.{T, eqb, eqb_refl, eqb→eq, leb, ltb, ltb→lt}
use lib.ListN.{get_or, length}
use mathlib.Core.Bool.{◌&&◌, Bool, false, true}
use mathlib.Core.List.{List}
use mathlib.Core.Logic.{inl, inr, ◌⊎◌}
use mathlib.Core.Path.{ap, refl, subst, sym, ◌∙◌, ◌≡◌}
use native.Mathlib.Decide.{dec_lt}
use native.Mathlib.Omega.{arith}
use Prim.Native.Nat.{◌+◌, ◌<◌, ◌^◌, suc, suc-le-suc, zero, zero-le, ℕ, ◌≤◌}
use Rattle.plates.proofs.Live.{live_is}
use Rattle.plates.proofs.SoundIsPrepared.{used-row, used-rows}
use Rattle.plates.specs.Counts.{before, here}
use Rattle.plates.specs.declared.Plate.{Plate}
use Rattle.plates.specs.Prepare.{rows_of}
use Rattle.plates.specs.Profile.{live, live_at}
use Rattle.plates.specs.Sound.{Sound}
use Rattle.words.proofs.Choice.{count_none}
use Rattle.words.proofs.Ends.{one-before}
use Rattle.words.proofs.Span.{lt-tri, zero_one}
use Rattle.words.specs.Choice.{count, more}
use Rattle.words.specs.Ends.{firsts, lasts}
use Rattle.words.specs.Span.{Apart, Spans}

-- ---- counting

more-add : (b : Bool) (n : ℕ) → more b n ≡ more b 0 + n
more-add true n = omega arith
more-add false n = omega arith

-- two tests of which just one passes at each place where a third does
pub count_add : (k : ℕ) (P Q R : ℕ → Bool) → ((j : ℕ) → j < k → more (P j) 0 + more (Q j) 0 ≡ more (R j) 0) → count k P + count k Q ≡ count k R
count_add zero P Q R h = refl
count_add (suc k) P Q R h =
    let ih = count_add k (λ j. P (suc j)) (λ j. Q (suc j)) (λ j. R (suc j)) (λ j l. h (suc j) (suc-le-suc l)) in
    omega (arith, h 0 (suc-le-suc zero-le), more-add (P 0) (count k (λ j. P (suc j))), more-add (Q 0) (count k (λ j. Q (suc j))), more-add (R 0) (count k (λ j. R (suc j))))

-- one place passes
pub count-one : (k : ℕ) (P : ℕ → Bool) (j : ℕ) → j < k → T (P j) → ((i : ℕ) → i < k → T (P i) → i ≡ j) → count k P ≡ 1
count-one zero P j l t h = absurd (omega arith)
count-one (suc k) P zero l t h = go (P 0) t (count_none k (λ i. P (suc i)) (λ i m q. omega (arith, h (suc i) (suc-le-suc m) q)))
  where
    go : (b : Bool) → T b → count k (λ i. P (suc i)) ≡ 0 → more b (count k (λ i. P (suc i))) ≡ 1
    go true t e = ap suc e
    go false t e = absurd t
count-one (suc k) P (suc j) l t h =
    go (P 0) (h 0 (suc-le-suc zero-le)) (count-one k (λ i. P (suc i)) j (omega arith) t (λ i m q. omega (arith, h (suc i) (suc-le-suc m) q)))
  where
    go : (b : Bool) → (T b → 0 ≡ suc j) → count k (λ i. P (suc i)) ≡ 1 → more b (count k (λ i. P (suc i))) ≡ 1
    go true n e = absurd (omega (arith, n tt))
    go false n e = e

-- none is at t, or one
pub here-none : (k : ℕ) (f : ℕ → ℕ) (t : ℕ) → ((j : ℕ) → j < k → f j ≡ t → ⊥) → here k f t ≡ 0
here-none k f t h = count_none k (λ j. eqb (f j) t) (λ j l q. h j l (eqb→eq (f j) t q))

pub here-one : (k : ℕ) (f : ℕ → ℕ) (t j : ℕ) → Apart k f → j < k → f j ≡ t → here k f t ≡ 1
here-one k f t j a l e =
    count-one k (λ i. eqb (f i) t) j l (subst (λ (x : ℕ). T (eqb (f j) x)) e (eqb_refl (f j))) (λ i m q. a i j m l (eqb→eq (f i) t q ∙ sym e))

-- before t + 1 is before t, or at t
pub before-suc : (k : ℕ) (f : ℕ → ℕ) (t : ℕ) → before k f t + here k f t ≡ before k f (suc t)
before-suc k f t = count_add k (λ j. ltb (f j) t) (λ j. eqb (f j) t) (λ j. ltb (f j) (suc t)) (λ j l. one (f j) (lt-tri (f j) t))
  where
    one : (x : ℕ) → (x < t) ⊎ ((x ≡ t) ⊎ (t < x)) → more (ltb x t) 0 + more (eqb x t) 0 ≡ more (ltb x (suc t)) 0
    one x (inl h) = simp (lt-ltb x t h, ne_eqb x t (λ e. omega arith), lt-ltb x (suc t) (omega arith))
    one x (inr (inl e)) = simp (le-ltb x t (omega arith), eq-eqb x t e, lt-ltb x (suc t) (omega arith))
    one x (inr (inr h)) = simp (le-ltb x t (omega arith), ne_eqb x t (λ e. omega arith), le-ltb x (suc t) (omega arith))

-- ---- the profile of rows, each of which begins where it ends, or before

pub span-le : (rows : List ℕ) (f l : ℕ → ℕ) → Spans rows f l → (j : ℕ) → j < length rows → f j ≤ l j
span-le rows f l s j h = go (dec_lt (l j) (f j))
  where
    go : Dec (l j < f j) → f j ≤ l j
    go (no b) = omega arith
    go (yes b) = absurd (zero_one ((s.first j h).zeros (l j) b) (s.last j h).one)

module _ (k : ℕ) (f l : ℕ → ℕ) (le : (j : ℕ) → j < k → f j ≤ l j) where
  -- s(t) = heads before t less last ones before t
  pub live-before : (t : ℕ) → count k (live f l t) + before k l t ≡ before k f t
  live-before t = count_add k (live f l t) (λ j. ltb (l j) t) (λ j. ltb (f j) t) (λ j h. one (f j) (l j) (le j h) (dec_lt (f j) t) (dec_lt (l j) t))
    where
      one : (a b : ℕ) → a ≤ b → Dec (a < t) → Dec (b < t) → more (ltb a t && leb t b) 0 + more (ltb b t) 0 ≡ more (ltb a t) 0
      one a b h (yes x) (yes y) = simp (lt-ltb a t x, lt-leb t b y, lt-ltb b t y)
      one a b h (yes x) (no y) = simp (lt-ltb a t x, le-leb t b (omega arith), le-ltb b t (omega arith))
      one a b h (no x) y = simp (le-ltb a t (omega arith), le-ltb b t (omega arith))

  -- s(t + 1) = s(t), and 1 more where a row begins at t, and 1 less where one ends there
  pub live-suc : (t : ℕ) → count k (live f l (suc t)) + here k l t ≡ count k (live f l t) + here k f t
  live-suc t = omega (arith, live-before t, live-before (suc t), before-suc k f t, before-suc k l t)

  -- s(0) = 0
  pub live-start : count k (live f l 0) ≡ 0
  live-start = omega (arith, live-before 0, count_none k (λ j. ltb (f j) 0) (λ j h q. omega (arith, ltb→lt (f j) 0 q)))

  -- no row is live where all have ended
  pub live_end : (t : ℕ) → ((j : ℕ) → j < k → l j < t) → count k (live f l t) ≡ 0
  live_end t h = count_none k (live f l t) (λ j m q. omega (arith, h j m, (live_is f l t j q).1))

-- ---- the same of a plate for which all that can be tested holds

module _ (plate : Plate) (s : Sound plate) where
  le : (j : ℕ) → j < length (rows_of plate) → firsts (rows_of plate) j ≤ lasts (rows_of plate) j
  le = span-le (rows_of plate) (firsts (rows_of plate)) (lasts (rows_of plate)) s.reduced.spans

  -- s(t) is the number of heads before t less the number of last ones before t
  pub profile-before : (t : ℕ)
      → live_at (rows_of plate) t + before (length (rows_of plate)) (lasts (rows_of plate)) t ≡ before (length (rows_of plate)) (firsts (rows_of plate)) t
  profile-before = live-before (length (rows_of plate)) (firsts (rows_of plate)) (lasts (rows_of plate)) le

  -- from depth to depth it gains 1 where a row begins, and loses 1 where one ends
  pub profile-suc : (t : ℕ) → live_at (rows_of plate) (suc t) + here (length (rows_of plate)) (lasts (rows_of plate)) t
      ≡ live_at (rows_of plate) t + here (length (rows_of plate)) (firsts (rows_of plate)) t
  profile-suc = live-suc (length (rows_of plate)) (firsts (rows_of plate)) (lasts (rows_of plate)) le

  -- it begins and ends with 0
  pub profile-start : live_at (rows_of plate) 0 ≡ 0
  profile-start = live-start (length (rows_of plate)) (firsts (rows_of plate)) (lasts (rows_of plate)) le

  pub profile-end : live_at (rows_of plate) plate.n ≡ 0
  profile-end = live_end (length (rows_of plate)) (firsts (rows_of plate)) (lasts (rows_of plate)) le plate.n ends
    where
      below : (j : ℕ) → j < length (rows_of plate) → get_or (rows_of plate) j 0 < 2 ^ plate.n
      below j h =
          let l : j < plate.k = omega (arith, used-rows plate s.few s.table) in
          subst (λ (x : ℕ). x < 2 ^ plate.n) (sym (used-row plate j l)) (s.below j l)

      ends : (j : ℕ) → j < length (rows_of plate) → lasts (rows_of plate) j < plate.n
      ends j h = one-before plate.n (get_or (rows_of plate) j 0) (lasts (rows_of plate) j) (below j h) (s.reduced.spans.last j h).one
