-- How many of the first numbers pass a test: counted downwards, and as a list of values without repetition.
use lib.ListN.{get_or}
use mathlib.Core.Bool.{Bool, false, false≢true, true}
use mathlib.Core.List.{[], ◌∷◌}
use mathlib.Core.Path.{ap, refl, sym, ◌∙◌, ◌≡◌}
use native.Mathlib.Omega.{arith}
use Prim.Native.Nat.{◌+◌, ◌-◌, ◌<◌, suc, zero, ℕ, ◌≤◌}
use Rattle.words.specs.Choice.{count, more}
use Rattle.judging.specs.Surplus.{Number}

count_same : (k : ℕ) (P Q : ℕ → Bool) → ((i : ℕ) → i < k → P i ≡ Q i) → count k P ≡ count k Q
count_same zero P Q h = refl
count_same (suc k) P Q h =
    ap (λ (b : Bool). more b (count k (λ i. P (suc i)))) (h 0 (omega arith))
    ∙ ap (more (Q 0)) (count_same k (λ i. P (suc i)) (λ i. Q (suc i)) (λ i l. h (suc i) (omega arith)))

-- ---- a loop from the last to the first

-- c of the places from j on pass
pub record Tallied (m : ℕ) (P : ℕ → Bool) (j c : ℕ) : Type 0 where
  pub within : j ≤ m
  pub is : c ≡ count (m - j) (λ i. P (j + i))

pub tallied-on : (m : ℕ) (P : ℕ → Bool) (j c : ℕ) → 0 < j → Tallied m P j c → (c' : ℕ) → c' ≡ more (P (j - 1)) c → Tallied m P (j - 1) c'
tallied-on m P j c l t c' e = record { within = omega (arith, t.within); is = e ∙ ap (more (P (j - 1))) t.is ∙ step }
  where
    k : m - (j - 1) ≡ suc (m - j)
    k = omega (arith, l, t.within)

    step : more (P (j - 1)) (count (m - j) (λ i. P (j + i))) ≡ count (m - (j - 1)) (λ i. P (j - 1 + i))
    step =
        let a : j - 1 ≡ j - 1 + 0 = omega arith in
        ap (λ (x : ℕ). more (P x) (count (m - j) (λ i. P (j + i)))) a
        ∙ ap (more (P (j - 1 + 0))) (count_same (m - j) (λ i. P (j + i)) (λ i. P (j - 1 + suc i)) (λ i h. ap P (shift i)))
        ∙ sym (ap (λ (x : ℕ). count x (λ i. P (j - 1 + i))) k)
      where
        shift : (i : ℕ) → j + i ≡ j - 1 + suc i
        shift i = omega (arith, l)

pub tallied-end : (m : ℕ) (P : ℕ → Bool) (j c : ℕ) → Tallied m P j c → j ≡ 0 → c ≡ count m P
tallied-end m P j c t e =
    t.is ∙ ap (λ (x : ℕ). count x (λ i. P (j + i))) k ∙ count_same m (λ i. P (j + i)) P (λ i l. ap P (shift i))
  where
    k : m - j ≡ m
    k = omega (arith, e)

    shift : (i : ℕ) → j + i ≡ i
    shift i = omega (arith, e)

-- ---- some pass

pub count-some : (m : ℕ) (P : ℕ → Bool) → 0 < count m P → (k : ℕ) × (k < m) × (P k ≡ true)
count-some zero P l = absurd (omega arith)
count-some (suc m) P l = go (P 0) refl (λ h. count-some m (λ i. P (suc i)) h) l
  where
    go : (b : Bool) → P 0 ≡ b → (0 < count m (λ i. P (suc i)) → (k : ℕ) × (k < m) × (P (suc k) ≡ true)) → 0 < more b (count m (λ i. P (suc i)))
        → (k : ℕ) × (k < suc m) × (P k ≡ true)
    go true e ih h = (0, omega arith, e)
    go false e ih h = let x = ih h in (suc x.0, omega (arith, x.1), x.2)

pub some-count : (m : ℕ) (P : ℕ → Bool) (k : ℕ) → k < m → P k ≡ true → 0 < count m P
some-count zero P k l e = absurd (omega arith)
some-count (suc m) P zero l e = rw e (omega arith)
some-count (suc m) P (suc k) l e = go (P 0) (some-count m (λ i. P (suc i)) k (omega arith) e)
  where
    go : (b : Bool) → 0 < count m (λ i. P (suc i)) → 0 < more b (count m (λ i. P (suc i)))
    go true h = omega arith
    go false h = h

-- ---- the values of those that pass, each once

-- x is the value of a place that passes
abbrev pub Value : ℕ → (ℕ → Bool) → (ℕ → ℕ) → ℕ → Type 0
Value m P F x = (i : ℕ) × (i < m) × (P i ≡ true) × (F i ≡ x)

pub number-count : (m : ℕ) (P : ℕ → Bool) (F : ℕ → ℕ) → ((i j : ℕ) → i < j → j < m → P i ≡ true → P j ≡ true → F i ≡ F j → ⊥) → Number (Value m P F) (count m P)
number-count zero P F d = record {
  list = [];
  size = refl;
  each = λ j l. absurd (omega arith);
  all = λ x v. absurd (omega (arith, v.1));
  different = λ i j k l e. omega arith;
}
number-count (suc m) P F d =
    go (P 0) refl (number-count m (λ i. P (suc i)) (λ i. F (suc i)) (λ i j l k p q e. d (suc i) (suc j) (omega arith) (omega arith) p q e))
  where
    up : (x : ℕ) → Value m (λ i. P (suc i)) (λ i. F (suc i)) x → Value (suc m) P F x
    up x v = (suc v.0, omega (arith, v.1), v.2, v.3)

    down : (x : ℕ) → P 0 ≡ false → Value (suc m) P F x → Value m (λ i. P (suc i)) (λ i. F (suc i)) x
    down x e (zero, l, p, q) = absurd (false≢true (sym e ∙ p))
    down x e (suc i, l, p, q) = (i, omega arith, p, q)

    go : (b : Bool) → P 0 ≡ b → Number (Value m (λ i. P (suc i)) (λ i. F (suc i))) (count m (λ i. P (suc i))) → Number (Value (suc m) P F) (more b (count m (λ i. P (suc i))))
    go false e r = record {
      list = r.list;
      size = r.size;
      each = λ j l. up _ (r.each j l);
      all = λ x v. r.all x (down x e v);
      different = r.different;
    }
    go true e r = record {
      list = F 0 ∷ r.list;
      size = ap suc r.size;
      each = each;
      all = λ x v. all x v;
      different = different;
    }
      where
        c : ℕ
        c = count m (λ i. P (suc i))

        each : (j : ℕ) → j < suc (count m (λ i. P (suc i))) → Value (suc m) P F (get_or (F 0 ∷ r.list) j 0)
        each zero l = (0, omega arith, e, refl)
        each (suc j) l = up _ (r.each j (omega arith))

        all : (x : ℕ) → Value (suc m) P F x → (j : ℕ) × (j < suc (count m (λ i. P (suc i)))) × (get_or (F 0 ∷ r.list) j 0 ≡ x)
        all x (zero, l, p, q) = (0, omega arith, q)
        all x (suc i, l, p, q) = let y = r.all x (i, omega arith, p, q) in (suc y.0, omega (arith, y.1), y.2)

        different : (i j : ℕ) → i < j → j < suc (count m (λ i. P (suc i))) → get_or (F 0 ∷ r.list) i 0 ≡ get_or (F 0 ∷ r.list) j 0 → ⊥
        different zero zero k l q = omega arith
        different zero (suc j) k l q = let y = r.each j (omega arith) in d 0 (suc y.0) (omega arith) (omega (arith, y.1)) e y.2 (q ∙ sym y.3)
        different (suc i) zero k l q = omega arith
        different (suc i) (suc j) k l q = r.different i j (omega arith) (omega arith) q

-- the same numbers, named otherwise
pub number_same : {P Q : ℕ → Type 0} {c : ℕ} → ((x : ℕ) → P x → Q x) → ((x : ℕ) → Q x → P x) → Number P c → Number Q c
number_same to from r = record {
  list = r.list;
  size = r.size;
  each = λ j l. to _ (r.each j l);
  all = λ x v. r.all x (from x v);
  different = r.different;
}
