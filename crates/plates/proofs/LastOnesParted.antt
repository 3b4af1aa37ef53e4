-- Rows that gain a later row keep their first ones; and column by column from the right the last ones are made to differ.
use lib.ListN.{get_or, length}
use mathlib.Core.List.{List}
use mathlib.Core.Logic.{inl, inr, ◌⊎◌}
use mathlib.Core.Path.{ap, subst, sym, ◌∙◌, ◌≡◌}
use native.Mathlib.Decide.{dec_lt, ℕ_discrete}
use native.Mathlib.Nat.{eq-zero-or-pos}
use native.Mathlib.Omega.{arith}
use Prim.Native.Nat.{◌+◌, ◌-◌, ◌<◌, ◌^◌, zero-le, ℕ, ◌≤◌}
use Rattle.plates.proofs.Gaining.{KeptOrGained, gained-cases, narrow-same, same_refl, same-trans}
use Rattle.plates.specs.Reducing.{Basis, Parted, PartedFrom}
use Rattle.plates.specs.Working.{EndsAt, Gained, GainedRow, LastAt, NoneIn}
use Rattle.words.proofs.Ends.{first-at, last-is, some-pos}
use Rattle.words.proofs.Span.{last-unique, lt-tri, zero_one}
use Rattle.words.proofs.Steps.{keeps-first, last-falls}
use Rattle.words.proofs.Word.{bits_below}
use Rattle.words.specs.Ends.{LastOne, firsts, last, lasts}
use Rattle.words.specs.Span.{First, Last}
use Rattle.words.specs.Word.{bit}

-- ---- a basis stays one

pub last_of : {t : List ℕ} {k : ℕ} → Basis t k → (i : ℕ) → i < k → Last (get_or t i 0) (lasts t i)
last_of {t} s i h = last-is (get_or t i 0) (some-pos (get_or t i 0) (firsts t i) (s.begins i h).one) (s.table.narrow i)

-- each of its rows is a word that is not zero
pub row-ready : {t : List ℕ} {k j : ℕ} → Basis t k → j < k → (j < 64) × ((length t ≡ 64) × ((0 < get_or t j 0) × (get_or t j 0 < 2 ^ 64)))
row-ready {t} {k} {j} s h = (omega (arith, s.table.few), (s.table.size, (some-pos (get_or t j 0) (firsts t j) (s.begins j h).one, s.table.narrow j)))

module _ {t u : List ℕ} {P : ℕ → Type 0} {a b p k : ℕ} (s : Basis t k) (hp : p < k) (hb : b ≤ p) (g : Gained t u P a b p) where
  kept-narrow : (j : ℕ) → get_or u j 0 < 2 ^ 64
  kept-narrow = narrow-same 64 s.table.narrow g.same

  kept-first : (i : ℕ) → i < k → First (get_or u i 0) (firsts t i)
  kept-first i h = go (gained-cases g i)
    where
      go : KeptOrGained P b i (get_or t i 0) (get_or t p 0) (get_or u i 0) → First (get_or u i 0) (firsts t i)
      go (inl e) = subst (λ (x : ℕ). First x (firsts t i)) (sym e) (s.begins i h)
      go (inr q) = subst (λ (x : ℕ). First x (firsts t i)) (sym q.2) (keeps-first (s.begins i h) (s.begins p hp) (s.rising i p (omega (arith, q.1)) hp))

  pub firsts-kept : (i : ℕ) → i < k → firsts u i ≡ firsts t i
  firsts-kept i h = first-at (kept-narrow i) (kept-first i h)

  pub basis-kept : Basis u k
  basis-kept = record {
    table = record {
      size = g.size ∙ s.table.size;
      short = s.table.short;
      few = s.table.few;
      narrow = kept-narrow;
      unused = λ j h. g.others j (inr (omega arith)) ∙ s.table.unused j h;
    };
    begins = λ i h. subst (First (get_or u i 0)) (sym (firsts-kept i h)) (kept-first i h);
    rising = λ i j l h. omega (arith, firsts-kept i (omega arith), firsts-kept j h, s.rising i j l h);
  }

-- ---- one column

-- a row whose last one is c ends at c
ends_there : {t : List ℕ} {k c : ℕ} → Basis t k → (i : ℕ) → i < k → lasts t i ≡ c → EndsAt c (get_or t i 0)
ends_there {t} s i h e = subst (Last (get_or t i 0)) e (last_of s i h)

pub part_none : {t : List ℕ} {k c : ℕ} → Basis t k → Parted t k (c + 1) → NoneIn t (EndsAt c) 0 k → PartedFrom t t k c
part_none {t} {k} {c} s q f = record { same = same_refl; basis = s; parted = λ i j l m e. go i j l m (q i j l m e) (ℕ_discrete (lasts t i) c) }
  where
    go : (i j : ℕ) → i < j → j < k → lasts t i < c + 1 → Dec (lasts t i ≡ c) → lasts t i < c
    go i j l m b (yes e) = absurd (f i zero-le (omega arith) (ends_there s i (omega arith) e))
    go i j l m b (no d) = omega arith

module _ {t u : List ℕ} {k c p : ℕ} (s : Basis t k) (q : Parted t k (c + 1)) (f : LastAt t (EndsAt c) k p) (g : Gained t u (EndsAt c) 0 p p) where
  after : Basis u k
  after = basis-kept s f.within (omega arith) g

  -- a row ends before c, or where it did; and only row p ends at c
  abbrev Row : ℕ → Type 0
  Row i = (lasts u i < c) ⊎ ((lasts u i ≡ lasts t i) × (lasts t i ≡ c → i ≡ p))

  row : (i : ℕ) → i < k → Row i
  row i l = go (lt-tri i p)
    where
      before : i < p → GainedRow (EndsAt c) (get_or t i 0) (get_or t p 0) (get_or u i 0) → Row i
      before b (inl w) = inl (last-falls (get_or t i 0) (get_or t p 0) c (lasts u i) w.0 f.here (subst (λ (x : ℕ). Last x (lasts u i)) w.1 (last_of after i l)))
      before b (inr w) = inr (ap last w.1, λ e. absurd (w.0 (ends_there s i l e)))

      go : (i < p) ⊎ ((i ≡ p) ⊎ (p < i)) → Row i
      go (inl b) = before b (g.rows i zero-le b)
      go (inr (inl e)) = inr (ap last (g.others i (inr (omega arith))), λ z. e)
      go (inr (inr b)) = inr (ap last (g.others i (inr (omega arith))), λ e. absurd (f.after i (omega arith) l (ends_there s i l e)))

  pub part-found : PartedFrom t u k c
  part-found = record { same = g.same; basis = after; parted = λ i j l m e. go i j l m e (row i (omega arith)) (row j m) }
    where
      differ-there : (i j : ℕ) → i < j → j < k → (lasts t i ≡ c → i ≡ p) → (lasts t j ≡ c → j ≡ p) → lasts t i ≡ lasts t j → Dec (lasts t i ≡ c) → lasts t i < c
      differ-there i j l m x y e (yes z) = absurd (omega (arith, x z, y (sym e ∙ z)))
      differ-there i j l m x y e (no d) = omega (arith, q i j l m e)

      go : (i j : ℕ) → i < j → j < k → lasts u i ≡ lasts u j → Row i → Row j → lasts u i < c
      go i j l m e (inl b) y = b
      go i j l m e (inr x) (inl b) = omega arith
      go i j l m e (inr x) (inr y) =
          let z : lasts t i < c = differ-there i j l m x.1 y.1 (sym x.0 ∙ e ∙ y.0) (ℕ_discrete (lasts t i) c) in omega (arith, x.0)

-- ---- all columns

-- a one of a word of length n is before n
pub one_below : (n : ℕ) {w l : ℕ} → w < 2 ^ n → bit w l ≡ 1 → l < n
one_below n {w} {l} h e = go (dec_lt l n)
  where
    go : Dec (l < n) → l < n
    go (yes b) = b
    go (no b) = absurd (zero_one (bits_below n w h l (omega arith)) e)

pub parts-start : {t : List ℕ} {k n : ℕ} → Basis t k → ((j : ℕ) → get_or t j 0 < 2 ^ n) → PartedFrom t t k n
parts-start {t} {k} {n} s h = record { same = same_refl; basis = s; parted = λ i j l m e. one_below n (h i) (last_of s i (omega arith)).one }

pub parted-before : {t u : List ℕ} {k c : ℕ} → 0 < c → PartedFrom t u k c → Parted u k (c - 1 + 1)
parted-before h p i j l m e = omega (arith, p.parted i j l m e)

pub parts-on : {t u v : List ℕ} {k c d : ℕ} → PartedFrom t u k c → PartedFrom u v k d → PartedFrom t v k d
parts-on p q = record { same = same-trans p.same q.same; basis = q.basis; parted = q.parted }

pub parts-end : {t u : List ℕ} {k c : ℕ} → c ≤ 0 → PartedFrom t u k c → PartedFrom t u k 0
parts-end h p = record { same = p.same; basis = p.basis; parted = λ i j l m e. omega (arith, p.parted i j l m e) }

-- ---- what `last_one` tells

pub ends-yes : {w r c : ℕ} → c < 64 → LastOne w r → r ≡ c → EndsAt c w
ends-yes {w} {r} {c} h f e = go (eq-zero-or-pos w)
  where
    go : (w ≡ 0) ⊎ (0 < w) → Last w c
    go (inl z) = absurd (omega (arith, f.none z))
    go (inr z) = subst (Last w) e (f.some z)

pub ends-no : {w r c : ℕ} → LastOne w r → EndsAt c w → r ≡ c
ends-no {w} {r} {c} f l = (last-unique (f.some (some-pos w c l.one)) l)
