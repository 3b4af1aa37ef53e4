-- Row by row: where a row inside begins the rows around it get 0, and their first and last ones stay.
use lib.ListN.{get_or, length, take}
use lib.Seq.{get_or-take, length-take-le}
use mathlib.Core.List.{List}
use mathlib.Core.Logic.{inl, inr, ◌⊎◌}
use mathlib.Core.Path.{ap, ap₂, refl, subst, sym, ◌∙◌, ◌≡◌}
use native.Mathlib.Decide.{ℕ_discrete}
use native.Mathlib.Omega.{arith}
use Prim.Native.Nat.{◌+◌, ◌<◌, ◌^◌, zero-le, ℕ, ◌≤◌}
use Rattle.plates.proofs.Gaining.{KeptOrGained, gained-cases, narrow-same, same_refl, same-trans}
use Rattle.plates.proofs.LastOnesParted.{basis-kept, firsts-kept, last_of}
use Rattle.plates.specs.Reduced.{Reduced}
use Rattle.plates.specs.Reducing.{Basis, BasisFrom, Cleared, ClearedFrom, Covers, Parted, PartedFrom, ReducedFrom}
use Rattle.plates.specs.Working.{Gained, GainedRow, SameSums, Table, Tells}
use Rattle.words.proofs.Ends.{last-at, last-one-is, some-pos}
use Rattle.words.proofs.Span.{lt-tri, zero_one}
use Rattle.words.proofs.Steps.{clears, keeps_below, keeps-last}
use Rattle.words.proofs.Word.{bit-cases, bit-lt, digit}
use Rattle.words.specs.Ends.{LastOne, first, firsts, last, lasts}
use Rattle.words.specs.Span.{First, Last}
use Rattle.words.specs.Word.{bit}

-- ---- what `last_one` and `bit_at` tell

pub covers-yes : {f l w r d : ℕ} → w < 2 ^ 64 → LastOne w r → l < r → d ≡ bit w f → Tells (Covers f l w) d
covers-yes {f} {l} {w} {r} {d} h o b e = record { digit = digit d (omega (arith, bit-lt f w)); yes_is = λ z. there (sym e ∙ z); no_is = λ z c. zero_one (sym e ∙ z) c.one }
  where
    there : bit w f ≡ 1 → Covers f l w
    there z = record { ends = omega (arith, last-one-is (some-pos w f z) h o); one = z }

pub covers-no : {f l w r : ℕ} → w < 2 ^ 64 → LastOne w r → r ≤ l → Tells (Covers f l w) 0
covers-no {f} {l} {w} {r} h o b = record { digit = inl refl; yes_is = λ z. absurd (omega arith); no_is = λ z c. omega (arith, c.ends, last-one-is (some-pos w f c.one) h o) }

pub gained-covers : {t u : List ℕ} {f l g m a b p : ℕ} → f ≡ g → l ≡ m → Gained t u (Covers f l) a b p → Gained t u (Covers g m) a b p
gained-covers {t} {u} {f} {l} {g} {m} {a} {b} {p} e q s = subst (λ (x : ℕ). Gained t u (Covers x m) a b p) e (subst (λ (x : ℕ). Gained t u (Covers f x) a b p) q s)

-- ---- one row

module _ {t u : List ℕ} {k j : ℕ} (s : Basis t k) (h : j < k) (g : Gained t u (Covers (firsts t j) (lasts t j)) 0 j j) where
  after : Basis u k
  after = basis-kept s h (omega arith) g

  same_first : (i : ℕ) → i < k → firsts u i ≡ firsts t i
  same_first = firsts-kept s h (omega arith) g

  same-last : (i : ℕ) → i < k → lasts u i ≡ lasts t i
  same-last i l = go (gained-cases g i)
    where
      go : KeptOrGained (Covers (firsts t j) (lasts t j)) j i (get_or t i 0) (get_or t j 0) (get_or u i 0) → lasts u i ≡ lasts t i
      go (inl e) = ap last e
      go (inr q) = last-at (after.table.narrow i) (subst (λ (x : ℕ). Last x (lasts t i)) (sym q.2) (keeps-last (last_of s i l) (last_of s j h) q.0.ends))

  -- nothing changes before row j begins
  bit-before : (i q : ℕ) → q < firsts t j → bit (get_or u i 0) q ≡ bit (get_or t i 0) q
  bit-before i q l = go (gained-cases g i)
    where
      go : KeptOrGained (Covers (firsts t j) (lasts t j)) j i (get_or t i 0) (get_or t j 0) (get_or u i 0) → bit (get_or u i 0) q ≡ bit (get_or t i 0) q
      go (inl e) = ap (λ (x : ℕ). bit x q) e
      go (inr w) = ap (λ (x : ℕ). bit x q) w.2 ∙ keeps_below (get_or t i 0) (get_or t j 0) (firsts t j) q (s.begins j h) l

  -- and where it begins each row around it has 0
  bit-there : (i : ℕ) → i < j → lasts t j < lasts t i → bit (get_or u i 0) (firsts t j) ≡ 0
  bit-there i l b = go (g.rows i zero-le l) (bit-cases (get_or t i 0) (firsts t j))
    where
      go : GainedRow (Covers (firsts t j) (lasts t j)) (get_or t i 0) (get_or t j 0) (get_or u i 0)
          → (bit (get_or t i 0) (firsts t j) ≡ 0) ⊎ (bit (get_or t i 0) (firsts t j) ≡ 1) → bit (get_or u i 0) (firsts t j) ≡ 0
      go (inl w) z = ap (λ (x : ℕ). bit x (firsts t j)) w.1 ∙ clears (get_or t i 0) (get_or t j 0) (firsts t j) (s.begins j h) w.0.one
      go (inr w) (inl z) = ap (λ (x : ℕ). bit x (firsts t j)) w.1 ∙ z
      go (inr w) (inr z) = absurd (w.0 (record { ends = b; one = z }))

  one-cleared : Cleared t j → Cleared u (j + 1)
  one-cleared d i m l n b =
      let x : lasts t m < lasts t i = omega (arith, same-last i (omega arith), same-last m (omega arith)) in
      ap (bit (get_or u i 0)) (same_first m (omega arith)) ∙ go x (ℕ_discrete m j)
    where
      go : lasts t m < lasts t i → Dec (m ≡ j) → bit (get_or u i 0) (firsts t m) ≡ 0
      go x (yes e) =
          ap (λ (y : ℕ). bit (get_or u i 0) (firsts t y)) e ∙ bit-there i (omega arith) (subst (λ (y : ℕ). lasts t y < lasts t i) e x)
      go x (no e) = bit-before i (firsts t m) (s.rising m j (omega arith) h) ∙ d i m l (omega arith) x

-- ---- row by row

pub clear-start : {t : List ℕ} {k : ℕ} → Basis t k → Parted t k 0 → ClearedFrom t t k 0
clear-start s q = record { same = same_refl; basis = s; parted = q; cleared = λ i m l n. absurd (omega arith) }

pub clear-on : {t u v : List ℕ} {k j : ℕ} → j < k → ClearedFrom t u k j → Gained u v (Covers (firsts u j) (lasts u j)) 0 j j → ClearedFrom t v k (j + 1)
clear-on h p g = record {
  same = same-trans p.same g.same;
  basis = after p.basis h g;
  parted = λ i j l m e. omega (arith, p.parted i j l m (sym (same-last p.basis h g i (omega arith)) ∙ e ∙ same-last p.basis h g j m));
  cleared = one-cleared p.basis h g p.cleared;
}

pub clear-end : {t u : List ℕ} {k j : ℕ} → j ≤ k → k ≤ j → ClearedFrom t u k j → ClearedFrom t u k k
clear-end {t} {u} {k} {j} a b p = let e : j ≡ k = omega arith in subst (ClearedFrom t u k) e p

-- ---- the whole

-- rows whose first ones rise, whose last ones differ and which are clear of those inside are reduced
pub rows-reduced : {t : List ℕ} {k : ℕ} → Basis t k → Parted t k 0 → Cleared t k → Reduced (take k t) (firsts (take k t)) (lasts (take k t))
rows-reduced {t} {k} s q d = record {
  spans = record {
    first = λ j l. subst (λ (x : ℕ). First x (first x)) (sym (row j (omega (arith, size)))) (s.begins j (omega (arith, size)));
    last = λ j l. subst (λ (x : ℕ). Last x (last x)) (sym (row j (omega (arith, size)))) (last_of s j (omega (arith, size)));
    rising = λ i j l m. omega (arith, size, ap first (row i (omega (arith, size))), ap first (row j (omega (arith, size))), s.rising i j l (omega (arith, size)));
    apart = λ i j l m e. differ-there i j (omega (arith, size)) (omega (arith, size)) (ap last (sym (row i (omega (arith, size)))) ∙ e ∙ ap last (row j (omega (arith, size)))) (lt-tri i j);
  };
  reduced = λ i j l m b.
      ap₂ (λ (x y : ℕ). bit x (first y)) (row i (omega (arith, size))) (row j (omega (arith, size)))
      ∙ d i j l (omega (arith, size)) (omega (arith, ap last (row i (omega (arith, size))), ap last (row j (omega (arith, size)))));
}
  where
    size : length (take k t) ≡ k
    size = length-take-le k t (omega (arith, s.table.size, s.table.few))

    row : (j : ℕ) → j < k → get_or (take k t) j 0 ≡ get_or t j 0
    row j l = get_or-take k t j 0 l

    differ-there : (i j : ℕ) → i < k → j < k → lasts t i ≡ lasts t j → (i < j) ⊎ ((i ≡ j) ⊎ (j < i)) → i ≡ j
    differ-there i j l m e (inl b) = absurd (omega (arith, q i j b m e))
    differ-there i j l m e (inr (inl b)) = b
    differ-there i j l m e (inr (inr b)) = absurd (omega (arith, q j i b l (sym e)))

pub all-reduced : {t u v w : List ℕ} {n used k : ℕ} → Table t n used → BasisFrom t u k → PartedFrom u v k 0 → ClearedFrom v w k k → ReducedFrom t w n k
all-reduced {t} {u} {v} {w} {n} {used} {k} s a b d =
    let same : SameSums t w = same-trans a.same (same-trans b.same d.same) in
    record {
      same = same;
      rows = record {
        table = record { size = d.basis.table.size; short = s.short; few = d.basis.table.few; narrow = narrow-same n s.narrow same; unused = d.basis.table.unused };
        reduced = rows-reduced d.basis d.parted d.cleared;
      };
    }
