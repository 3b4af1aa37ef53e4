-- Column by column from the left: the first ones of the rows rise, and what is left over is zero.
use lib.Bits.{differ}
use lib.ListN.{get_or, length, length-set, set}
use lib.Pow.{pow_mono}
use mathlib.Core.List.{List}
use mathlib.Core.Logic.{inl, inr, ◌≢◌}
use mathlib.Core.Path.{ap, ap₂, subst, sym, ◌∙◌, ◌≡◌}
use native.Mathlib.Decide.{dec_lt, ℕ_discrete}
use native.Mathlib.Nat.{lt_of_lt_of_le}
use native.Mathlib.Omega.{arith}
use Prim.Native.Nat.{◌+◌, ◌<◌, ◌^◌, zero-le, ℕ, ◌≤◌}
use Rattle.plates.proofs.Gaining.{narrow-same, not-odd, same_of, same_refl, same-trans}
use Rattle.plates.specs.Reducing.{BasisFrom, Echelon, EchelonFrom}
use Rattle.plates.specs.Working.{FirstAt, Gained, GainedRow, NoneIn, Odd, SameSums, Table}
use Rattle.words.proofs.Ends.{first-at}
use Rattle.words.proofs.Parity.{parity-power}
use Rattle.words.proofs.Rows.{same-swap, swap-i, swap-other, swap-rows}
use Rattle.words.proofs.Word.{bit-xor, bit-zero, bits_below, bits-zero}
use Rattle.words.specs.Ends.{first, firsts}
use Rattle.words.specs.Parity.{parity}
use Rattle.words.specs.Span.{First}
use Rattle.words.specs.Sum.{swap_rows}
use Rattle.words.specs.Word.{bit}

-- the parity with a unit word is the bit there
one_there : {m w : ℕ} (c : ℕ) → m ≡ 2 ^ c → Odd m w → bit w c ≡ 1
one_there {m} {w} c e o = sym (parity-power c w) ∙ ap (λ (x : ℕ). parity x w) (sym e) ∙ o.odd

none-there : {m w : ℕ} (c : ℕ) → m ≡ 2 ^ c → (Odd m w → ⊥) → bit w c ≡ 0
none-there {m} {w} c e n = sym (parity-power c w) ∙ ap (λ (x : ℕ). parity x w) (sym e) ∙ not-odd n

-- zero before c and at c is zero before c + 1
one_more : (w c : ℕ) → ((q : ℕ) → q < c → bit w q ≡ 0) → bit w c ≡ 0 → (q : ℕ) → q < c + 1 → bit w q ≡ 0
one_more w c h e q l = go (ℕ_discrete q c)
  where
    go : Dec (q ≡ c) → bit w q ≡ 0
    go (yes r) = ap (bit w) r ∙ e
    go (no d) = h q (omega arith)

-- no row has a one in the column
pub column-none : {t : List ℕ} {used k c m : ℕ} → m ≡ 2 ^ c → Echelon t used k c → NoneIn t (Odd m) k used → EchelonFrom t t used k (c + 1)
column-none {t} {used} {k} {c} {m} e s f = record {
  same = same_refl;
  shape = record {
    table = s.table;
    few = s.few;
    begins = s.begins;
    before = λ i l. omega (arith, s.before i l);
    rising = s.rising;
    rest = λ i q l. one_more (get_or t i 0) c (λ q. s.rest i q l) (at i l (dec_lt i used)) q;
  };
}
  where
    at : (i : ℕ) → k ≤ i → Dec (i < used) → bit (get_or t i 0) c ≡ 0
    at i l (yes g) = none-there c e (f i l g)
    at i l (no g) = ap (λ (x : ℕ). bit x c) (s.table.unused i (omega arith)) ∙ bit-zero c

-- row p has one: it becomes row k, and the later rows lose theirs
module _ {t v : List ℕ} {used k c m p : ℕ} (e : m ≡ 2 ^ c) (s : Echelon t used k c) (f : FirstAt t (Odd m) k used p)
    (ev : v ≡ swap_rows t k p) where
  in-k : k < length t
  in-k = omega (arith, f.past, f.within, s.table.size, s.table.few)

  in_p : p < length t
  in_p = omega (arith, f.within, s.table.size, s.table.few)

  swapped-size : length v ≡ 64
  swapped-size = ap length ev ∙ length-set (set t k (get_or t p 0)) p (get_or t k 0) ∙ length-set t k (get_or t p 0) ∙ s.table.size

  pub pivot-ready : (k < used) × ((used ≤ 64) × (length v ≡ 64))
  pivot-ready = (omega (arith, f.past, f.within), (s.table.few, swapped-size))

  swapped-k : get_or v k 0 ≡ get_or t p 0
  swapped-k = ap (λ (x : List ℕ). get_or x k 0) ev ∙ swap-i t k p in-k in_p

  swapped_other : (i : ℕ) → i ≢ k → i ≢ p → get_or v i 0 ≡ get_or t i 0
  swapped_other i a b = ap (λ (x : List ℕ). get_or x i 0) ev ∙ swap-other t k p in-k in_p i a b

  swapped-rest : (i : ℕ) → k ≤ i → (q : ℕ) → q < c → bit (get_or v i 0) q ≡ 0
  swapped-rest i l q b =
      ap (λ (x : List ℕ). bit (get_or x i 0) q) ev
      ∙ swap-rows t k p in-k in_p (λ (i x : ℕ). k ≤ i → bit x q ≡ 0) (λ a. s.rest p q f.past b) (λ a. s.rest k q (omega arith) b) (λ i d g a. s.rest i q a b) i l

  module _ {u : List ℕ} (g : Gained v u (Odd m) (k + 1) used k) where
    same : SameSums t u
    same = same-trans (subst (SameSums t) (sym ev) (same_of (same-swap t k p in-k in_p))) g.same

    old : (i : ℕ) → i < k → get_or u i 0 ≡ get_or t i 0
    old i l = g.others i (inl (omega arith)) ∙ swapped_other i (λ q. omega arith) (λ q. omega (arith, f.past, f.within))

    narrow : (j : ℕ) → get_or u j 0 < 2 ^ 64
    narrow = narrow-same 64 s.table.narrow same

    new-first : First (get_or u k 0) c
    new-first = subst (λ (x : ℕ). First x c) (sym (g.others k (inl (omega arith)) ∙ swapped-k)) (record { one = one_there c e f.here; zeros = λ q b. s.rest p q f.past b })

    first-k : firsts u k ≡ c
    first-k = first-at (narrow k) new-first

    at : (i : ℕ) → k < i → Dec (i < used) → (q : ℕ) → q < c + 1 → bit (get_or u i 0) q ≡ 0
    at i l (yes d) = go (g.rows i (omega arith) d)
      where
        low : (q : ℕ) → q < c → bit (get_or v i 0) q ≡ 0
        low = swapped-rest i (omega arith)

        go : GainedRow (Odd m) (get_or v i 0) (get_or v k 0) (get_or u i 0) → (q : ℕ) → q < c + 1 → bit (get_or u i 0) q ≡ 0
        go (inl w) =
            one_more (get_or u i 0) c
            (λ q b. ap (λ (x : ℕ). bit x q) w.1 ∙ bit-xor q (get_or v i 0) (get_or v k 0) ∙ ap₂ differ (low q b) (swapped-rest k (omega arith) q b))
            (ap (λ (x : ℕ). bit x c) w.1 ∙ bit-xor c (get_or v i 0) (get_or v k 0)
            ∙ ap₂ differ (one_there c e w.0) (ap (λ (x : ℕ). bit x c) swapped-k ∙ one_there c e f.here))
        go (inr w) = one_more (get_or u i 0) c (λ q b. ap (λ (x : ℕ). bit x q) w.1 ∙ low q b) (ap (λ (x : ℕ). bit x c) w.1 ∙ none-there c e w.0)
    at i l (no d) = λ q b.
        ap (λ (x : ℕ). bit x q) (g.others i (inr (omega arith)) ∙ swapped_other i (λ z. omega arith) (λ z. omega arith) ∙ s.table.unused i (omega arith)) ∙ bit-zero q

    pub column-found : EchelonFrom t u used (k + 1) (c + 1)
    column-found = record {
      same = same;
      shape = record {
        table = record {
          size = g.size ∙ swapped-size;
          short = s.table.short;
          few = s.table.few;
          narrow = narrow;
          unused = λ i l. g.others i (inr l) ∙ swapped_other i (λ z. omega (arith, f.past, f.within)) (λ z. omega arith) ∙ s.table.unused i l;
        };
        few = omega (arith, f.past, f.within);
        begins = λ i l. begins i (ℕ_discrete i k) l;
        before = λ i l. before i (ℕ_discrete i k) l;
        rising = λ i j a b. rising i j a (ℕ_discrete j k) b;
        rest = λ i q l. at i (omega arith) (dec_lt i used) q;
      };
    }
      where
        begins : (i : ℕ) → Dec (i ≡ k) → i < k + 1 → First (get_or u i 0) (firsts u i)
        begins i (yes q) l = subst (λ (x : ℕ). First (get_or u x 0) (firsts u x)) (sym q) (subst (First (get_or u k 0)) (sym first-k) new-first)
        begins i (no d) l = subst (λ (x : ℕ). First x (first x)) (sym (old i (omega arith))) (s.begins i (omega arith))

        before : (i : ℕ) → Dec (i ≡ k) → i < k + 1 → firsts u i < c + 1
        before i (yes q) l = let a : firsts u i ≡ c = ap (firsts u) q ∙ first-k in omega arith
        before i (no d) l = let a : firsts u i ≡ firsts t i = ap first (old i (omega arith)) in omega (arith, s.before i (omega arith))

        rising : (i j : ℕ) → i < j → Dec (j ≡ k) → j < k + 1 → firsts u i < firsts u j
        rising i j a (yes q) b =
            let x : firsts u i ≡ firsts t i = ap first (old i (omega arith)) in
            let y : firsts u j ≡ c = ap (firsts u) q ∙ first-k in
            omega (arith, s.before i (omega arith))
        rising i j a (no d) b =
            let x : firsts u i ≡ firsts t i = ap first (old i (omega arith)) in
            let y : firsts u j ≡ firsts t j = ap first (old j (omega arith)) in
            omega (arith, s.rising i j a (omega arith))

-- ---- all columns

-- rows of length n are rows of length 64
pub widen : {n used : ℕ} {t : List ℕ} → Table t n used → Table t 64 used
widen s = record { size = s.size; short = omega arith; few = s.few; narrow = λ j. lt_of_lt_of_le (s.narrow j) (pow_mono s.short); unused = s.unused }

pub columns-start : {n used : ℕ} {t : List ℕ} → Table t n used → EchelonFrom t t used 0 0
columns-start s = record {
  same = same_refl;
  shape = record {
    table = widen s;
    few = zero-le;
    begins = λ i l. absurd (omega arith);
    before = λ i l. absurd (omega arith);
    rising = λ i j l m. absurd (omega arith);
    rest = λ i p l m. absurd (omega arith);
  };
}

pub columns-on : {t u v : List ℕ} {used k l c : ℕ} → EchelonFrom t u used k c → EchelonFrom u v used l (c + 1) → EchelonFrom t v used l (c + 1)
columns-on p q = record { same = same-trans p.same q.same; shape = q.shape }

pub columns-end : {n used k c : ℕ} {t u : List ℕ} → Table t n used → n ≤ c → EchelonFrom t u used k c → BasisFrom t u k
columns-end {n} {used} {k} {c} {t} {u} s h p = record {
  same = p.same;
  basis = record {
    table = record {
      size = p.shape.table.size;
      short = p.shape.table.short;
      few = omega (arith, p.shape.few, s.few);
      narrow = p.shape.table.narrow;
      unused = λ i l. bits-zero (get_or u i 0) (λ q. go i l q (dec_lt q c));
    };
    begins = p.shape.begins;
    rising = p.shape.rising;
  };
}
  where
    go : (i : ℕ) → k ≤ i → (q : ℕ) → Dec (q < c) → bit (get_or u i 0) q ≡ 0
    go i l q (yes b) = p.shape.rest i q l b
    go i l q (no b) = bits_below n (get_or u i 0) (narrow-same n s.narrow p.same i) q (omega arith)
