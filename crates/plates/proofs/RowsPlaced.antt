-- Rows taken one after the other and placed in a table by their last ones: each may follow exactly if all of them stand as a plate's rows do.
use borrow.Author.Count.{below_more}
use lib.ListN.{get_or, get_or-replicate, length, length-replicate, length-set, replicate, set}
use lib.Pow.{pow_mono}
use lib.Seq.{get_or-set_other, get_or-set_same}
use mathlib.Core.Bool.{false, false≢true, true}
use mathlib.Core.List.{List}
use mathlib.Core.Logic.{inl, inr, ◌≢◌, ◌⊎◌, ⊎_elim}
use mathlib.Core.Path.{ap, refl, subst, sym, ◌∙◌, ◌≡◌}
use native.Mathlib.Decide.{dec_lt, ℕ_discrete}
use native.Mathlib.Omega.{arith}
use Prim.Native.Nat.{◌+◌, ◌<◌, ◌^◌, suc, suc-le-suc, zero, zero-le, ℕ, ◌≤◌}
use Rattle.plates.proofs.Deciding.{fails, holds}
use Rattle.plates.specs.Tested.{ByLast, MayFollow, Placed, RowEnding, Standing, no_row, row_at}
use Rattle.words.proofs.Ends.{first-is, first-one-is, last-is, last-one-is, one-before, some-pos}
use Rattle.words.proofs.Span.{zero_one}
use Rattle.words.proofs.Word.{below-bits, bits_below}
use Rattle.words.specs.Ends.{FirstOne, LastOne, firsts, last, lasts}

-- a last one is a position of a word
last-lt : (w : ℕ) → last w < 64
unfolding last
last-lt w = omega arith

-- ---- may a row follow

module _ (n from : ℕ) (table : List ℕ) (row : ℕ) (short : n ≤ 64) (fits : row < 2 ^ 64) where
  -- it may not where it has no one, or ends at n or beyond
  pub ends-late : {r : ℕ} → LastOne row r → n ≤ r → MayFollow n from table row → ⊥
  ends-late {r} g h m = zero_one (bits_below n row m.below r h) (g.some m.some).one

  -- or begins too soon
  pub begins-soon : {r : ℕ} → FirstOne row r → r < from → MayFollow n from table row → ⊥
  begins-soon g h m = omega (arith, m.begins, first-one-is m.some fits g)

  -- the ends of a row that may follow are positions of a word
  pub last-inside : {r : ℕ} → LastOne row r → MayFollow n from table row → r < 64
  last-inside {r} g m = one-before 64 row r fits (g.some m.some).one

  pub first-inside : {r : ℕ} → FirstOne row r → MayFollow n from table row → r < 64
  first-inside {r} g m = one-before 64 row r fits (g.some m.some).one

  -- or ends where another row does
  pub ends-together : {r : ℕ} → LastOne row r → get_or table r 0 < 64 → MayFollow n from table row → ⊥
  ends-together g h m = omega (arith, h, m.free, ap (λ (x : ℕ). get_or table x 0) (last-one-is m.some fits g))

  -- it may in all other cases
  pub follows : {r s : ℕ} → LastOne row r → r < n → FirstOne row s → from ≤ s → 64 ≤ get_or table r 0 → MayFollow n from table row
  follows {r} {s} g h k b e = record {
    some = some;
    below = below-bits n row (λ i m. (g.some some).zeros i (omega arith));
    begins = omega (arith, first-one-is some fits k);
    free = subst (λ (x : ℕ). 64 ≤ get_or table x 0) (last-one-is some fits g) e;
  }
    where
      positive : (w : ℕ) → (w ≡ 0 → r ≡ 64) → 0 < w
      positive zero z = absurd (omega (arith, z refl))
      positive (suc w) z = suc-le-suc zero-le

      some : 0 < row
      some = positive row g.none

-- ---- the first i rows are placed, and the next begins at `from` or after

pub record Seen (n : ℕ) (rows : List ℕ) (i from : ℕ) (table : List ℕ) : Type 0 where
  pub within : i ≤ length rows
  pub some : (j : ℕ) → j < i → 0 < get_or rows j 0
  pub below : (j : ℕ) → j < i → get_or rows j 0 < 2 ^ n
  pub rising : (a b : ℕ) → a < b → b < i → firsts rows a < firsts rows b
  pub beyond : (j : ℕ) → j < i → firsts rows j < from
  pub tight : (p : ℕ) → p < from → (j : ℕ) × (j < i) × (p ≤ firsts rows j)
  pub by_last : ByLast rows i table

-- no row is in a table of 64s
pub empty-table : (rows : List ℕ) → ByLast rows 0 (replicate 64 64)
empty-table rows = record {
  size = length-replicate {A = ℕ} 64 64;
  row = λ j h. absurd (omega arith);
  other = λ p h. inl (get_or-replicate {A = ℕ} 64 p 64 0 h);
}

pub seen_none : (n : ℕ) {rows table : List ℕ} → ByLast rows 0 table → Seen n rows 0 0 table
seen_none n b = record {
  within = zero-le;
  some = λ j h. absurd (omega arith);
  below = λ j h. absurd (omega arith);
  rising = λ a b g h. absurd (omega arith);
  beyond = λ j h. absurd (omega arith);
  tight = λ p h. absurd (omega arith);
  by_last = b;
}

-- row i is the next
module _ (n : ℕ) (rows : List ℕ) (i from : ℕ) (table : List ℕ) (few : length rows ≤ 64) (s : Seen n rows i from table) (l : i < length rows) where
  placed-by-last : MayFollow n from table (get_or rows i 0) → ByLast rows (i + 1) (set table (lasts rows i) i)
  placed-by-last m = record {
    size = length-set table (lasts rows i) i ∙ s.by_last.size;
    row = below_more (λ j. get_or (set table (lasts rows i) i) (lasts rows j) 0 ≡ j) i earlier here;
    other = λ p h. at p h (ℕ_discrete p (lasts rows i));
  }
    where
      here : get_or (set table (lasts rows i) i) (lasts rows i) 0 ≡ i
      here = get_or-set_same table (lasts rows i) i 0 (omega (arith, s.by_last.size, last-lt (get_or rows i 0)))

      earlier : (j : ℕ) → j < i → get_or (set table (lasts rows i) i) (lasts rows j) 0 ≡ j
      earlier j h = get_or-set_other table (lasts rows i) (lasts rows j) i 0 apart ∙ s.by_last.row j h
        where
          apart : lasts rows j ≢ lasts rows i
          apart e = omega (arith, sym (s.by_last.row j h) ∙ ap (λ (x : ℕ). get_or table x 0) e, m.free)

      at : (p : ℕ) → p < 64 → Dec (p ≡ lasts rows i)
          → (get_or (set table (lasts rows i) i) p 0 ≡ 64) ⊎ ((get_or (set table (lasts rows i) i) p 0 < i + 1) × (lasts rows (get_or (set table (lasts rows i) i) p 0) ≡ p))
      at p h (yes e) =
          let v : get_or (set table (lasts rows i) i) p 0 ≡ i = ap (λ (x : ℕ). get_or (set table (lasts rows i) i) x 0) e ∙ here in
          inr (omega arith, ap (lasts rows) v ∙ sym e)
      at p h (no d) =
          let v : get_or (set table (lasts rows i) i) p 0 ≡ get_or table p 0 = get_or-set_other table (lasts rows i) p i 0 d in
          ⊎_elim (λ e. inl (v ∙ e)) (λ q. inr (omega (arith, q.0), ap (lasts rows) v ∙ q.1)) (s.by_last.other p h)

  -- where it may follow, it is placed too
  pub seen_more : MayFollow n from table (get_or rows i 0) → Seen n rows (i + 1) (firsts rows i + 1) (set table (lasts rows i) i)
  seen_more m = record {
    within = omega arith;
    some = below_more (λ j. 0 < get_or rows j 0) i s.some m.some;
    below = below_more (λ j. get_or rows j 0 < 2 ^ n) i s.below m.below;
    rising = λ a b g h. below_more (λ x. a < x → firsts rows a < firsts rows x) i (λ x y z. s.rising a x z y) (λ z. omega (arith, s.beyond a z, m.begins)) b h g;
    beyond = below_more (λ j. firsts rows j < firsts rows i + 1) i (λ j h. omega (arith, s.beyond j h, m.begins)) (omega arith);
    tight = λ p h. (i, omega arith, omega arith);
    by_last = placed-by-last m;
  }

  -- by the positions that `last_one` and `first_one` give
  pub seen_next : {r q : ℕ} → get_or rows i 0 < 2 ^ 64 → LastOne (get_or rows i 0) r → FirstOne (get_or rows i 0) q → MayFollow n from table (get_or rows i 0)
      → Seen n rows (i + 1) (q + 1) (set table r i)
  seen_next {r} {q} fits g h m =
      let a : r ≡ lasts rows i = last-one-is m.some fits g in
      let b : q ≡ firsts rows i = first-one-is m.some fits h in
      rw (a, b) (seen_more m)

  -- rows that stand as a plate's do: the next may follow
  pub standing-follows : Standing n rows → MayFollow n from table (get_or rows i 0)
  standing-follows g = record {
    some = some-pos (get_or rows i 0) (firsts rows i) (g.spans.first i l).one;
    below = g.below i l;
    begins = after (dec_lt (firsts rows i) from);
    free = ⊎_elim (λ e. omega (arith, e)) (λ q. absurd (ends_there q.0 q.1)) (s.by_last.other (lasts rows i) (last-lt (get_or rows i 0)));
  }
    where
      -- an earlier row with the same last one
      ends_there : {j : ℕ} → j < i → lasts rows j ≡ lasts rows i → ⊥
      ends_there {j} h e = omega (arith, g.spans.apart j i (omega arith) l e)

      after : Dec (firsts rows i < from) → from ≤ firsts rows i
      after (no b) = omega arith
      after (yes b) = let t = s.tight (firsts rows i) b in absurd (omega (arith, t.2, g.spans.rising t.0 i t.1 l))

-- all are placed
pub seen_all : (n : ℕ) (rows : List ℕ) (i from : ℕ) (table : List ℕ) → n ≤ 64 → Seen n rows i from table → length rows ≤ i → Placed n rows table true
seen_all n rows i from table short s h = record {
  decides = holds (record {
    spans = record {
      first = λ j l. first-is (get_or rows j 0) (s.some j (omega arith)) (fits j l);
      last = λ j l. last-is (get_or rows j 0) (s.some j (omega arith)) (fits j l);
      rising = λ a b g l. s.rising a b g (omega arith);
      apart = λ a b k l e. sym (s.by_last.row a (omega arith)) ∙ ap (λ (x : ℕ). get_or table x 0) e ∙ s.by_last.row b (omega arith);
    };
    below = λ j l. s.below j (omega arith);
  });
  by_last = λ e. subst (λ (x : ℕ). ByLast rows x table) (omega (arith, s.within)) s.by_last;
}
  where
    fits : (j : ℕ) → j < length rows → get_or rows j 0 < 2 ^ 64
    fits j l = let b : get_or rows j 0 < 2 ^ n = s.below j (omega arith) in omega (arith, pow_mono short)

-- one may not follow
pub seen-stop : (n : ℕ) (rows : List ℕ) (i from : ℕ) (table : List ℕ) → length rows ≤ 64 → Seen n rows i from table → i < length rows
    → (MayFollow n from table (get_or rows i 0) → ⊥) → Placed n rows table false
seen-stop n rows i from table few s l no-follow = record {
  decides = fails (λ g. no-follow (standing-follows n rows i from table few s l g));
  by_last = λ e. absurd (false≢true e);
}

-- ---- the row that ends at a position, by the table of all rows

module _ (rows table : List ℕ) (t : ℕ) (few : length rows ≤ 64) (b : ByLast rows (length rows) table) (h : t < 64) where
  pub entry-le : get_or table t 0 ≤ 64
  entry-le = ⊎_elim (λ e. omega arith) (λ q. omega (arith, q.0)) (b.other t h)

  pub some-ending : get_or table t 0 < length rows → RowEnding rows t (get_or rows (get_or table t 0) 0)
  some-ending l = row_at (get_or table t 0) l (⊎_elim (λ e. absurd (omega arith)) (λ q. q.1) (b.other t h))

  pub none-ending : length rows ≤ get_or table t 0 → RowEnding rows t 0
  none-ending l = no_row (λ j m e. omega (arith, sym (b.row j m) ∙ ap (λ (x : ℕ). get_or table x 0) e))
