-- The search over a plate's words: the first of those that tell all that is not in another set is the earliest word that is not.
use borrow.Author.Tests.{eqb-false, eqb-true}
use lib.Bits.{bit_xor, differ, xor_comm, xor_zero_r}
use lib.Dec.{eqb}
use lib.ListN.{get_or, length}
use mathlib.Core.Bool.{Bool, cond, false, true}
use mathlib.Core.List.{List, [], ◌∷◌}
use mathlib.Core.Logic.{inl, inr, ◌⊎◌}
use mathlib.Core.Path.{◌≡◌, ap, ap₂, refl, subst, sym, ◌∙◌}
use native.Mathlib.Omega.{arith}
use Prim.Native.Nat.{◌/◌, ◌<◌, ◌^◌, suc, suc-le-suc, zero-le, ℕ, ◌≤◌}
use Rattle.std.specs.Prelude.{None, Option, Some}
use Rattle.decoding.proofs.RestOfWords.{off-below, off-cleared, off-sum, xor-through}
use Rattle.decoding.specs.Cosets.{taken_off}
use Rattle.outlines.proofs.RestTells.{xor_below}
use Rattle.outlines.specs.Comparing.{Alone}
use Rattle.outlines.specs.Searching.{OutsideAs, first_out, or_word}
use Rattle.words.proofs.Span.{Nothing as TakesNone, Top, first-unique, least, rising-apart, sum-skip, sum-take, zero_one}
use Rattle.words.proofs.Sums.{all-zero, in-cons, in_row, in-xor, in-zero}
use Rattle.words.proofs.Word.{bit-cases, bit-xor, bit-zero, differ_self, xor_assoc, xor-cancel, xor_self, xor-zero-eq}
use Rattle.words.specs.Ends.{first, firsts}
use Rattle.words.specs.Span.{Before, First, Leads}
use Rattle.words.specs.Sum.{IsSum, sum_of}
use Rattle.words.specs.Word.{Earlier, bit}

-- what is added twice is gone
pub xor-twice : (a b : ℕ) → bit_xor (bit_xor a b) b ≡ a
xor-twice a b = xor_assoc a b b ∙ ap (bit_xor a) (xor_self b) ∙ xor_zero_r a

-- the sum of two words begins where they differ first
pub earlier-begins : {v w : ℕ} (e : Earlier v w) → First (bit_xor v w) e.place
earlier-begins {v} {w} e = record {
  one = bit-xor e.place v w ∙ ap₂ differ e.zero_here e.one_there;
  zeros = λ i h. bit-xor i v w ∙ ap (λ (x : ℕ). differ x (bit w i)) (e.same i h) ∙ differ_self (bit w i);
}

-- a sum of rows takes the first one or does not
in_split : {row : ℕ} {rows : List ℕ} {v : ℕ} → IsSum (row ∷ rows) v → IsSum rows v ⊎ ((s : ℕ) × IsSum rows s × (v ≡ bit_xor row s))
in_split {row} {rows} {v} g = go (bit-cases g.by 0)
  where
    go : (bit g.by 0 ≡ 0) ⊎ (bit g.by 0 ≡ 1) → IsSum rows v ⊎ ((s : ℕ) × IsSum rows s × (v ≡ bit_xor row s))
    go (inl e) = inl (record { by = g.by / 2; sum = sym (sum-skip row rows g.by e) ∙ g.sum })
    go (inr e) = inr (sum_of rows (g.by / 2), record { by = g.by / 2; sum = refl }, sym g.sum ∙ sum-take row rows g.by e)

-- rows of n positions with rising first ones, where the rest has 0
pub record Heads (n rest : ℕ) (rows : List ℕ) : Type 0 where
  pub leads : Leads Before rows (firsts rows)
  pub rising : (i j : ℕ) → i < j → j < length rows → firsts rows i < firsts rows j
  pub below : (j : ℕ) → j < length rows → get_or rows j 0 < 2 ^ n
  pub clear : (j : ℕ) → j < length rows → bit rest (firsts rows j) ≡ 0

later : {n rest row : ℕ} {rows : List ℕ} → Heads n rest (row ∷ rows) → Heads n rest rows
later h = record {
  leads = λ j k. h.leads (suc j) (suc-le-suc k);
  rising = λ i j l k. h.rising (suc i) (suc j) (suc-le-suc l) (suc-le-suc k);
  below = λ j k. h.below (suc j) (suc-le-suc k);
  clear = λ j k. h.clear (suc j) (suc-le-suc k);
}

-- a sum of rows begins where a row does
head-of-sum : {n rest : ℕ} {rows : List ℕ} → Heads n rest rows → {x p : ℕ} → IsSum rows x → First x p → (j : ℕ) × (j < length rows) × (firsts rows j ≡ p)
head-of-sum {rows = rows} h {x} {p} g f = go (least rows (firsts rows) h.leads (rising-apart (length rows) (firsts rows) h.rising) g.by)
  where
    go : (TakesNone (length rows) g.by × (sum_of rows g.by ≡ 0)) ⊎ Top Before rows (firsts rows) g.by → (j : ℕ) × (j < length rows) × (firsts rows j ≡ p)
    go (inl z) = absurd (zero_one (ap (λ (y : ℕ). bit y p) (sym g.sum ∙ z.1) ∙ bit-zero p) f.one)
    go (inr t) = (t.0, t.1, first-unique (subst (λ (y : ℕ). First y (firsts rows t.0)) g.sum t.3) f)

-- the later rows have 0 up to the first row's first one, and so have their sums
zero-up-to : {n rest row : ℕ} {rows : List ℕ} → Heads n rest (row ∷ rows) → (i : ℕ) → i ≤ first row → {x : ℕ} → IsSum rows x → bit x i ≡ 0
zero-up-to {row = row} {rows} h i l g =
    subst (λ (y : ℕ). bit y i ≡ 0) g.sum
    (all-zero rows i
    (λ j k. (h.leads (suc j) (suc-le-suc k)).zeros i (let r = h.rising 0 (suc j) (suc-le-suc zero-le) (suc-le-suc k) in omega (arith, l, r))) g.by)

-- Q: another set of words, which has the sum of any three; of its words nothing is left, and of no others below 2 ^ n
module _ (n : ℕ) (Q : ℕ → Type 0) (left : ℕ → ℕ) (three : (x y z : ℕ) → Q x → Q y → Q z → Q (bit_xor x (bit_xor y z)))
    (none_in : (w : ℕ) → left w ≡ 0 → Q w) (in-none : (w : ℕ) → w < 2 ^ n → Q w → left w ≡ 0) (rest : ℕ) (small : rest < 2 ^ n) where
  -- the words of some rows
  abbrev In : List ℕ → ℕ → Type 0
  In rows w = IsSum rows (bit_xor w rest)

  no_rows : (w : ℕ) → In [] w → w ≡ rest
  no_rows w g = xor-zero-eq w rest (sym g.sum)

  start : (none : Bool) → eqb (left rest) 0 ≡ none → OutsideAs (In []) Q (cond none None (Some rest))
  start true e = λ w g. subst Q (sym (no_rows w g)) (none_in rest (eqb-true (left rest) 0 e))
  start false e = (
    (subst (IsSum []) (sym (xor_self rest)) (in-zero []), λ q. eqb-false (left rest) 0 e (in-none rest small q)),
    λ v a b. (let f = subst (λ (x : ℕ). Earlier x rest) (no_rows v a.0) b in zero_one f.zero_here f.one_there),
  )

  module _ (row : ℕ) (rows : List ℕ) (h : Heads n rest (row ∷ rows)) where
    -- the row with 0 at the later heads, and the rest
    abbrev next : ℕ
    next = bit_xor (taken_off rows row) rest

    next-below : next < 2 ^ n
    next-below = xor_below n (taken_off rows row) rest (off-below n rows row (later h).below (h.below 0 (suc-le-suc zero-le))) small

    next-in : In (row ∷ rows) next
    next-in =
        subst (IsSum (row ∷ rows)) (xor-cancel row (taken_off rows row) ∙ sym (xor-twice (taken_off rows row) rest))
        (in-xor (in_row (row ∷ rows) 0) (in-cons row (off-sum rows row)))

    -- a word is one of the later rows', or differs from that word by a sum of them
    near : (v : ℕ) → In (row ∷ rows) v → In rows v ⊎ IsSum rows (bit_xor v next)
    near v g = go (in_split g)
      where
        go : In rows v ⊎ ((s : ℕ) × IsSum rows s × (bit_xor v rest ≡ bit_xor row s)) → In rows v ⊎ IsSum rows (bit_xor v next)
        go (inl x) = inl x
        go (inr x) =
            let s = x.0 in
            let t = taken_off rows row in
            let e : bit_xor v (bit_xor t rest) ≡ bit_xor s (bit_xor row t) =
            ap (bit_xor v) (xor_comm t rest) ∙ sym (xor_assoc v rest t) ∙ ap (λ (y : ℕ). bit_xor y t) (x.2 ∙ xor_comm row s) ∙ xor_assoc s row t in
            inr (subst (IsSum rows) (sym e) (in-xor x.1 (off-sum rows row)))

    -- all words of the later rows are in Q: then all are where that word is, and else it is the earliest
    all_in : ((w : ℕ) → In rows w → Q w) → Q next → (v : ℕ) → In (row ∷ rows) v → Q v
    all_in ih q v g = go (near v g)
      where
        go : In rows v ⊎ IsSum rows (bit_xor v next) → Q v
        go (inl x) = ih v x
        go (inr x) =
            subst Q (ap (bit_xor next) (xor-twice (bit_xor v next) rest ∙ xor_comm v next) ∙ xor-cancel next v)
            (three next (bit_xor (bit_xor v next) rest) rest q (ih _ (subst (IsSum rows) (sym (xor-twice (bit_xor v next) rest)) x))
            (ih rest (subst (IsSum rows) (sym (xor_self rest)) (in-zero rows))))

    next-earliest : ((w : ℕ) → In rows w → Q w) → (v : ℕ) → Alone (In (row ∷ rows)) Q v → Earlier v next → ⊥
    next-earliest ih v a e = go (near v a.0)
      where
        clear : (j : ℕ) → j < length rows → bit next (firsts rows j) ≡ 0
        clear j k =
            bit-xor (firsts rows j) (taken_off rows row) rest
            ∙ ap₂ differ (off-cleared rows row (later h).leads (later h).rising j k) ((later h).clear j k)

        go : In rows v ⊎ IsSum rows (bit_xor v next) → ⊥
        go (inl x) = a.1 (ih v x)
        go (inr x) =
            let f = head-of-sum (later h) x (earlier-begins e) in
            zero_one (ap (bit next) (sym f.2) ∙ clear f.0 f.1) e.one_there

    -- a word of the later rows is earlier than all that take the first row
    still-earliest : (w : ℕ) → In rows w → ((v : ℕ) → Alone (In rows) Q v → Earlier v w → ⊥) → (v : ℕ) → Alone (In (row ∷ rows)) Q v → Earlier v w → ⊥
    still-earliest w own ih v a e = go (in_split a.0)
      where
        go : In rows v ⊎ ((s : ℕ) × IsSum rows s × (bit_xor v rest ≡ bit_xor row s)) → ⊥
        go (inl x) = ih v (x, a.1) e
        go (inr x) = zero_one (ap (bit v) at ∙ e.zero_here) one
          where
            p : ℕ
            p = first row

            lead : First row p
            lead = h.leads 0 (suc-le-suc zero-le)

            begins : First (bit_xor v w) p
            begins =
                subst (λ (y : ℕ). First y p) (ap (bit_xor (bit_xor v rest)) (xor_comm w rest) ∙ xor-through v rest w) (record {
                  one = bit-xor p (bit_xor v rest) (bit_xor w rest) ∙ ap₂ differ taken (zero-up-to h p (omega arith) own);
                  zeros = λ i l. bit-xor i (bit_xor v rest) (bit_xor w rest) ∙ ap₂ differ (before i l) (zero-up-to h i (omega (arith, l)) own);
                })
              where
                before : (i : ℕ) → i < p → bit (bit_xor v rest) i ≡ 0
                before i l =
                    ap (λ (y : ℕ). bit y i) x.2 ∙ bit-xor i row x.0 ∙ ap₂ differ (lead.zeros i l) (zero-up-to h i (omega (arith, l)) x.1)

                taken : bit (bit_xor v rest) p ≡ 1
                taken = ap (λ (y : ℕ). bit y p) x.2 ∙ bit-xor p row x.0 ∙ ap₂ differ lead.one (zero-up-to h p (omega arith) x.1)

            at : p ≡ e.place
            at = first-unique begins (earlier-begins e)

            one : bit v p ≡ 1
            one =
                ap (λ (y : ℕ). bit y p) (sym (xor-twice v rest) ∙ ap (λ (y : ℕ). bit_xor y rest) x.2) ∙ bit-xor p (bit_xor row x.0) rest
                ∙ ap₂ differ (bit-xor p row x.0 ∙ ap₂ differ lead.one (zero-up-to h p (omega arith) x.1)) (h.clear 0 (suc-le-suc zero-le))

    one_more : (found : Option ℕ) → OutsideAs (In rows) Q found → OutsideAs (In (row ∷ rows)) Q (or_word found (left next) next)
    one_more (Some w) ih = ((in-cons row ih.0.0, ih.0.1), still-earliest w ih.0.0 ih.1)
    one_more None ih = by (eqb (left next) 0) refl
      where
        by : (none : Bool) → eqb (left next) 0 ≡ none → OutsideAs (In (row ∷ rows)) Q (cond none None (Some next))
        by true e = all_in ih (none_in next (eqb-true (left next) 0 e))
        by false e = ((next-in, λ q. eqb-false (left next) 0 e (in-none next next-below q)), next-earliest ih)

  pub earliest-out : (rows : List ℕ) → Heads n rest rows → OutsideAs (In rows) Q (first_out left rest rows)
  earliest-out [] h = start (eqb (left rest) 0) refl
  earliest-out (row ∷ rows) h = one_more row rows h (first_out left rest rows) (earliest-out rows (later h))
