-- A code and its dual, in the same order of positions, have equal profiles, and their dimensions together are n.
use lib.Dec.{T, ltb, lt→ltb}
use lib.ListN.{get_or, length}
use mathlib.Core.Bool.{Bool, false, true}
use mathlib.Core.List.{List}
use mathlib.Core.Logic.{◌↔◌}
use mathlib.Core.Path.{ap, refl, sym, ◌∙◌, ◌≡◌}
use native.Mathlib.Nat.{le_refl}
use native.Mathlib.Omega.{arith}
use Prim.Native.Nat.{◌+◌, ◌<◌, ◌^◌, suc, suc-le-suc, zero, zero-le, ℕ, ◌≤◌}
use Rattle.plates.proofs.LastOnesDiffer.{rows-spans}
use Rattle.plates.proofs.OneCheck.{parity-all}
use Rattle.plates.proofs.ProfileSteps.{live-before, span-le}
use Rattle.plates.specs.Code.{Checked, InCode}
use Rattle.plates.specs.Counts.{before}
use Rattle.plates.specs.declared.Kind.TheVariants.{G, H}
use Rattle.plates.specs.Heads.{RowsOf}
use Rattle.plates.specs.Profile.{live, live_at}
use Rattle.trellises.proofs.AcceptedIsPrepared.{code_below}
use Rattle.trellises.proofs.DualPositions.{fill-up}
use Rattle.trellises.proofs.PlateGenerates.{code-closed, code-zero, plate-generates}
use Rattle.trellises.specs.Dual.{FirstWide}
use Rattle.words.proofs.Ends.{one-before}
use Rattle.words.proofs.Parity.{parity-comm}
use Rattle.words.proofs.Span.{gt-tri, lt-tri, rising-apart}
use Rattle.words.proofs.Sums.{in_row}
use Rattle.words.specs.Choice.{count, more}
use Rattle.words.specs.Ends.{firsts, lasts}
use Rattle.words.specs.Parity.{parity}
use Rattle.words.specs.Span.{After, Before, Spans}
use Rattle.words.specs.Sum.{IsSum}

-- every place passes
count-all : (k : ℕ) (P : ℕ → Bool) → ((j : ℕ) → j < k → T (P j)) → count k P ≡ k
count-all zero P h = refl
count-all (suc k) P h = go (P 0) (h 0 (suc-le-suc zero-le)) (count-all k (λ j. P (suc j)) (λ j l. h (suc j) (suc-le-suc l)))
  where
    go : (b : Bool) → T b → count k (λ j. P (suc j)) ≡ k → more b (count k (λ j. P (suc j))) ≡ suc k
    go true t e = ap suc e
    go false t e = absurd t

-- with equal profiles up to n the first depth is the same
first-carried : (n : ℕ) (a b : List ℕ) → ((t : ℕ) → t ≤ n → live_at a t ≡ live_at b t) → (d : ℕ) → FirstWide a n d → FirstWide b n d
first-carried n a b same d w = record {
  within = w.within;
  over = omega (arith, same d w.within, w.over);
  earlier = λ t h. omega (arith, same t (omega (arith, w.within)), w.earlier t h);
}

-- a: the plate rows of a matrix as G; b: those of the same matrix as H
module _ (n : ℕ) (matrix : List ℕ) (below : (j : ℕ) → j < length matrix → get_or matrix j 0 < 2 ^ n) where
  module _ (a b : List ℕ) (fa la fb lb : ℕ → ℕ) (p : RowsOf (InCode G n matrix) a fa la) (q : RowsOf (InCode H n matrix) b fb lb) where
    -- first ones rise and last ones differ, in both
    spans-a : Spans a fa la
    spans-a = rows-spans (InCode G n matrix) (code-closed G n matrix) a fa la p

    spans-b : Spans b fb lb
    spans-b = rows-spans (InCode H n matrix) (code-closed H n matrix) b fb lb q

    -- the words of the code are the sums of its plate rows
    row-sum : (w : ℕ) → InCode G n matrix w ↔ IsSum a w
    row-sum = plate-generates (InCode G n matrix) (code-zero G n matrix) (code-closed G n matrix) a fa la p

    -- a word that rows check has even parity with their sums
    checks-sums : (rows : List ℕ) (v w : ℕ) → Checked n rows v → IsSum rows w → parity w v ≡ 0
    checks-sums rows v w c s = parity-comm w v ∙ parity-all v rows (λ j k. parity-comm v (get_or rows j 0) ∙ c.even j k) w s

    -- the rows of b are words that the rows of a check
    even : (j : ℕ) → j < length b → Checked n a (get_or b j 0)
    even j k = let c = (q.row j k).codeword in record { below = c.below; even = λ i m. checks-sums matrix (get_or b j 0) (get_or a i 0) c (p.row i m).codeword }

    -- and generate all of them: the rows of a check no word that the matrix does not
    all : (v : ℕ) → Checked n a v → IsSum b v
    all v c =
        (plate-generates (InCode H n matrix) (code-zero H n matrix) (code-closed H n matrix) b fb lb q v).0
        (record { below = c.below; even = λ j k. checks-sums a v (get_or matrix j 0) c ((row-sum (get_or matrix j 0)).0 (in_row matrix j)) })

    -- the code's rows have their first and last ones before n
    row_below : (j : ℕ) → j < length a → get_or a j 0 < 2 ^ n
    row_below j k = code_below G n matrix (λ r o. omega (arith, below o.row o.there, o.over)) (get_or a j 0) (p.row j k).codeword

    first-within : (j : ℕ) → j < length a → fa j < n
    first-within j k = one-before n (get_or a j 0) (fa j) (row_below j k) (spans-a.first j k).one

    last_within : (j : ℕ) → j < length a → la j < n
    last_within j k = one-before n (get_or a j 0) (la j) (row_below j k) (spans-a.last j k).one

    -- heads of the code and last ones of the dual before t
    heads-and-lasts : (t : ℕ) → t ≤ n → before (length a) fa t + before (length b) lb t ≡ t
    heads-and-lasts =
        fill-up Before (λ a h. omega arith) (λ a b c g h. omega arith) lt-tri n a b fa lb spans-a.first (rising-apart (length a) fa spans-a.rising)
        first-within spans-b.last spans-b.apart even all

    -- last ones of the code and heads of the dual before t
    lasts-and-heads : (t : ℕ) → t ≤ n → before (length a) la t + before (length b) fb t ≡ t
    lasts-and-heads =
        fill-up After (λ a h. omega arith) (λ a b c g h. omega arith) gt-tri n a b la fb spans-a.last spans-a.apart
        last_within spans-b.first (rising-apart (length b) fb spans-b.rising) even all

    -- s(t) is the number of heads before t less the number of last ones before t
    same_live : (t : ℕ) → t ≤ n → count (length a) (live fa la t) ≡ count (length b) (live fb lb t)
    same_live t h =
        omega (
          arith,
          heads-and-lasts t h,
          lasts-and-heads t h,
          live-before (length a) fa la (span-le a fa la spans-a) t,
          live-before (length b) fb lb (span-le b fb lb spans-b) t,
        )

    -- all heads of the code and all last ones of the dual are before n
    counts_up : length a + length b ≡ n
    counts_up =
        omega (
          arith,
          heads-and-lasts n (le_refl n),
          count-all (length a) (λ j. ltb (fa j) n) (λ j k. lt→ltb (fa j) n (first-within j k)),
          count-all (length b) (λ j. ltb (lb j) n) (λ j k. lt→ltb (lb j) n (one-before n (get_or b j 0) (lb j) (q.row j k).codeword.below (spans-b.last j k).one)),
        )

  -- ---- the same of the plates' rows

  module _ (a b : List ℕ) (p : RowsOf (InCode G n matrix) a (firsts a) (lasts a)) (q : RowsOf (InCode H n matrix) b (firsts b) (lasts b)) where
    -- the profiles are equal
    pub dual-profiles : (t : ℕ) → t ≤ n → live_at a t ≡ live_at b t
    dual-profiles = same_live a b (firsts a) (lasts a) (firsts b) (lasts b) p q

    -- and so is the first depth at which more than 12 rows are live
    pub same-first-depth : (d : ℕ) → FirstWide a n d ↔ FirstWide b n d
    same-first-depth d = (first-carried n a b dual-profiles d, first-carried n b a (λ t h. sym (dual-profiles t h)) d)

    -- k of the one and k of the other are n
    pub dual-dimensions : length a + length b ≡ n
    dual-dimensions = counts_up a b (firsts a) (lasts a) (firsts b) (lasts b) p q
