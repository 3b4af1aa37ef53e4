-- The dual of the dual is the code: a word that is even with every word that a matrix checks is a sum of its rows.
use lib.Bits.{bit_and, bit_xor, differ, xor_zero_r}
use lib.Count.{ones}
use lib.ListN.{get_or, length}
use mathlib.Core.List.{List}
use mathlib.Core.Logic.{inl, inr, ◌↔◌, ◌⊎◌}
use mathlib.Core.Path.{◌≡◌, ap, ap₂, subst, sym, ◌∙◌}
use native.Mathlib.Decide.{ℕ_discrete}
use native.Mathlib.Omega.{arith}
use Prim.Native.Nat.{◌%◌, ◌+◌, ◌<◌, ◌^◌, min, ℕ}
use Rattle.decoding.proofs.RestOfWords.{off-below, off-cleared, off-sum}
use Rattle.decoding.specs.Cosets.{taken_off}
use Rattle.plates.proofs.LastOnesDiffer.{rows-spans}
use Rattle.plates.proofs.OneCheck.{parity-all, pow-here, pow-other}
use Rattle.plates.proofs.ProfileSteps.{here-none}
use Rattle.plates.specs.Code.{Checked, InCode}
use Rattle.plates.specs.Counts.{here}
use Rattle.plates.specs.declared.Kind.TheVariants.{G, H}
use Rattle.plates.specs.Heads.{RowsOf}
use Rattle.trellises.proofs.AcceptedIsPrepared.{code_below}
use Rattle.trellises.proofs.DualPositions.{first-place, just-one}
use Rattle.trellises.proofs.PlateGenerates.{code-closed, code-zero, plate-generates}
use Rattle.words.proofs.Ends.{first-trailing, one-before}
use Rattle.words.proofs.Masks.{bit-and}
use Rattle.words.proofs.Parity.{parity-comm, parity-power, parity-xor}
use Rattle.words.proofs.Span.{lt-tri, rising-apart, zero_one}
use Rattle.words.proofs.Sums.{in_row}
use Rattle.words.proofs.Word.{bit-ext, xor-cancel}
use Rattle.words.specs.Ends.{firsts, lasts}
use Rattle.words.specs.Parity.{parity}
use Rattle.words.specs.Span.{Before, First, Last, Spans}
use Rattle.words.specs.Sum.{IsSum}
use Rattle.words.specs.Word.{bit}

-- one word ends where the other begins: they meet there and nowhere else
meet-once : (r v t : ℕ) → First r t → Last v t → parity v r ≡ 1
meet-once r v t f l =
    ap (λ (x : ℕ). ones x % 2) (bit-ext (bit_and v r) (bit_and (2 ^ t) r) (λ i. bit-and i v r ∙ side i (lt-tri i t) ∙ sym (bit-and i (2 ^ t) r)))
    ∙ parity-power t r ∙ f.one
  where
    side : (i : ℕ) → (i < t) ⊎ ((i ≡ t) ⊎ (t < i)) → min (bit v i) (bit r i) ≡ min (bit (2 ^ t) i) (bit r i)
    side i (inl h) = let z = f.zeros i h in omega (arith, z)
    side i (inr (inl e)) = ap (λ (x : ℕ). min x (bit r i)) (ap (bit v) e ∙ l.one ∙ sym (pow-here t) ∙ ap (bit (2 ^ t)) (sym e))
    side i (inr (inr h)) = ap (λ (x : ℕ). min x (bit r i)) (l.zeros i h ∙ sym (pow-other t i (λ e. omega (arith, e, h))))

-- a word that rows check has even parity with their sums
pub checks-sums : (n : ℕ) (rows : List ℕ) (v w : ℕ) → Checked n rows v → IsSum rows w → parity w v ≡ 0
checks-sums n rows v w c s = parity-comm w v ∙ parity-all v rows (λ j k. parity-comm v (get_or rows j 0) ∙ c.even j k) w s

-- a: the plate rows of a matrix as G; b: those of the same matrix as H
module _ (n : ℕ) (matrix : List ℕ) (below : (j : ℕ) → j < length matrix → get_or matrix j 0 < 2 ^ n) (a b : List ℕ)
    (p : RowsOf (InCode G n matrix) a (firsts a) (lasts a)) (q : RowsOf (InCode H n matrix) b (firsts b) (lasts b)) where
  spans-a : Spans a (firsts a) (lasts a)
  spans-a = rows-spans (InCode G n matrix) (code-closed G n matrix) a (firsts a) (lasts a) p

  spans-b : Spans b (firsts b) (lasts b)
  spans-b = rows-spans (InCode H n matrix) (code-closed H n matrix) b (firsts b) (lasts b) q

  row-sum : (w : ℕ) → InCode G n matrix w ↔ IsSum a w
  row-sum = plate-generates (InCode G n matrix) (code-zero G n matrix) (code-closed G n matrix) a (firsts a) (lasts a) p

  pub check-sum : (w : ℕ) → InCode H n matrix w ↔ IsSum b w
  check-sum = plate-generates (InCode H n matrix) (code-zero H n matrix) (code-closed H n matrix) b (firsts b) (lasts b) q

  -- the rows of b are words that the rows of a check, and generate all of them
  even : (j : ℕ) → j < length b → Checked n a (get_or b j 0)
  even j k =
      let c = (q.row j k).codeword in
      record { below = c.below; even = λ i m. checks-sums n matrix (get_or b j 0) (get_or a i 0) c (p.row i m).codeword }

  all : (v : ℕ) → Checked n a v → IsSum b v
  all v c =
      (check-sum v).0 (record { below = c.below; even = λ j k. checks-sums n a v (get_or matrix j 0) c ((row-sum (get_or matrix j 0)).0 (in_row matrix j)) })

  row_below : (j : ℕ) → j < length a → get_or a j 0 < 2 ^ n
  row_below j k = code_below G n matrix (λ r o. omega (arith, below o.row o.there, o.over)) (get_or a j 0) (p.row j k).codeword

  -- a position that is no head of the code is a last one of the dual
  last-there : (t : ℕ) → t < n → ((j : ℕ) → j < length a → firsts a j ≡ t → ⊥) → (j : ℕ) × (j < length b) × (lasts b j ≡ t)
  last-there t l none = go (first-place (λ j. lasts b j ≡ t) (λ j. ℕ_discrete (lasts b j) t) (length b))
    where
      one : here (length a) (firsts a) t + here (length b) (lasts b) t ≡ 1
      one =
          just-one Before (λ a h. omega arith) (λ a b c g h. omega arith) lt-tri n a b (firsts a) (lasts b) spans-a.first
          (rising-apart (length a) (firsts a) spans-a.rising) (λ j k. one-before n (get_or a j 0) (firsts a j) (row_below j k) (spans-a.first j k).one)
          spans-b.last spans-b.apart even all t l

      go : ((j : ℕ) × (j < length b) × (lasts b j ≡ t) × ((i : ℕ) → i < j → lasts b i ≡ t → ⊥)) ⊎ ((j : ℕ) → j < length b → lasts b j ≡ t → ⊥)
          → (j : ℕ) × (j < length b) × (lasts b j ≡ t)
      go (inl x) = (x.0, x.1, x.2)
      go (inr no_last) =
          absurd (omega (arith, one, here-none (length a) (firsts a) t none, here-none (length b) (lasts b) t no_last))

  -- what is left of the word once the rows of a are taken off would begin where no row of a does, so meet a row of b once
  pub double-dual : (w : ℕ) → w < 2 ^ n → ((v : ℕ) → IsSum b v → parity v w ≡ 0) → IsSum matrix w
  double-dual w h all-even = by (taken_off a w) (off-sum a w) (off-below n a w row_below h) (off-cleared a w spans-a.first spans-a.rising)
    where
      by : (r : ℕ) → IsSum a (bit_xor w r) → r < 2 ^ n → ((j : ℕ) → j < length a → bit r (firsts a j) ≡ 0) → IsSum matrix w
      by r off small clear = go (ℕ_discrete r 0)
        where
          meets : (t : ℕ) → First r t → (j : ℕ) × (j < length b) × (lasts b j ≡ t) → ⊥
          meets t f x =
              let v = get_or b x.0 0 in
              let c = even x.0 x.1 in
              let e : parity r v ≡ 0 =
              ap (λ (z : ℕ). parity z v) (sym (xor-cancel w r)) ∙ parity-xor w (bit_xor w r) v
              ∙ ap₂ differ (parity-comm w v ∙ all-even v (in_row b x.0)) (checks-sums n a v (bit_xor w r) c off) in
              zero_one (parity-comm v r ∙ e) (meet-once r v t f (subst (Last v) x.2 (spans-b.last x.0 x.1)))

          go : Dec (r ≡ 0) → IsSum matrix w
          go (yes e) = (row-sum w).1 (subst (IsSum a) (ap (bit_xor w) e ∙ xor_zero_r w) off)
          go (no e) =
              let f = first-trailing n r (omega (arith, e)) small in
              absurd (meets _ f (last-there _ (one-before n r _ small f.one) (λ j k g. zero_one (ap (bit r) (sym g) ∙ clear j k) f.one)))
