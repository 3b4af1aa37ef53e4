-- Where no row has a one at a position every codeword has 0 there; where a row has one, some codeword has 1 there.
use lib.ListN.{get_or, length-take, take}
use lib.Seq.{get_or-take}
use mathlib.Core.List.{List}
use mathlib.Core.Logic.{inl, inr, ◌⊎◌}
use mathlib.Core.Path.{ap, subst, sym, ◌∙◌, ◌≡◌}
use native.Mathlib.Omega.{arith}
use Prim.Native.Nat.{◌+◌, ◌<◌, ℕ}
use Rattle.decoding.specs.Forcing.{RowWith}
use Rattle.words.proofs.Span.{lt-tri}
use Rattle.words.proofs.Sums.{all-zero, in_row}
use Rattle.words.proofs.Word.{bit-cases}
use Rattle.words.specs.Sum.{IsSum}
use Rattle.words.specs.Word.{bit}

-- one more row without a one
pub passed-row : (rows : List ℕ) (p j : ℕ) → ((i : ℕ) → i < j → bit (get_or rows i 0) p ≡ 0) → (bit (get_or rows j 0) p ≡ 1 → ⊥)
    → (i : ℕ) → i < j + 1 → bit (get_or rows i 0) p ≡ 0
passed-row rows p j before n i h = go (lt-tri i j)
  where
    here : (bit (get_or rows j 0) p ≡ 0) ⊎ (bit (get_or rows j 0) p ≡ 1) → bit (get_or rows j 0) p ≡ 0
    here (inl e) = e
    here (inr e) = absurd (n e)

    go : (i < j) ⊎ ((i ≡ j) ⊎ (j < i)) → bit (get_or rows i 0) p ≡ 0
    go (inl l) = before i l
    go (inr (inl e)) = subst (λ (x : ℕ). bit (get_or rows x 0) p ≡ 0) (sym e) (here (bit-cases (get_or rows j 0) p))
    go (inr (inr l)) = absurd (omega arith)

module _ (table : List ℕ) (k p : ℕ) where
  pub never-one : ((j : ℕ) → j < k → bit (get_or table j 0) p ≡ 0) → (w : ℕ) → IsSum (take k table) w → bit w p ≡ 0
  never-one h w g =
      ap (λ (x : ℕ). bit x p) (sym g.sum)
      ∙ all-zero (take k table) p (λ j l. few j (omega (arith, l, length-take k table))) g.by
    where
      few : (j : ℕ) → j < k → bit (get_or (take k table) j 0) p ≡ 0
      few j l = ap (λ (x : ℕ). bit x p) (get_or-take k table j 0 l) ∙ h j l

  -- the row with a one is a codeword
  pub row-with : RowWith table k p → (w : ℕ) × IsSum (take k table) w × (bit w p ≡ 1)
  row-with r =
      (get_or (take k table) r.row 0, in_row (take k table) r.row, ap (λ (x : ℕ). bit x p) (get_or-take k table r.row 0 r.there) ∙ r.one)
