-- Every written text is in our form.
use borrow.Author.Tests.{lt-ltb, ne_eqb}
use lib.Dec.{eqb}
use lib.ListN.{drop, get_or, length, take, take-append-drop}
use mathlib.Core.Bool.{Bool, cond, false, true}
use mathlib.Core.List.{◌++◌, List, [], map, ◌∷◌}
use mathlib.Core.Path.{◌≡◌, ap, refl, ◌∙◌}
use native.Mathlib.Omega.{arith}
use Prim.Native.Nat.{◌<◌, suc, zero, ℕ, ◌≤◌}
use Rattle.alists.proofs.Bounds.{columns-length}
use Rattle.alists.proofs.ListsPut.{largest-few, list-small, pair_small, weights-small}
use Rattle.alists.proofs.NumbersFound.{all_true}
use Rattle.alists.proofs.Ordered.{lists-ordered}
use Rattle.alists.proofs.SpacedOnce.{each_both, spaced-text}
use Rattle.alists.specs.Accepted.{Accepted, Sized, lines_ordered}
use Rattle.alists.specs.Lists.{columns, indices, largest, list_of, ones_from, padded}
use Rattle.alists.specs.OwnForm.{OwnForm, ascend, ascend_from, each, short}
use Rattle.alists.specs.Text.{alist_text, lines_of, lists_of, matrix_text, weights}
use Rattle.alists.specs.Working.{Small}
use Rattle.words.specs.Word.{bit}

-- lines whose lists ascend are in order
pub lines-in-order : (lines : List (List ℕ)) → each ascend (drop 4 lines) ≡ true → lines_ordered lines ≡ lines
lines-in-order lines a = ap (λ (r : List (List ℕ)). take 4 lines ++ r) (lists-ordered (drop 4 lines) a) ∙ take-append-drop 4 lines

-- ---- every written text

small-short : (xs : List ℕ) → Small xs → short xs ≡ true
small-short xs h = go xs h.below
  where
    go : (ys : List ℕ) → ((j : ℕ) → get_or ys j 0 < 100) → short ys ≡ true
    go [] f = refl
    go (y ∷ ys) f = all_true (lt-ltb y 100 (f 0)) (go ys (λ j. f (suc j)))

-- the ones of a word ascend, and zeros stand behind them
zeros-ascend : (last most : ℕ) → ascend_from last (padded most []) ≡ true
zeros-ascend last zero = refl
zeros-ascend last (suc most) = refl

ones-ascend : (w p k last most : ℕ) → last ≤ p → ascend_from last (padded most (ones_from w p k)) ≡ true
ones-ascend w p zero last most h = zeros-ascend last most
ones-ascend w p (suc k) last most h =
    go (eqb (bit w p) 1) most (λ l m. ones-ascend w (suc p) k l m)
  where
    go : (t : Bool) (m : ℕ) → ((l m : ℕ) → l ≤ suc p → ascend_from l (padded m (ones_from w (suc p) k)) ≡ true)
        → ascend_from last (padded m (cond t (suc p ∷ ones_from w (suc p) k) (ones_from w (suc p) k))) ≡ true
    go true zero on = refl
    go true (suc m) on = rw (ne_eqb (suc p) 0 (λ z. omega (arith, z)), lt-ltb last (suc p) (omega (arith, h))) (on (suc p) m (omega arith))
    go false m on = on last m (omega (arith, h))

list-ascends : (most w : ℕ) → ascend (list_of most w) ≡ true
unfolding indices
list-ascends most w = ones-ascend w 0 64 0 most (omega arith)

-- the lists of words
lists-own : (most : ℕ) (ws : List ℕ) → (each short (map (list_of most) ws) ≡ true) × (each ascend (map (list_of most) ws) ≡ true)
lists-own most [] = (refl, refl)
lists-own most (w ∷ ws) =
    let r = lists-own most ws in
    (all_true (small-short (list_of most w) (list-small most w)) r.0, all_true (list-ascends most w) r.1)

module _ (n : ℕ) (rows : List ℕ) (sized : Sized n rows) where
  abbrev cols : List ℕ
  cols = columns n rows

  numbers-own : each short (lines_of cols rows) ≡ true
  numbers-own =
      let l = columns-length rows 0 n in
      let h = sized.most in
      let a = small-short (length cols ∷ length rows ∷ []) (pair_small (length cols) (length rows) (omega (arith, l, h)) sized.few) in
      let tall = largest (weights cols) in
      let wide = largest (weights rows) in
      let b = small-short (tall ∷ wide ∷ []) (pair_small tall wide (largest-few cols) (largest-few rows)) in
      let c = small-short (weights cols) (weights-small cols) in
      let d = small-short (weights rows) (weights-small rows) in
      all_true a (all_true b (all_true c (all_true d (each_both short (lists_of cols) (lists_of rows) (lists-own tall cols).0 (lists-own wide rows).0))))

  indices-own : each ascend (drop 4 (lines_of cols rows)) ≡ true
  indices-own = each_both ascend (lists_of cols) (lists_of rows) (lists-own (largest (weights cols)) cols).1 (lists-own (largest (weights rows)) rows).1

  -- the text of a matrix is in our form
  pub written-is-own-form : OwnForm (alist_text n rows)
  unfolding matrix_text
  written-is-own-form = record { lines = lines_of cols rows; numbers = numbers-own; is = refl; indices = indices-own }

  -- and so one that reading accepts
  pub written-accepted : Accepted (alist_text n rows) n rows
  unfolding matrix_text
  written-accepted =
      record {
        sized = sized;
        lines = lines_of cols rows;
        numbers = numbers-own;
        is = spaced-text (lines_of cols rows);
        order = lines-in-order (lines_of cols rows) indices-own;
      }
