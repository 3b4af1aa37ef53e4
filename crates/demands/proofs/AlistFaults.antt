-- The line that alist reading tells is the first that is faulty, missing or extra (A1): the text by its line feeds, each line judged against those above it.
use borrow.Author.Tests.{eq-eqb, eqb-true}
use lib.Dec.{eqb}
use lib.ListN.{get_or, length}
use mathlib.Core.Bool.{Bool, ◌&&◌}
use mathlib.Core.List.{◌++◌, List, [], ◌∷◌}
use mathlib.Core.Logic.{inl, inr, ◌↔◌}
use mathlib.Core.Path.{ap, refl, subst, sym, ◌∙◌, ◌≡◌}
use native.Mathlib.Omega.{arith}
use Prim.Native.Nat.{ℕ, ◌≤◌}
use Rattle.alists.proofs.NumbersFound.{between, both}
use Rattle.alists.proofs.Storing.{line-long}
use Rattle.alists.specs.Lines.{Line, faulty, line_of, reads}
use Rattle.alists.specs.Lists.{largest}
use Rattle.alists.specs.Reading.{Lists, Reading, fault_in, in_size, lists_from, matrix, most_fit}
use Rattle.alists.specs.Reading.{on_column_weights, on_columns, on_most, on_row_weights, on_sizes, reading}
use Rattle.demands.proofs.AlistLines.{says-once}
use Rattle.demands.proofs.AlistLists.{after_none, columns-judged}
use Rattle.demands.proofs.AlistSteps.{Outcome, tested, unread}
use Rattle.demands.specs.AlistFaults.{FirstFaulty, NoneFaulty, words_in}
use Rattle.sheets.specs.Text.{lines}

-- ---- the first four lines

fourth : (a b c s : List ℕ) → 1 ≤ get_or a 0 0 → length c ≡ get_or a 0 0
    → Outcome (a ∷ b ∷ c ∷ []) s (on_row_weights (get_or a 0 0) (get_or a 1 0) (get_or b 0 0) (get_or b 1 0) c (line_of (get_or a 1 0) s))
fourth a b c s p h = go (line_of (get_or a 1 0) s) refl
  where
    go : (l : Line) → line_of (get_or a 1 0) s ≡ l → Outcome (a ∷ b ∷ c ∷ []) s (on_row_weights (get_or a 0 0) (get_or a 1 0) (get_or b 0 0) (get_or b 1 0) c l)
    go faulty e =
        unread (a ∷ b ∷ c ∷ []) s (get_or a 1 0) e
        (λ vs f. eqb-true (length vs) (get_or a 1 0) (both (eqb (length vs) (get_or a 1 0)) (eqb (largest vs) (get_or b 1 0)) f).0) refl
    go (reads d t) e =
        let k = line-long (get_or a 1 0) s d t e in
        tested (a ∷ b ∷ c ∷ []) s (get_or a 1 0) d t e (eqb (largest d) (get_or b 1 0))
        (ap (λ (q : Bool). q && eqb (largest d) (get_or b 1 0)) (eq-eqb (length d) (get_or a 1 0) k)) _
        (λ g. subst (λ (x : Lists). Outcome (a ∷ b ∷ c ∷ d ∷ []) t (on_columns (get_or a 0 0) (get_or b 1 0) d x))
        (after_none a b c d (lists_from (get_or b 0 0) (get_or a 1 0) [] 0 c t))
        (columns-judged a b c d p h k c [] [] t refl (no_words c) (omega arith)))
      where
        no_words : (ws : List ℕ) → [] ≡ words_in (get_or a 1 0) ws []
        no_words [] = refl
        no_words (w ∷ ws) = refl

third : (a b s : List ℕ) → 1 ≤ get_or a 0 0
    → Outcome (a ∷ b ∷ []) s (on_column_weights (get_or a 0 0) (get_or a 1 0) (get_or b 0 0) (get_or b 1 0) (line_of (get_or a 0 0) s))
third a b s p = go (line_of (get_or a 0 0) s) refl
  where
    go : (l : Line) → line_of (get_or a 0 0) s ≡ l → Outcome (a ∷ b ∷ []) s (on_column_weights (get_or a 0 0) (get_or a 1 0) (get_or b 0 0) (get_or b 1 0) l)
    go faulty e =
        unread (a ∷ b ∷ []) s (get_or a 0 0) e
        (λ vs f. eqb-true (length vs) (get_or a 0 0) (both (eqb (length vs) (get_or a 0 0)) (eqb (largest vs) (get_or b 0 0)) f).0) refl
    go (reads c t) e =
        let k = line-long (get_or a 0 0) s c t e in
        tested (a ∷ b ∷ []) s (get_or a 0 0) c t e (eqb (largest c) (get_or b 0 0))
        (ap (λ (q : Bool). q && eqb (largest c) (get_or b 0 0)) (eq-eqb (length c) (get_or a 0 0) k)) _
        (λ g. fourth a b c t p k)

second : (a s : List ℕ) → 1 ≤ get_or a 0 0 → Outcome (a ∷ []) s (on_most (get_or a 0 0) (get_or a 1 0) (line_of 2 s))
second a s p = go (line_of 2 s) refl
  where
    go : (l : Line) → line_of 2 s ≡ l → Outcome (a ∷ []) s (on_most (get_or a 0 0) (get_or a 1 0) l)
    go faulty e = unread (a ∷ []) s 2 e (λ vs f. eqb-true (length vs) 2 (both (eqb (length vs) 2) (most_fit (get_or a 0 0) (get_or a 1 0) vs) f).0) refl
    go (reads b t) e =
        tested (a ∷ []) s 2 b t e (most_fit (get_or a 0 0) (get_or a 1 0) b)
        (ap (λ (q : Bool). q && most_fit (get_or a 0 0) (get_or a 1 0) b) (eq-eqb (length b) 2 (line-long 2 s b t e))) _
        (λ g. third a b t p)

-- the reading of a text, judged
judged-so : (s : List ℕ) → Outcome [] s (reading s)
unfolding reading
judged-so s = go (line_of 2 s) refl
  where
    go : (l : Line) → line_of 2 s ≡ l → Outcome [] s (on_sizes l)
    go faulty e = unread [] s 2 e (λ vs f. eqb-true (length vs) 2 (both (eqb (length vs) 2) (in_size (get_or vs 0 0) && in_size (get_or vs 1 0)) f).0) refl
    go (reads a t) e =
        tested [] s 2 a t e (in_size (get_or a 0 0) && in_size (get_or a 1 0))
        (ap (λ (q : Bool). q && (in_size (get_or a 0 0) && in_size (get_or a 1 0))) (eq-eqb (length a) 2 (line-long 2 s a t e))) _
        (λ g. second a t (between 1 64 (get_or a 0 0) (both (in_size (get_or a 0 0)) (in_size (get_or a 1 0)) g).0).0)

-- ---- there is one

once : (ls above : List (List ℕ)) (j k : ℕ) → FirstFaulty above ls j → FirstFaulty above ls k → j ≡ k
once [] above j k x y = absurd x
once (l ∷ []) above j k x y = x.0 ∙ sym y.0
once (l ∷ m ∷ ls) above j k (inl x) (inl y) = x.0 ∙ sym y.0
once (l ∷ m ∷ ls) above j k (inl x) (inr y) = absurd (x.1 y.0 y.1 y.2)
once (l ∷ m ∷ ls) above j k (inr x) (inl y) = absurd (y.1 x.0 x.1 x.2)
once (l ∷ m ∷ ls) above j k (inr x) (inr y) =
    once (m ∷ ls) (above ++ x.0 ∷ []) j k x.3
    (subst (λ (vs : List ℕ). FirstFaulty (above ++ vs ∷ []) (m ∷ ls) k) (says-once l y.0 x.0 y.1 x.1) y.3)

never : (ls above : List (List ℕ)) (k : ℕ) → NoneFaulty above ls → FirstFaulty above ls k → ⊥
never [] above k x y = x
never (l ∷ []) above k x y = y.1 x.0 x.1
never (l ∷ m ∷ ls) above k x (inl y) = y.1 x.0 x.1 x.2
never (l ∷ m ∷ ls) above k x (inr y) =
    never (m ∷ ls) (above ++ x.0 ∷ []) k x.3
    (subst (λ (vs : List ℕ). FirstFaulty (above ++ vs ∷ []) (m ∷ ls) k) (says-once l y.0 x.0 y.1 x.1) y.3)

-- ---- the theorems

-- reading tells line k exactly if that is the first that is faulty, missing or extra
pub told-exactly : (s : List ℕ) (k : ℕ) → (reading s ≡ fault_in k) ↔ FirstFaulty [] (lines s) k
told-exactly s k = ((λ e. subst (Outcome [] s) e (judged-so s)), λ h. go (reading s) refl (judged-so s) h)
  where
    go : (r : Reading) → reading s ≡ r → Outcome [] s r → FirstFaulty [] (lines s) k → reading s ≡ fault_in k
    go (matrix n rows) e o h = absurd (never (lines s) [] k o h)
    go (fault_in j) e o h = e ∙ ap fault_in (once (lines s) [] j k o h)

-- a text that reads as a matrix has no such line
pub matrix-has-none : (s : List ℕ) (n : ℕ) (rows : List ℕ) → reading s ≡ matrix n rows → NoneFaulty [] (lines s)
matrix-has-none s n rows e = subst (Outcome [] s) e (judged-so s)
