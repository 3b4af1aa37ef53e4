-- One line of an alist text: told as faulty where it is not read or does not fit those above it, and else those after it are judged (A1).
use lib.ListN.{length}
use mathlib.Core.Bool.{Bool, cond, false, true}
use mathlib.Core.List.{◌++◌, List, [], ◌∷◌}
use mathlib.Core.Logic.{inl, inr}
use mathlib.Core.Path.{ap, refl, subst, sym, ◌∙◌, ◌≡◌}
use native.Mathlib.Omega.{arith}
use Prim.Native.Nat.{suc, ℕ}
use Rattle.alists.specs.Lines.{faulty, line_of, reads}
use Rattle.alists.specs.Reading.{Reading, fault_in, matrix}
use Rattle.demands.proofs.AlistLines.{Cut, line-cut, lines_cut, lines-some, read-says, says-once, unread-says}
use Rattle.demands.specs.AlistFaults.{FirstFaulty, NoneFaulty, Says, fits, whole}
use Rattle.sheets.specs.Text.{lines}

-- what is to hold of what is read of a text, those above it saying these numbers
abbrev pub Outcome : List (List ℕ) → List ℕ → Reading → Type 0
Outcome above s (matrix n rows) = NoneFaulty above (lines s)
Outcome above s (fault_in k) = FirstFaulty above (lines s) k

pub true-not-false : true ≡ false → ⊥
true-not-false e = let z : ◌≡◌ {A = ℕ} 0 1 = cc in omega arith

module _ (above : List (List ℕ)) (s : List ℕ) (k : ℕ) where
  -- not read as k numbers, where only k numbers fit and a line is to come
  pub unread : line_of k s ≡ faulty → ((vs : List ℕ) → fits above vs ≡ true → length vs ≡ k) → whole above ≡ false
      → FirstFaulty above (lines s) (suc (length above))
  unread e only more = go (lines s) refl
    where
      go : (ls : List (List ℕ)) → lines s ≡ ls → FirstFaulty above ls (suc (length above))
      go [] d = absurd (lines-some s d)
      go (l ∷ []) d = (refl, λ w z. true-not-false (sym w ∙ more))
      go (l ∷ m ∷ ls) d = inl (refl, λ vs a f. unread-says k s l m ls e d vs a (only vs f))

  module _ (vs t : List ℕ) (e : line_of k s ≡ reads vs t) where
    c : Cut s t
    c = line-cut k s vs t e

    says : Says c.bytes vs
    says = read-says k s vs t e c

    first-line : lines s ≡ c.bytes ∷ lines t
    first-line = ap lines c.are ∙ lines_cut c.bytes t c.clear

    -- read, and does not fit
    pub unfit : fits above vs ≡ false → FirstFaulty above (lines s) (suc (length above))
    unfit f = subst (λ (ls : List (List ℕ)). FirstFaulty above ls (suc (length above))) (sym first-line) (go (lines t) refl)
      where
        go : (ls : List (List ℕ)) → lines t ≡ ls → FirstFaulty above (c.bytes ∷ ls) (suc (length above))
        go [] d = absurd (lines-some t d)
        go (m ∷ ls) d = inl (refl, λ ws a g. true-not-false (sym g ∙ ap (fits above) (says-once c.bytes ws vs a says) ∙ f))

    -- read, and fits: the lines after it are judged
    pub fit : fits above vs ≡ true → (r : Reading) → Outcome (above ++ vs ∷ []) t r → Outcome above s r
    fit f (matrix n rows) o = subst (NoneFaulty above) (sym first-line) (go (lines t) refl o)
      where
        go : (ls : List (List ℕ)) → lines t ≡ ls → NoneFaulty (above ++ vs ∷ []) ls → NoneFaulty above (c.bytes ∷ ls)
        go [] d o = absurd (lines-some t d)
        go (m ∷ ls) d o = (vs, says, f, o)
    fit f (fault_in j) o = subst (λ (ls : List (List ℕ)). FirstFaulty above ls j) (sym first-line) (go (lines t) refl o)
      where
        go : (ls : List (List ℕ)) → lines t ≡ ls → FirstFaulty (above ++ vs ∷ []) ls j → FirstFaulty above (c.bytes ∷ ls) j
        go [] d o = absurd (lines-some t d)
        go (m ∷ ls) d o = inr (vs, says, f, o)

    -- by its test
    pub tested : (test : Bool) → fits above vs ≡ test → (r : Reading) → (test ≡ true → Outcome (above ++ vs ∷ []) t r)
        → Outcome above s (cond test r (fault_in (suc (length above))))
    tested true f r o = fit f r (o refl)
    tested false f r o = unfit f
