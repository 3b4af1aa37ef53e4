-- A mask changes no count: a graph with turned bits has as many branches, and as many entering each state.
use lib.Dec.{eqb}
use mathlib.Core.List.{List, [], ◌∷◌}
use mathlib.Core.Path.{ap, ap₂, refl, ◌≡◌}
use Prim.Native.Nat.{◌+◌, ◌-◌, suc, zero, ℕ}
use Rattle.decoding.specs.Totals.{branch_total, entering_less_one, leading, total}
use Rattle.trellises.proofs.MaskedGraph.{masked-branches}
use Rattle.trellises.specs.Graph.{Branch, Graph}
use Rattle.trellises.specs.Masking.{masked, turned_all}
use Rattle.words.specs.Choice.{more}
use Rattle.words.specs.Word.{bit}

-- sums of numbers that are the same one by one
total-same : (F H : ℕ → ℕ) → ((t : ℕ) → F t ≡ H t) → (a n : ℕ) → total a n F ≡ total a n H
total-same F H e a zero = refl
total-same F H e a (suc n) = ap₂ ◌+◌ (e a) (total-same F H e (suc a) n)

-- where branches lead does not change
leading-turned : (d j : ℕ) (bs : List Branch) → leading j (turned_all d bs) ≡ leading j bs
leading-turned d j [] = refl
leading-turned d j (b ∷ bs) = ap (more (eqb b.to j)) (leading-turned d j bs)

module _ (mask : ℕ) (g : Graph) (n : ℕ) where
  pub mask-branches : branch_total (masked mask g) n ≡ branch_total g n
  mask-branches = total-same _ _ (masked-branches mask g) 0 n

  pub mask-entering : entering_less_one (masked mask g) n ≡ entering_less_one g n
  mask-entering = total-same _ _ (λ t. total-same _ _ (λ j. ap (λ (x : ℕ). x - 1) (leading-turned (bit mask t) j (g.branches t))) 0 (g.states (suc t))) 0 n
