-- The paper's example, computed: the profile 0 1 2 3 2 3 2 1 0 gives 44 additions and 11 comparisons.
use lib.Count.{count_leading_zeros, count_trailing_zeros}
use lib.IntN.{ℤ}
use mathlib.Core.List.{List, [], ◌∷◌}
use mathlib.Core.Path.{refl, ◌≡◌}
use Prim.Native.Nat.{◌-◌, suc, zero, ℕ}
use Rattle.decoding.specs.Backward.{counted}
use Rattle.decoding.specs.Totals.{branch_total, doubled_total, entering_less_one, state_total}
use Rattle.plates.specs.Profile.{live_at}
use Rattle.trellises.specs.Graph.{Graph}
use Rattle.trellises.specs.SectionOf.{section_of, with_active, with_row}
use Rattle.trellises.specs.States.{trellis}
use Rattle.words.specs.Ends.{first, firsts, last, lasts}

-- its plate rows, of length 8
abbrev rows : List ℕ
rows = 15 ∷ 90 ∷ 60 ∷ 240 ∷ []

-- its trellis
abbrev example : Graph
example = trellis rows (firsts rows) (lasts rows)

-- its profile, from depth a on
abbrev profile : ℕ → ℕ → List ℕ
profile a zero = []
profile a (suc n) = live_at rows a ∷ profile (suc a) n

-- as the paper gives it
profile-is : profile 0 9 ≡ 0 ∷ 1 ∷ 2 ∷ 3 ∷ 2 ∷ 3 ∷ 2 ∷ 1 ∷ 0 ∷ []
unfolding first last count_trailing_zeros count_leading_zeros
profile-is = refl

-- by the formulas
formulas : (doubled_total rows 8 ≡ 44) × (state_total rows 8 ≡ 44 - 11)
unfolding first last count_trailing_zeros count_leading_zeros
formulas = (refl, refl)

-- by the branches
branches : (branch_total example 8 ≡ 44) × (entering_less_one example 8 ≡ 11)
unfolding first last count_trailing_zeros count_leading_zeros
branches = (refl, refl)

-- by the steps, whatever the samples
steps : (a b c d e f g h : ℤ) → counted (section_of rows) (a ∷ b ∷ c ∷ d ∷ e ∷ f ∷ g ∷ h ∷ []) 0 ≡ record { additions = 44; comparisons = 11 }
unfolding first last count_trailing_zeros count_leading_zeros with_row with_active
steps a b c d e f g h = refl
