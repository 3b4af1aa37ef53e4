-- What decoding is to count: the branches of a trellis, for each state past the start one fewer than the branches entering it, and the
-- formulas of the profile for both.
use Rattle.std.specs.Prelude.{eqb, length, ◌||◌, Bool, cond, false, List, [], ◌∷◌, ◌*◌, ◌+◌, ◌-◌, ◌^◌, suc, zero, ℕ}
use Rattle.plates.specs.Profile.{live_at}
use Rattle.trellises.specs.Graph.{Branch, Graph}
use Rattle.words.specs.Choice.{more}
use Rattle.words.specs.Ends.{first}

-- the sum of F over n numbers, from a on
abbrev pub total : ℕ → ℕ → (ℕ → ℕ) → ℕ
total a zero F = 0
total a (suc n) F = F a + total (suc a) n F

-- ---- of a graph, up to depth n

-- the number of branches, over the sections from 0 to n - 1
abbrev pub branch_total : Graph → ℕ → ℕ
branch_total g n = total 0 n (λ t. length (g.branches t))

-- how many of some branches lead to state j
abbrev pub leading : ℕ → List Branch → ℕ
leading j [] = 0
leading j (branch ∷ branches) = more (eqb branch.to j) (leading j branches)

-- how many branches of section t enter state j of depth t + 1
abbrev pub entering : Graph → ℕ → ℕ → ℕ
entering g t j = leading j (g.branches t)

-- one fewer than the branches entering it, over every state past the start: those of depth t + 1 for each section t from 0 to n - 1
abbrev pub entering_less_one : Graph → ℕ → ℕ
entering_less_one g n = total 0 n (λ t. total 0 (g.states (suc t)) (λ j. entering g t j - 1))

-- ---- of plate rows of length n

-- whether a row begins at t
abbrev pub begins_at : List ℕ → ℕ → Bool
begins_at [] t = false
begins_at (row ∷ rows) t = eqb (first row) t || begins_at rows t

-- the sum over t from 0 to n - 1 of 2 ^ s(t), doubled where a row begins at t
abbrev pub doubled_total : List ℕ → ℕ → ℕ
doubled_total rows n = total 0 n (λ t. cond (begins_at rows t) (2 * 2 ^ live_at rows t) (2 ^ live_at rows t))

-- the sum of 2 ^ s(t) for t from 1 to n
abbrev pub state_total : List ℕ → ℕ → ℕ
state_total rows n = total 1 n (λ t. 2 ^ live_at rows t)
