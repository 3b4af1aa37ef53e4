-- The trellis of plate rows: states are the taken live rows, branches the taken active rows.
use Rattle.std.specs.Prelude.{ℕ, zero, suc, ◌^◌, leb, length, Bool, ◌&&◌, List, [], ◌∷◌}
use Rattle.words.specs.Choice.{count, gather, spread}
use Rattle.words.specs.Sum.{sum_of}
use Rattle.words.specs.Word.{bit}
use Rattle.plates.specs.Profile.{live}
use Rattle.trellises.specs.Graph.{Branch, Graph}

-- row j is active in section t: it begins at or before t and ends at or after t
abbrev pub active : (ℕ → ℕ) → (ℕ → ℕ) → ℕ → ℕ → Bool
active f l t j = leb (f j) t && leb t (l j)

-- the state at depth t where u says which rows are taken: the live row with the lowest head has weight 1, the next 2, and so on
abbrev pub state_of : List ℕ → (ℕ → ℕ) → (ℕ → ℕ) → ℕ → ℕ → ℕ
state_of rows f l t u = gather (length rows) (live f l t) u

-- the branch of section t where u says which rows are taken: its bit is the sum modulo 2 of position t over the taken rows, and it
-- keeps the taken rows that are still live
abbrev pub branch_of : List ℕ → (ℕ → ℕ) → (ℕ → ℕ) → ℕ → ℕ → Branch
branch_of rows f l t u = record { from = state_of rows f l t u; out = bit (sum_of rows u) t; to = state_of rows f l (suc t) u }

-- the first n values of F
abbrev pub table : ℕ → (ℕ → Branch) → List Branch
table zero F = []
table (suc n) F = F 0 ∷ table n (λ i. F (suc i))

-- a branch for each choice among the rows that are active in the section
abbrev pub trellis : List ℕ → (ℕ → ℕ) → (ℕ → ℕ) → Graph
trellis rows f l = record {
  states = λ t. 2 ^ count (length rows) (live f l t);
  branches = λ t. table (2 ^ count (length rows) (active f l t)) (λ v. branch_of rows f l t (spread (length rows) (active f l t) v));
}
