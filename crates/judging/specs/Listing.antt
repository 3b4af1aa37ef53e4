-- A supplier's listing: which of its lines are faulty or repeat a branch, and the layered graph that its branches make.
use Rattle.std.specs.Prelude.{ℕ, zero, suc, eqb, ltb, get_or, Bool, true, false, cond, ◌||◌, List, [], ◌∷◌, Option, Some, None}
use Rattle.sheets.specs.declared.listed.Branch.{Branch}
use Rattle.trellises.specs.Graph.{Graph}
use Rattle.trellises.specs.Graph as Graphs

-- ---- lines

abbrev pub no_branch : Branch
no_branch = record { depth = 0; from = 0; bit = 0; to = 0 }

-- the branch of a line
abbrev pub branch_in : Option Branch → Branch
branch_in (Some b) = b
branch_in None = no_branch

-- the branch of line i, from 0
abbrev pub branch_at : List (Option Branch) → ℕ → Branch
branch_at es i = branch_in (get_or es i None)

-- the depth of the line before line i, and 0 before the first
abbrev pub depth_before : List (Option Branch) → ℕ → ℕ
depth_before es zero = 0
depth_before es (suc i) = (branch_at es i).depth

-- a line is faulty where it is bad or its depth is below that of the line before it
abbrev pub faulty : Option Branch → ℕ → Bool
faulty (Some b) before = ltb b.depth before
faulty None before = true

abbrev pub faulty_at : List (Option Branch) → ℕ → Bool
faulty_at es i = faulty (get_or es i None) (depth_before es i)

-- two branches with one bit leaving one state of one depth
abbrev pub clash : Branch → Branch → Bool
clash a b = cond (eqb a.depth b.depth) (cond (eqb a.from b.from) (eqb a.bit b.bit) false) false

-- one of the first i lines clashes with a branch
abbrev pub clashes : List (Option Branch) → ℕ → Branch → Bool
clashes [] i b = false
clashes (e ∷ es) zero b = false
clashes (e ∷ es) (suc i) b = cond (clash (branch_in e) b) true (clashes es i b)

-- a line repeats one before it
abbrev pub repeats_at : List (Option Branch) → ℕ → Bool
repeats_at es i = clashes es i (branch_at es i)

-- ---- the graph

abbrev pub branches_of : List (Option Branch) → List Branch
branches_of [] = []
branches_of (e ∷ es) = branch_in e ∷ branches_of es

-- one branch more in a section, where it is of that depth
abbrev pub with : Bool → Graphs.Branch → List Graphs.Branch → List Graphs.Branch
with true b bs = b ∷ bs
with false b bs = bs

-- the branches of a section
abbrev pub section_at : ℕ → List Branch → List Graphs.Branch
section_at t [] = []
section_at t (b ∷ bs) = with (eqb b.depth t) (record { from = b.from; out = b.bit; to = b.to }) (section_at t bs)

-- start and end are state 0; the states between are 0 to 1023
abbrev pub listed_graph : ℕ → List Branch → Graph
listed_graph n bs = record { states = λ t. cond (eqb t 0 || eqb t n) 1 1024; branches = λ t. section_at t bs }
