-- The graph that a mask makes of another: each branch's bit is turned where the mask has a one at its position.
use Rattle.std.specs.Prelude.{ℕ, zero, suc, List, [], ◌∷◌}
use Rattle.words.specs.Word.{bit}
use Rattle.trellises.specs.Graph.{Branch, Graph}

-- a bit is turned by 1 and kept by 0; what is no bit is kept
abbrev pub turned : ℕ → ℕ → ℕ
turned zero b = b
turned (suc d) zero = 1
turned (suc d) (suc zero) = 0
turned (suc d) (suc (suc b)) = suc (suc b)

-- a branch with its bit turned: it leaves and leads as it did
abbrev pub turned_branch : ℕ → Branch → Branch
turned_branch d b = record { from = b.from; out = turned d b.out; to = b.to }

-- each of some branches
abbrev pub turned_all : ℕ → List Branch → List Branch
turned_all d [] = []
turned_all d (b ∷ bs) = turned_branch d b ∷ turned_all d bs

-- the same states, and the branches of section t turned by the mask's bit at t
abbrev pub masked : ℕ → Graph → Graph
masked mask g = record { states = g.states; branches = λ t. turned_all (bit mask t) (g.branches t) }
