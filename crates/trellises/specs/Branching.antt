-- The trellis of a plate, and the reply to a branch asked for.
use Rattle.std.specs.Prelude.{ℕ, ◌^◌, ◌≤◌, ◌<◌, List, [], ◌∷◌, ◌⊎◌, ◌≡◌, Result, Ok, Err, Option, Some, None}
use Rattle.words.specs.Ends.{firsts, lasts}
use Rattle.plates.specs.declared.Plate.{Plate}
use Rattle.plates.specs.declared.Refusal.{Refusal}
use Rattle.plates.specs.declared.Refusal.TheVariants.{NoSuchBranch}
use Rattle.plates.specs.Prepare.{not_prepared, rows_of}
use Rattle.plates.specs.Profile.{live_at}
use Rattle.plates.specs.Refusals.{Refuses, Passes}
use Rattle.trellises.specs.Graph.{Graph, Has}
use Rattle.trellises.specs.Masking.{masked}
use Rattle.trellises.specs.States.{trellis}

-- the position up to which a row is kept: its last one
abbrev pub kept_to : Plate → ℕ → ℕ
kept_to plate j = lasts (rows_of plate) j

-- the trellis of a plate's code
abbrev pub code_trellis : Plate → Graph
code_trellis plate = trellis (rows_of plate) (firsts (rows_of plate)) (kept_to plate)

-- the trellis of a plate: the mask's bit is added to each branch's
abbrev pub trellis_of : Plate → Graph
trellis_of plate = masked plate.mask (code_trellis plate)

-- 12: the depth is n or more, the state is not present, or the bit is over 1
abbrev pub no_such_branch : Plate → ℕ → ℕ → ℕ → Refusal → Type 0
no_such_branch plate depth state bit q =
    ((plate.n ≤ depth) ⊎ ((2 ^ live_at (rows_of plate) depth ≤ state) ⊎ (1 < bit))) × (q ≡ NoSuchBranch)

abbrev pub branch_conditions : Plate → ℕ → ℕ → ℕ → List (Refusal → Type 0)
branch_conditions plate depth state bit = not_prepared plate ∷ no_such_branch plate depth state bit ∷ []

-- What a branch asked for is answered by: the next state where the trellis has such a branch, "no branch" where it has none
abbrev pub Branches : Plate → ℕ → ℕ → ℕ → Result (Option ℕ) Refusal → Type 0
Branches plate depth state bit (Ok (Some next)) = Passes (branch_conditions plate depth state bit) × Has (trellis_of plate) depth state bit next
Branches plate depth state bit (Ok None) =
    Passes (branch_conditions plate depth state bit) × ((next : ℕ) → Has (trellis_of plate) depth state bit next → ⊥)
Branches plate depth state bit (Err q) = Refuses (branch_conditions plate depth state bit) q
