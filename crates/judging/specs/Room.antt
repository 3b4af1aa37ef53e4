-- The working room, four numbers a line: the start of its branch (depth, state and bit as one number), the state that it leads to, the
-- number of ours that has the same ways to the end as that state, and a mark.
use Rattle.std.specs.Prelude.{eqb, get_or, length, Bool, None, Option, Some, List, [], ◌∷◌, ◌⊎◌, ◌≡◌, ◌%◌, ◌*◌, ◌+◌, ◌-◌, ◌/◌, ◌<◌, suc, zero, ℕ, ◌≤◌}
use Rattle.sheets.specs.declared.listed.Branch.{Branch}
use Rattle.trellises.specs.Graph.{Graph}
use Rattle.judging.specs.Listing.{branch_at, listed_graph}
use Rattle.judging.specs.Ours.{ours}
use Rattle.judging.specs.Ways.{Tells}
use Rattle.judging.specs.Working.{FirstFound}

-- a depth, a state and a bit as one number
abbrev pub key_of : ℕ → ℕ → ℕ → ℕ
key_of depth state bit = depth * 2048 + state * 2 + bit

pub record Within (depth state bit : ℕ) : Type 0 where
  pub depth_small : depth < 64
  pub state_small : state < 1024
  pub bit_small : bit < 2

-- a branch whose numbers fit
pub record InRange (b : Branch) : Type 0 where
  pub start : Within b.depth b.from b.bit
  pub to_small : b.to < 1024

abbrev pub AllInRange : List (Option Branch) → Type 0
AllInRange es = (i : ℕ) → i < length es → InRange (branch_at es i)

-- ---- the places of a line

abbrev pub start_at : List ℕ → ℕ → ℕ
start_at room i = get_or room (4 * i) 0

abbrev pub lead_at : List ℕ → ℕ → ℕ
lead_at room i = get_or room (4 * i + 1) 0

abbrev pub told_at : List ℕ → ℕ → ℕ
told_at room i = get_or room (4 * i + 2) 0

-- a branch in the places of a line, and all other lines' places as they were
pub record Put (room : List ℕ) (line : ℕ) (b : Branch) (room' : List ℕ) : Type 0 where
  pub size : length room' ≡ length room
  pub start : start_at room' line ≡ key_of b.depth b.from b.bit
  pub lead : lead_at room' line ≡ b.to
  pub others : (k : ℕ) → (k < 4 * line) ⊎ (4 * line + 4 ≤ k) → get_or room' k 0 ≡ get_or room k 0

-- the branches of the first m lines stand in their places
pub record Stored (es : List (Option Branch)) (m : ℕ) (room : List ℕ) : Type 0 where
  pub start : (i : ℕ) → i < m → start_at room i ≡ key_of (branch_at es i).depth (branch_at es i).from (branch_at es i).bit
  pub lead : (i : ℕ) → i < m → lead_at room i ≡ (branch_at es i).to

-- ---- the graph that the room holds

abbrev pub decoded : List ℕ → ℕ → Branch
decoded room i = record { depth = start_at room i / 2048; from = start_at room i / 2 % 1024; bit = start_at room i % 2; to = lead_at room i }

abbrev pub listed : ℕ → (ℕ → Branch) → List Branch
listed zero F = []
listed (suc m) F = F 0 ∷ listed m (λ i. F (suc i))

abbrev pub theirs : ℕ → ℕ → List ℕ → Graph
theirs n lines room = listed_graph n (listed lines (decoded room))

-- what stands in the room: branches in range and in order of depth, none of which repeats another
pub record Holds (n lines : ℕ) (room : List ℕ) : Type 0 where
  pub size : length room ≡ 4 * lines
  pub few : lines ≤ 1024
  pub short : n ≤ 64
  pub starts : (i : ℕ) → i < lines → start_at room i < n * 2048
  pub leads : (i : ℕ) → i < lines → lead_at room i < 1024
  pub order : (i j : ℕ) → i < j → j < lines → start_at room i / 2048 ≤ start_at room j / 2048
  pub apart : (i j : ℕ) → i < j → j < lines → start_at room i ≡ start_at room j → ⊥

-- ---- looking a branch up

abbrev pub key_test : List ℕ → ℕ → ℕ → Bool
key_test room key j = eqb (start_at room j) key

-- the line of the branch with a bit from a number
pub record LineFrom (room : List ℕ) (lines t u b : ℕ) (r : Option ℕ) : Type 0 where
  pub none : u ≡ 0 → r ≡ None
  pub some : (v : ℕ) → u ≡ suc v → FirstFound lines (key_test room (key_of t v b)) r
  pub there : (j : ℕ) → r ≡ Some j → j < lines

-- a line that is found has its four places
abbrev pub InRoom : List ℕ → Option ℕ → Type 0
InRoom room line = (j : ℕ) → line ≡ Some j → 4 * j + 4 ≤ length room

-- where the branch of a line leads, and what is told of it; 0 where there is no such line
abbrev pub lead_number : List ℕ → Option ℕ → ℕ
lead_number room (Some j) = suc (lead_at room j)
lead_number room None = 0

abbrev pub told_number : List ℕ → Option ℕ → ℕ
told_number room (Some j) = told_at room j
told_number room None = 0

-- what is told at a line is right
pub record ToldAt (g : Graph) (rows : List ℕ) (mask n : ℕ) (room : List ℕ) (j : ℕ) : Type 0 where
  pub tells : Tells g (ours rows mask) (n - suc (start_at room j / 2048)) (suc (start_at room j / 2048)) (suc (lead_at room j)) (told_at room j)

-- it is right at each line of a depth
abbrev pub ToldIn : ℕ → ℕ → List ℕ → ℕ → List ℕ → ℕ → Type 0
ToldIn n lines rows mask room t = (j : ℕ) → j < lines → start_at room j / 2048 ≡ t → ToldAt (theirs n lines room) rows mask n room j

-- it is right from a line on
abbrev pub ToldFrom : Graph → List ℕ → ℕ → ℕ → ℕ → List ℕ → ℕ → Type 0
ToldFrom g rows mask n lines room i = (j : ℕ) → i ≤ j → j < lines → ToldAt g rows mask n room j

-- the first two places of each line are as they were
pub record SameLines (lines : ℕ) (room room' : List ℕ) : Type 0 where
  pub size : length room' ≡ length room
  pub start : (i : ℕ) → i < lines → start_at room' i ≡ start_at room i
  pub lead : (i : ℕ) → i < lines → lead_at room' i ≡ lead_at room i

-- right from the first line on, of the branches that stood there
pub record AllTold (n lines : ℕ) (rows : List ℕ) (mask : ℕ) (room room' : List ℕ) : Type 0 where
  pub same : SameLines lines room room'
  pub told : ToldFrom (theirs n lines room) rows mask n lines room' 0
