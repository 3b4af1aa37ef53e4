-- What is claimed of a trellis of a code: each codeword has one path, and no layered graph for the code is smaller.
use Rattle.std.specs.Prelude.{get_or, length, List, ◌≡◌, ◌<◌, ℕ, ◌≤◌}
use Rattle.trellises.specs.Graph.{Branch, Graph, Path, Spells, branch_at, no_branch}
use Rattle.trellises.specs.States.{active}
use Rattle.words.specs.Choice.{count}
use Rattle.words.specs.Ends.{firsts, lasts}

-- p and q take the same branch in every section, and so stand in the same state at every depth
pub record SamePath (g : Graph) (n w : ℕ) (p q : Path g n w) : Type 0 where
  pub branches : (t : ℕ) (h : t < n) → (p.branch t h).place ≡ (q.branch t h).place
  pub states : (t : ℕ) → t ≤ n → p.state t ≡ q.state t

-- the branches of section t are all different
abbrev pub Different : Graph → ℕ → Type 0
Different g t = (i j : ℕ) → i < length (g.branches t) → j < length (g.branches t) → branch_at g t i ≡ branch_at g t j → i ≡ j

-- a list that has every branch of section t, such as the list that has each of them once
abbrev pub HasAll : Graph → ℕ → List Branch → Type 0
HasAll g t once = (i : ℕ) → i < length (g.branches t) → (j : ℕ) × (j < length once) × (get_or once j no_branch ≡ branch_at g t i)

-- The full paths of g spell exactly the words of C, each by one path; and every other layered graph whose full paths spell them has at
-- least g's states at each depth, and at least g's branches in each section, which are all different, counting each of its own once
pub record Smallest (g : Graph) (n : ℕ) (C : ℕ → Type 0) : Type 0 where
  pub spells : Spells g n C
  pub once : (w : ℕ) (p q : Path g n w) → SamePath g n w p q
  pub different : (t : ℕ) → Different g t
  pub states_least : (other : Graph) → Spells other n C → (t : ℕ) → t ≤ n → g.states t ≤ other.states t
  pub branches_least : (other : Graph) → Spells other n C → (t : ℕ) → t < n → (once : List Branch) → HasAll other t once
      → length (g.branches t) ≤ length once

-- how many rows are active in section t
abbrev pub active_at : List ℕ → ℕ → ℕ
active_at rows t = count (length rows) (active (firsts rows) (lasts rows) t)

-- a row begins at t
pub record Begins (rows : List ℕ) (t : ℕ) : Type 0 where
  pub row : ℕ
  pub there : row < length rows
  pub here : firsts rows row ≡ t

-- A proper trellis: one state at depth 0, every state and every branch on some full path, and no two branches with the same initial state
-- and bit
pub record Proper (g : Graph) (n : ℕ) : Type 0 where
  pub root : g.states 0 ≡ 1
  pub state_used : (t s : ℕ) → t ≤ n → s < g.states t → (w : ℕ) × (p : Path g n w) × (p.state t ≡ s)
  pub branch_used : (t i : ℕ) (h : t < n) → i < length (g.branches t) → (w : ℕ) × (p : Path g n w) × ((p.branch t h).place ≡ i)
  pub parted : (t i j : ℕ) → i < length (g.branches t) → j < length (g.branches t)
      → (branch_at g t i).from ≡ (branch_at g t j).from → (branch_at g t i).out ≡ (branch_at g t j).out → i ≡ j
