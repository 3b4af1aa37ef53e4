-- Layered graphs, their full paths, and the words that the paths spell.
use Rattle.std.specs.Prelude.{ℕ, suc, ◌^◌, ◌≤◌, ◌<◌, length, get_or, List, ◌↔◌, ◌≡◌}
use Rattle.words.specs.Word.{bit}

-- a branch leaves a state with a bit for a state of the next depth
pub record Branch : Type 0 where
  pub from : ℕ
  pub out : ℕ
  pub to : ℕ

abbrev pub no_branch : Branch
no_branch = record { from = 0; out = 0; to = 0 }

-- how many states each depth has, and the branches of each section, which leads from its depth to the next; parallel and useless
-- branches are allowed
pub record Graph : Type 0 where
  pub states : ℕ → ℕ
  pub branches : ℕ → List Branch

-- the branch at a place of a section's list
abbrev pub branch_at : Graph → ℕ → ℕ → Branch
branch_at g t i = get_or (g.branches t) i no_branch

-- section t has a branch from a with bit b to c
pub record Has (g : Graph) (t a b c : ℕ) : Type 0 where
  pub place : ℕ
  pub there : place < length (g.branches t)
  pub leaves : (branch_at g t place).from ≡ a
  pub spells : (branch_at g t place).out ≡ b
  pub leads : (branch_at g t place).to ≡ c

-- A path through n sections that spells w: in each section a branch with w's bit, each beginning where the one before it ended
pub record Path (g : Graph) (n w : ℕ) : Type 0 where
  pub state : ℕ → ℕ
  pub inside : (t : ℕ) → t ≤ n → state t < g.states t
  pub branch : (t : ℕ) → t < n → Has g t (state t) (bit w t) (state (suc t))

-- the graph has one state at depth 0 and one at depth n, and its full paths spell exactly the words of C, which have length n
pub record Spells (g : Graph) (n : ℕ) (C : ℕ → Type 0) : Type 0 where
  pub start : g.states 0 ≡ 1
  pub end : g.states n ≡ 1
  pub exact : (w : ℕ) → C w ↔ ((w < 2 ^ n) × Path g n w)
