-- The surplus of a right listing over our trellis: states by depth and branches by section, those on full paths.
use Rattle.std.specs.Prelude.{get_or, length, replicate, List, ◌≡◌, ◌*◌, ◌+◌, ◌<◌, ◌^◌, ℕ, ◌≤◌, Result, Ok, Err}
use Rattle.plates.specs.declared.Refusal.{Refusal}
use Rattle.plates.specs.Profile.{live_at}
use Rattle.trellises.specs.Graph.{Graph, Path}
use Rattle.trellises.specs.Smallest.{active_at}
use Rattle.words.specs.Word.{bit}
use Rattle.judging.specs.declared.Judged.{Judged}
use Rattle.judging.specs.declared.Judged.TheVariants.{NotSpelled, Right, SpelledWrongly}

-- c numbers have the property P: a list of them without repetition, c long, has each
pub record Number (P : ℕ → Type 0) (c : ℕ) : Type 0 where
  pub list : List ℕ
  pub size : length list ≡ c
  pub each : (j : ℕ) → j < c → P (get_or list j 0)
  pub all : (x : ℕ) → P x → (j : ℕ) × (j < c) × (get_or list j 0 ≡ x)
  pub different : (i j : ℕ) → i < j → j < c → get_or list i 0 ≡ get_or list j 0 → ⊥

-- a state of depth t on a full path
pub record StateOn (g : Graph) (n t v : ℕ) : Type 0 where
  pub word : ℕ
  pub path : Path g n word
  pub here : path.state t ≡ v

-- a branch of section t on a full path, by the state that it leaves and its bit, as one number: no two branches share both
pub record BranchOn (g : Graph) (n t k : ℕ) : Type 0 where
  pub word : ℕ
  pub path : Path g n word
  pub here : path.state t * 2 + bit word t ≡ k

-- what stands by depth and by section is by how much those on full paths are more than ours, and 0 beyond
pub record SurplusOver (g : Graph) (n : ℕ) (rows states branches : List ℕ) : Type 0 where
  pub depths : length states ≡ 65
  pub sections : length branches ≡ 64
  pub state : (t : ℕ) → t ≤ n → Number (StateOn g n t) (2 ^ live_at rows t + get_or states t 0)
  pub branch : (t : ℕ) → t < n → Number (BranchOn g n t) (2 ^ active_at rows t + get_or branches t 0)
  pub no_depth : (t : ℕ) → n < t → get_or states t 0 ≡ 0
  pub no_section : (t : ℕ) → n ≤ t → get_or branches t 0 ≡ 0

-- a right listing has its surplus, and all others none
abbrev pub SurplusIn : Graph → ℕ → List ℕ → Result Judged Refusal → List ℕ → List ℕ → Type 0
SurplusIn g n rows (Ok Right) states branches = SurplusOver g n rows states branches
SurplusIn g n rows (Ok (SpelledWrongly w)) states branches = (states ≡ replicate 65 0) × (branches ≡ replicate 64 0)
SurplusIn g n rows (Ok (NotSpelled w)) states branches = (states ≡ replicate 65 0) × (branches ≡ replicate 64 0)
SurplusIn g n rows (Err q) states branches = (states ≡ replicate 65 0) × (branches ≡ replicate 64 0)
