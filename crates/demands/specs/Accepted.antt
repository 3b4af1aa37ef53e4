-- What is said of an accepted plate besides demands 1 to 3: the words of a code on one side of a depth, a code's parity-check matrices, and that
-- the numbers of a section say what a trellis has there.
use Rattle.std.specs.Prelude.{get_or, length, List, ◌↔◌, ◌≡◌, ◌<◌, ◌^◌, ℕ, ◌≤◌}
use Rattle.plates.specs.Code.{Checked}
use Rattle.trellises.specs.declared.Section.{Section}
use Rattle.trellises.specs.Graph.{Branch, Graph, branch_at}
use Rattle.trellises.specs.Numbers.{bit_of, branch_count, leads_to, leaves}
use Rattle.words.specs.Word.{bit}

-- the words of C that are zero from t on
abbrev pub ZeroFrom : (ℕ → Type 0) → ℕ → ℕ → Type 0
ZeroFrom C t w = C w × ((i : ℕ) → t ≤ i → bit w i ≡ 0)

-- the words of C that are zero before t
abbrev pub ZeroBefore : (ℕ → Type 0) → ℕ → ℕ → Type 0
ZeroBefore C t w = C w × ((i : ℕ) → i < t → bit w i ≡ 0)

-- a parity-check matrix of the code C of length n: n rows of that length, which check the words of C and no others
pub record ParityChecks (C : ℕ → Type 0) (n : ℕ) (checks : List ℕ) : Type 0 where
  pub count : length checks ≡ n
  pub below : (j : ℕ) → j < length checks → get_or checks j 0 < 2 ^ n
  pub same : (w : ℕ) → C w ↔ Checked n checks w

-- branch v of a section, by the section's numbers: the state that it leaves, its bit and the state that it leads to
abbrev pub branch_of : Section → ℕ → Branch
branch_of c v = record { from = leaves c v; out = bit_of c v; to = leads_to c v }

-- the numbers c say section t of the graph g: how many states, how many branches, and each branch in turn
pub record SaysSection (g : Graph) (t : ℕ) (c : Section) : Type 0 where
  pub states : g.states t ≡ 2 ^ c.live
  pub count : length (g.branches t) ≡ branch_count c
  pub branch : (v : ℕ) → v < branch_count c → branch_at g t v ≡ branch_of c v
