-- Ways from a state to the end, section by section, and what is told of them.
use Rattle.std.specs.Prelude.{Bool, true, false, ◌↔◌, ◌≡◌, ◌%◌, ◌/◌, ◌<◌, ◌^◌, suc, zero, ℕ, ◌≤◌}
use Rattle.trellises.specs.Graph.{Graph, Has}
use Rattle.words.specs.Word.{Earlier}

-- a way through d sections from state v at depth t to state 0, which spells w: position 0 of w is position t
abbrev pub Way : Graph → ℕ → ℕ → ℕ → ℕ → Type 0
Way g zero t v w = (v ≡ 0) × (w ≡ 0)
Way g (suc d) t v w = (c : ℕ) × Has g t v (w % 2) c × Way g d (suc t) c (w / 2)

-- the same from a state or none: 0 is none, and each state is one more than its number
abbrev pub From : Graph → ℕ → ℕ → ℕ → ℕ → Type 0
From g d t zero w = ⊥
From g d t (suc v) w = Way g d t v w

-- the branch with bit b leads from u to u', or there is none
pub record Leads (g : Graph) (t u b u' : ℕ) : Type 0 where
  pub none : u ≡ 0 → u' ≡ 0
  pub all : (v c : ℕ) → u ≡ suc v → Has g t v b c → u' ≡ suc c
  pub some : (c : ℕ) → u' ≡ suc c → (v : ℕ) × (u ≡ suc v) × Has g t v b c

-- states that follow one another from the start to state v at depth t
pub record Chain (g : Graph) (t v : ℕ) : Type 0 where
  pub state : ℕ → ℕ
  pub digit : ℕ → ℕ
  pub start : state 0 ≡ 0
  pub here : state t ≡ v
  pub two : (i : ℕ) → i < t → digit i < 2
  pub has : (i : ℕ) → i < t → Has g i (state i) (digit i) (state (suc i))

-- the same ways from u of the one graph and from y of the other
abbrev pub Same : Graph → Graph → ℕ → ℕ → ℕ → ℕ → Type 0
Same A B d t u y = (w : ℕ) → From A d t u w ↔ From B d t y w

-- x is the number of the other graph that has the same ways as u, and none of its numbers where none has
pub record Tells (A B : Graph) (d t u x : ℕ) : Type 0 where
  pub to : (y : ℕ) → y ≤ B.states t → x ≡ y → Same A B d t u y
  pub from : (y : ℕ) → y ≤ B.states t → Same A B d t u y → x ≡ y

-- in the first and not in the second, or in the second and not in the first
abbrev pub Side : Bool → Type 0 → Type 0 → Type 0
Side true P Q = P × (Q → ⊥)
Side false P Q = Q × (P → ⊥)

-- r is among the ways from u and not among those from y, or the other way round, and each earlier word is among both or neither
pub record Differs (A B : Graph) (d t u y r : ℕ) (s : Bool) : Type 0 where
  pub below : r < 2 ^ d
  pub earlier : (w : ℕ) → Earlier w r → From A d t u w ↔ From B d t y w
  pub side : Side s (From A d t u r) (From B d t y r)
