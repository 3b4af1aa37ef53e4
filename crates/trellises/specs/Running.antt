-- Asking for the branches of a word's bits in turn, from state 0 at depth 0.
use Rattle.std.specs.Prelude.{◌≡◌, ◌<◌, suc, ℕ, Ok, Some, None}
use Rattle.plates.specs.declared.Plate.{Plate}
use Rattle.trellises.specs.Branching.{Branches}
use Rattle.words.specs.Word.{bit}

-- After t questions, each answered by a state, we stand in state s: question i asks, at depth i, for w's bit there, from the state that
-- the question before it was answered by
pub record Runs (plate : Plate) (w t s : ℕ) : Type 0 where
  pub state : ℕ → ℕ
  pub begins : state 0 ≡ 0
  pub answers : (i : ℕ) → i < t → Branches plate i (state i) (bit w i) (Ok (Some (state (suc i))))
  pub ends : state t ≡ s

-- a question on the way is answered by "no branch"
pub record Stops (plate : Plate) (w : ℕ) : Type 0 where
  pub depth : ℕ
  pub within : depth < plate.n
  pub state : ℕ
  pub run : Runs plate w depth state
  pub answer : Branches plate depth state (bit w depth) (Ok None)
