-- What demand 1 says of a call: it refuses exactly under its conditions, and these have the paper's numbers in order.
use Rattle.std.specs.Prelude.{List, [], ◌∷◌, ◌↔◌, ◌≡◌, ℕ, Result, Err}
use Rattle.plates.specs.declared.Refusal.{Refusal}
use Rattle.plates.specs.Refusals.{Refuses, number}

-- a reply is refused exactly under the conditions, with the refusal of the first that holds
abbrev pub RefusesExactly : {R : Type 0} → (Refusal → R) → List (Refusal → Type 0) → R → Type 0
RefusesExactly refused conditions reply = (q : Refusal) → (reply ≡ refused q) ↔ Refuses conditions q

-- the conditions, in order, refuse with these numbers
abbrev pub Numbered : List (Refusal → Type 0) → List ℕ → Type 0
Numbered [] [] = Unit {0}
Numbered [] (i ∷ is) = ⊥
Numbered (c ∷ cs) [] = ⊥
Numbered (c ∷ cs) (i ∷ is) = ((q : Refusal) → c q → number q ≡ i) × Numbered cs is

-- what is said of a call that writes: refused exactly under the conditions, and then the room is as it was
abbrev pub WriteRefuses : List (Refusal → Type 0) → List ℕ → Result ℕ Refusal → List ℕ → Type 0
WriteRefuses conditions room r room' = RefusesExactly Err conditions r × ((q : Refusal) → r ≡ Err q → room' ≡ room)
