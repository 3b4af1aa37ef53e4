-- Values laid into a room: what then stands in it, and how they come there one after the other.
use Prim.Native.Nat.{ℕ, zero, suc, ◌≤◌}
use lib.ListN.{length, take, drop, set}
use mathlib.Core.List.{List, [], ◌∷◌}
use mathlib.Core.Path.{◌≡◌, refl, ap}
use native.Mathlib.Omega.{arith}
use Rattle.sheets.specs.Room.{laid}

module _ {A : Type 0} where
  -- the room keeps its size
  pub laid-size : (vs room : List A) → length (laid vs room) ≡ length room
  laid-size [] room = refl
  laid-size (v ∷ vs) [] = refl
  laid-size (v ∷ vs) (x ∷ room) = ap suc (laid-size vs room)

  -- where they fit, the values are what it begins with
  pub laid-front : (vs room : List A) → length vs ≤ length room → take (length vs) (laid vs room) ≡ vs
  laid-front [] room h = refl
  laid-front (v ∷ vs) [] h = absurd (omega arith)
  laid-front (v ∷ vs) (x ∷ room) h = ap (λ (r : List A). v ∷ r) (laid-front vs room (omega arith))

  -- the places after them stay as they were
  pub laid-rest : (vs room : List A) → drop (length vs) (laid vs room) ≡ drop (length vs) room
  laid-rest [] room = refl
  laid-rest (v ∷ vs) [] = refl
  laid-rest (v ∷ vs) (x ∷ room) = laid-rest vs room

  -- where they do not fit, the room holds as many as it has places
  pub laid-full : (vs room : List A) → length room ≤ length vs → laid vs room ≡ take (length room) vs
  laid-full [] [] h = refl
  laid-full [] (x ∷ room) h = absurd (omega arith)
  laid-full (v ∷ vs) [] h = refl
  laid-full (v ∷ vs) (x ∷ room) h = ap (λ (r : List A). v ∷ r) (laid-full vs room (omega arith))

  -- the values in the places from k on
  abbrev pub laid_from : ℕ → List A → List A → List A
  laid_from zero vs room = laid vs room
  laid_from (suc k) vs [] = []
  laid_from (suc k) vs (x ∷ room) = x ∷ laid_from k vs room

  pub laid_none : (k : ℕ) (room : List A) → laid_from k [] room ≡ room
  laid_none zero room = refl
  laid_none (suc k) [] = refl
  laid_none (suc k) (x ∷ room) = ap (λ (r : List A). x ∷ r) (laid_none k room)

  -- one value more
  pub laid_on : (k : ℕ) (v : A) (vs room : List A) → laid_from (suc k) vs (set room k v) ≡ laid_from k (v ∷ vs) room
  laid_on zero v vs [] = refl
  laid_on zero v vs (x ∷ room) = refl
  laid_on (suc k) v vs [] = refl
  laid_on (suc k) v vs (x ∷ room) = ap (λ (r : List A). x ∷ r) (laid_on k v vs room)
