-- Values laid into a room of places.
use Rattle.std.specs.Prelude.{List, [], ◌∷◌}

module _ {A : Type 0} where
  -- the values in the first places, in their order: a value beyond the last place is dropped, a place beyond the last value stays
  abbrev pub laid : List A → List A → List A
  laid [] room = room
  laid (v ∷ vs) [] = []
  laid (v ∷ vs) (x ∷ room) = v ∷ laid vs room
