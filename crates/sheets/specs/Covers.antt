-- The cover: n, G or H, and first or last.
use Rattle.std.specs.Prelude.{ℕ, cond, List, [], ◌∷◌, Option, Some, None, Result, Ok, Err}
use Rattle.plates.specs.declared.Kind.{Kind}
use Rattle.sheets.specs.declared.Order.{Order}
use Rattle.plates.specs.declared.Kind.TheVariants.{G, H}
use Rattle.sheets.specs.Numbers.{number_of}
use Rattle.sheets.specs.Words.{same, first, last, word_of}
use Rattle.sheets.specs.declared.Order.TheVariants.{First, Last}
use Rattle.sheets.specs.declared.word.Word.{Word}
use Rattle.sheets.specs.declared.word.Word.TheVariants as W
use Rattle.sheets.specs.declared.cover.Cover.{Cover}
use Rattle.sheets.specs.declared.line.Fault.{Fault}
use Rattle.sheets.specs.declared.line.Fault.TheVariants.{Turn, Count, Value}

-- G (71) or H (72)
abbrev pub kind_of : List ℕ → Option Kind
kind_of f = cond (same f (71 ∷ [])) (Some G) (cond (same f (72 ∷ [])) (Some H) None)

-- first or last
abbrev pub order_of : List ℕ → Option Order
order_of f = cond (same f first) (Some First) (cond (same f last) (Some Last) None)

-- the three fields after the word: the first that is bad, or the cover
abbrev pub cover_is : Option ℕ → Option Kind → Option Order → Result Cover Fault
cover_is None kind order = Err (Value 2)
cover_is (Some n) None order = Err (Value 3)
cover_is (Some n) (Some kind) None = Err (Value 4)
cover_is (Some n) (Some kind) (Some order) = Ok (record { n = n; kind = kind; order = order })

-- by their fields; n has one to three digits
unfoldable pub cover_fields : List ℕ → List ℕ → List ℕ → Result Cover Fault
cover_fields f g h = cover_is (number_of 3 f) (kind_of g) (order_of h)

-- exactly three fields after the word
abbrev pub cover_rest : List (List ℕ) → Result Cover Fault
cover_rest [] = Err (Count 2)
cover_rest (f ∷ []) = Err (Count 3)
cover_rest (f ∷ g ∷ []) = Err (Count 4)
cover_rest (f ∷ g ∷ h ∷ []) = cover_fields f g h
cover_rest (f ∷ g ∷ h ∷ i ∷ fs) = Err (Count 5)

-- another word than cover is out of its turn
abbrev pub cover_by : Word → List (List ℕ) → Result Cover Fault
cover_by W.Cover fs = cover_rest fs
cover_by W.Mask fs = Err Turn
cover_by W.Row fs = Err Turn
cover_by W.Block fs = Err Turn
cover_by W.Heard fs = Err Turn
cover_by W.End fs = Err Turn
cover_by W.Other fs = Err Turn

-- a line by its fields: the first decides
abbrev pub cover_of : List (List ℕ) → Result Cover Fault
cover_of [] = Err Turn
cover_of (w ∷ fs) = cover_by (word_of w) fs
