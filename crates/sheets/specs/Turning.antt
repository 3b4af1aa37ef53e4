-- The cover's last word: with first what is listed stands in order of position, with last from the far end. It covers mask, rows, samples and printed words.
use Rattle.std.specs.Prelude.{ℤ, List, [], ◌∷◌, reverse}
use Rattle.sheets.specs.declared.Order.{Order}
use Rattle.sheets.specs.declared.Order.TheVariants.{First, Last}

module _ {A : Type 0} where
  -- what is listed, in order of position; turned twice it is as it was, so that it also gives what is in order of position as it is to be listed
  abbrev pub in_order : Order → List A → List A
  in_order First xs = xs
  in_order Last xs = reverse xs

-- the samples of each block line, in order of position
abbrev pub by_position : Order → List (List ℤ) → List (List ℤ)
by_position order [] = []
by_position order (listed ∷ blocks) = in_order order listed ∷ by_position order blocks
