-- A word as it is printed on a sheet's listing: with first position 0 at the left, with last at the right.
use Rattle.std.specs.Prelude.{ℕ, reverse}
use Rattle.listings.specs.Lines.{positions}
use Rattle.sheets.specs.Rows.{word_from}
use Rattle.sheets.specs.declared.Order.{Order}
use Rattle.sheets.specs.declared.Order.TheVariants.{First, Last}

-- the word whose first n positions, printed with position 0 at the left, are those of the word in the cover's order
abbrev pub printed_as : Order → ℕ → ℕ → ℕ
printed_as First n word = word
printed_as Last n word = word_from (reverse (positions word 0 n))
