-- Some of the rows of a list, named by the bits of a number.
use Rattle.std.specs.Prelude.{ℕ, ◌/◌, ◌%◌, eqb, List, [], ◌∷◌}
use Rattle.trellises.specs.SectionOf.{keep}

-- the rows whose bit in `which` is 1, in order: bit j names row j, and bits at or beyond the number of rows mean nothing
abbrev pub rows_among : List ℕ → ℕ → List ℕ
rows_among [] which = []
rows_among (row ∷ rows) which = keep (eqb (which % 2) 1) row (rows_among rows (which / 2))
