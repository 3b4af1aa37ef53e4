-- A sheet by position as we print it, byte by byte: the cover, the mask where it is not zero, the rows, end.
use Rattle.std.specs.Prelude.{eqb, cond, ◌++◌, List, [], ◌∷◌, ℕ}
use Rattle.decoding.specs.Cosets.{taken_off}
use Rattle.listings.specs.Decimal.{decimal}
use Rattle.listings.specs.Lines.{line, positions}
use Rattle.plates.specs.declared.Kind.{Kind}
use Rattle.plates.specs.declared.Kind.TheVariants.{G, H}
use Rattle.plates.specs.declared.Plate.{Plate}
use Rattle.plates.specs.Prepare.{rows_of}
use Rattle.sheets.specs.Words.{cover, end, first, mask, row}

-- G (71) or H (72)
abbrev pub letter_of : Kind → ℕ
letter_of G = 71
letter_of H = 72

-- cover: n, G or H, first
unfoldable pub cover_line : Kind → ℕ → List ℕ
cover_line kind n = line cover (decimal n ∷ (letter_of kind ∷ []) ∷ first ∷ [])

-- mask: its first n positions, position 0 at the left; no line where it is zero
unfoldable pub mask_lines : ℕ → ℕ → List ℕ
mask_lines n word = cond (eqb word 0) [] (line mask (positions word 0 n ∷ []))

-- row: its first n positions
abbrev pub row_line : ℕ → ℕ → List ℕ
row_line n word = line row (positions word 0 n ∷ [])

-- one for each row
abbrev pub row_lines : ℕ → List ℕ → List ℕ
row_lines n [] = []
row_lines n (word ∷ words) = row_line n word ++ row_lines n words

-- the sheet of a matrix of length n and a mask
unfoldable pub sheet_text : Kind → ℕ → ℕ → List ℕ → List ℕ
sheet_text kind n word rows = cover_line kind n ++ (mask_lines n word ++ (row_lines n rows ++ line end []))

-- the sheet of a plate: its rows as G, and as mask what is left of the plate's mask once the rows are taken off
abbrev pub sheet_of : Plate → List ℕ
sheet_of plate = sheet_text G plate.n (taken_off (rows_of plate) plate.mask) (rows_of plate)
