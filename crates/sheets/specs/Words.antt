-- The words of a sheet, by their letters.
use Rattle.std.specs.Prelude.{ℕ, eqb, Bool, true, false, cond, List, [], ◌∷◌}
use Rattle.words.specs.Letters.{bytes}
use Rattle.sheets.specs.declared.word.Word.{Word}
use Rattle.sheets.specs.declared.word.Word.TheVariants.{Cover, Mask, Row, Block, Heard, End, Other}

-- whether two texts are the same
abbrev pub same : List ℕ → List ℕ → Bool
same [] [] = true
same [] (y ∷ ys) = false
same (x ∷ xs) [] = false
same (x ∷ xs) (y ∷ ys) = cond (eqb x y) (same xs ys) false

abbrev pub cover : List ℕ
cover = bytes "cover"

abbrev pub mask : List ℕ
mask = bytes "mask"

abbrev pub row : List ℕ
row = bytes "row"

abbrev pub block : List ℕ
block = bytes "block"

abbrev pub heard : List ℕ
heard = bytes "heard"

abbrev pub end : List ℕ
end = bytes "end"

abbrev pub first : List ℕ
first = bytes "first"

abbrev pub last : List ℕ
last = bytes "last"

-- which of the six words a line's first field is
abbrev pub word_of : List ℕ → Word
word_of f =
    cond (same f cover) Cover
    (cond (same f mask) Mask (cond (same f row) Row (cond (same f block) Block (cond (same f heard) Heard (cond (same f end) End Other)))))
