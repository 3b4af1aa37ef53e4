-- Sheets on paper, read by the definitions: the paper's sheet, also with a mask, and sheets that meet several refusals, of which the first in order is given.
use Prim.Native.Nat.{ℕ, zero, suc}
use lib.IntN.{ℤ, pos, negsuc}
use mathlib.Core.Bool.{false}
use mathlib.Core.List.{List, [], ◌∷◌, ◌++◌}
use mathlib.Core.Path.{◌≡◌, refl}
use Rattle.plates.specs.declared.Kind.TheVariants.{G}
use Rattle.plates.specs.declared.Refusal.TheVariants.{FieldCount, FieldValue, FirstField, Length, RowField, SheetLine, TooManyRows}
use Rattle.sheets.specs.Words.{cover, mask, row, block, end, first, last}
use Rattle.sheets.specs.Covers.{cover_fields}
use Rattle.sheets.specs.Sheet.{contents, verdict, says, refused, reading, start_of}
use Rattle.sheets.specs.declared.Order.TheVariants.{First, Last}

-- ---- the lines

abbrev cover_line : List ℕ → List ℕ → List ℕ → List ℕ
cover_line n kind order = cover ++ 9 ∷ n ++ 9 ∷ kind ++ 9 ∷ order ++ 10 ∷ []

abbrev row_line : List ℕ → List ℕ
row_line f = row ++ 9 ∷ f ++ 10 ∷ []

abbrev mask_line : List ℕ → List ℕ
mask_line f = mask ++ 9 ∷ f ++ 10 ∷ []

abbrev line_of_end : List ℕ
line_of_end = end ++ 10 ∷ []

-- 11110000, 01011010, 00111100, 00001111
abbrev row_lines : List ℕ
row_lines =
    row_line (49 ∷ 49 ∷ 49 ∷ 49 ∷ 48 ∷ 48 ∷ 48 ∷ 48 ∷ [])
    ++ row_line (48 ∷ 49 ∷ 48 ∷ 49 ∷ 49 ∷ 48 ∷ 49 ∷ 48 ∷ [])
    ++ row_line (48 ∷ 48 ∷ 49 ∷ 49 ∷ 49 ∷ 49 ∷ 48 ∷ 48 ∷ [])
    ++ row_line (48 ∷ 48 ∷ 48 ∷ 48 ∷ 49 ∷ 49 ∷ 49 ∷ 49 ∷ [])

-- -3 -2 4 -1 5 6 -1 7
abbrev block_line : List ℕ
block_line = block ++ 9 ∷ 45 ∷ 51 ∷ 9 ∷ 45 ∷ 50 ∷ 9 ∷ 52 ∷ 9 ∷ 45 ∷ 49 ∷ 9 ∷ 53 ∷ 9 ∷ 54 ∷ 9 ∷ 45 ∷ 49 ∷ 9 ∷ 55 ∷ 10 ∷ []

abbrev samples : List ℤ
samples = negsuc 2 ∷ negsuc 1 ∷ pos 4 ∷ negsuc 0 ∷ pos 5 ∷ pos 6 ∷ negsuc 0 ∷ pos 7 ∷ []

abbrev turned_samples : List ℤ
turned_samples = pos 7 ∷ negsuc 0 ∷ pos 6 ∷ pos 5 ∷ negsuc 0 ∷ pos 4 ∷ negsuc 1 ∷ negsuc 2 ∷ []

abbrev sheet : List ℕ → List ℕ
sheet order = cover_line (56 ∷ []) (71 ∷ []) order ++ row_lines ++ block_line ++ line_of_end

-- n = 1, and k rows
abbrev rows_only : ℕ → List ℕ
rows_only zero = []
rows_only (suc k) = row_line (49 ∷ []) ++ rows_only k

-- ---- the paper's sheet

with_first : reading (sheet first) ≡ says (record {
  n = 8;
  kind = G;
  order = First;
  mask = 0;
  rows = 15 ∷ 90 ∷ 60 ∷ 240 ∷ [];
  heard = false;
  blocks = samples ∷ [];
  counters = 0 ∷ [];
})
unfolding verdict contents cover_fields
with_first = refl

-- with last its rows are turned, and so are its samples
with-last : reading (sheet last) ≡ says (record {
  n = 8;
  kind = G;
  order = Last;
  mask = 0;
  rows = 240 ∷ 90 ∷ 60 ∷ 15 ∷ [];
  heard = false;
  blocks = turned_samples ∷ [];
  counters = 0 ∷ [];
})
unfolding verdict contents cover_fields
with-last = refl

block-place : start_of (sheet first) (contents (sheet first)) ≡ 68
unfolding contents cover_fields
block-place = refl

-- ---- the paper's sheet with the mask 11010000

abbrev masked : List ℕ → List ℕ
masked order = cover_line (56 ∷ []) (71 ∷ []) order ++ mask_line (49 ∷ 49 ∷ 48 ∷ 49 ∷ 48 ∷ 48 ∷ 48 ∷ 48 ∷ []) ++ row_lines ++ block_line ++ line_of_end

masked-first : reading (masked first) ≡ says (record {
  n = 8;
  kind = G;
  order = First;
  mask = 11;
  rows = 15 ∷ 90 ∷ 60 ∷ 240 ∷ [];
  heard = false;
  blocks = samples ∷ [];
  counters = 0 ∷ [];
})
unfolding verdict contents cover_fields
masked-first = refl

-- with last it is turned as the rows are
masked-last : reading (masked last) ≡ says (record {
  n = 8;
  kind = G;
  order = Last;
  mask = 208;
  rows = 240 ∷ 90 ∷ 60 ∷ 15 ∷ [];
  heard = false;
  blocks = turned_samples ∷ [];
  counters = 0 ∷ [];
})
unfolding verdict contents cover_fields
masked-last = refl

-- its line takes 14 bytes
masked-place : start_of (masked first) (contents (masked first)) ≡ 82
unfolding contents cover_fields
masked-place = refl

-- ---- refusals of a mask

abbrev cover1 : List ℕ
cover1 = cover_line (49 ∷ []) (71 ∷ []) first

-- a second one, and one after a row, a block or end
second-mask : reading (cover1 ++ mask_line (49 ∷ []) ++ mask_line (49 ∷ []) ++ line_of_end) ≡ refused (FirstField 3)
unfolding verdict contents cover_fields
second-mask = refl

mask-after-row : reading (cover1 ++ row_line (49 ∷ []) ++ mask_line (49 ∷ []) ++ line_of_end) ≡ refused (FirstField 3)
unfolding verdict contents cover_fields
mask-after-row = refl

mask-after-block : reading (cover1 ++ mask_line (49 ∷ []) ++ block ++ 10 ∷ [] ++ mask_line (49 ∷ []) ++ line_of_end) ≡ refused (FirstField 4)
unfolding verdict contents cover_fields
mask-after-block = refl

mask-after-end : reading (cover1 ++ line_of_end ++ mask_line (49 ∷ [])) ≡ refused (FirstField 3)
unfolding verdict contents cover_fields
mask-after-end = refl

-- and one before the cover
mask-before-cover : reading (mask_line (49 ∷ []) ++ cover1 ++ line_of_end) ≡ refused (FirstField 1)
unfolding verdict contents cover_fields
mask-before-cover = refl

-- no field after the word; a field too many and a character that is no bit
mask-alone : reading (cover1 ++ mask ++ 10 ∷ [] ++ line_of_end) ≡ refused (FieldCount 2 2)
unfolding verdict contents cover_fields
mask-alone = refl

mask-fields : reading (cover1 ++ mask ++ 9 ∷ 50 ∷ 9 ∷ 10 ∷ [] ++ line_of_end) ≡ refused (FieldCount 2 3)
unfolding verdict contents cover_fields
mask-fields = refl

-- a character that is no bit; two characters where n is 1
mask-character : reading (cover1 ++ mask_line (50 ∷ []) ++ line_of_end) ≡ refused (RowField 2 2)
unfolding verdict contents cover_fields
mask-character = refl

mask-length : reading (cover1 ++ mask_line (49 ∷ 49 ∷ []) ++ line_of_end) ≡ refused (RowField 2 2)
unfolding verdict contents cover_fields
mask-length = refl

-- not ended
mask-open : reading (cover1 ++ mask ++ 9 ∷ 49 ∷ []) ≡ refused (SheetLine 2)
unfolding verdict contents cover_fields
mask-open = refl

-- the mask's line is counted: the end is missing at line 4
after-mask : reading (cover1 ++ mask_line (49 ∷ []) ++ row_line (49 ∷ [])) ≡ refused (SheetLine 4)
unfolding verdict contents cover_fields
after-mask = refl

-- ---- refusals in their order

empty-input : reading [] ≡ refused (SheetLine 1)
unfolding verdict contents
empty-input = refl

-- the form of the cover, K for G or H, comes before n is 0
form-before-length : reading (cover_line (48 ∷ []) (75 ∷ []) first ++ line_of_end) ≡ refused (FieldValue 1 3)
unfolding verdict contents cover_fields
form-before-length = refl

-- n is 0 comes before the missing end
length-before-line : reading (cover_line (48 ∷ []) (71 ∷ []) first) ≡ refused Length
unfolding verdict contents cover_fields
length-before-line = refl

missing-end : reading (cover_line (49 ∷ []) (71 ∷ []) first) ≡ refused (SheetLine 2)
unfolding verdict contents cover_fields
missing-end = refl

-- a row after a block is out of its turn
row-after-block : reading (cover_line (56 ∷ []) (71 ∷ []) first ++ block_line ++ row_lines ++ line_of_end) ≡ refused (FirstField 3)
unfolding verdict contents cover_fields
row-after-block = refl

-- something after end
after-the-end : reading (sheet first ++ 10 ∷ []) ≡ refused (FirstField 8)
unfolding verdict contents cover_fields
after-the-end = refl

-- a bad line comes before too many rows
line-before-rows : reading (cover_line (49 ∷ []) (71 ∷ []) first ++ rows_only 65) ≡ refused (SheetLine 67)
unfolding verdict contents cover_fields
line-before-rows = refl

too_many_rows : reading (cover_line (49 ∷ []) (71 ∷ []) first ++ rows_only 65 ++ line_of_end) ≡ refused TooManyRows
unfolding verdict contents cover_fields
too_many_rows = refl

-- ---- several faults in one line: the lowest number, then the lowest field

-- that a line is not ended comes before its unknown word
unended-before-word : reading (cover_line (49 ∷ []) (71 ∷ []) first ++ 120 ∷ []) ≡ refused (SheetLine 2)
unfolding verdict contents cover_fields
unended-before-word = refl

-- a row after a block that has a field too many and a character that is no bit
turn-before-count : reading (cover_line (49 ∷ []) (71 ∷ []) first ++ block ++ 10 ∷ [] ++ row ++ 9 ∷ 50 ∷ 9 ∷ 10 ∷ [] ++ line_of_end) ≡ refused (FirstField 3)
unfolding verdict contents cover_fields
turn-before-count = refl

-- a row with a field too many and a character that is no bit
count-before-row : reading (cover_line (49 ∷ []) (71 ∷ []) first ++ row ++ 9 ∷ 50 ∷ 9 ∷ 10 ∷ [] ++ line_of_end) ≡ refused (FieldCount 2 3)
unfolding verdict contents cover_fields
count-before-row = refl

-- a cover without its order, and with K for G or H
count-before-value : reading (cover ++ 9 ∷ 49 ∷ 9 ∷ 75 ∷ 10 ∷ []) ≡ refused (FieldCount 1 4)
unfolding verdict contents cover_fields
count-before-value = refl

-- a cover with a leading zero, K for G or H, and row for an order: the lowest field
lowest-field : reading (cover_line (48 ∷ 49 ∷ []) (75 ∷ []) row) ≡ refused (FieldValue 1 2)
unfolding verdict contents cover_fields
lowest-field = refl

-- a row of one character where n is 1, but the character is 2; and one of two characters
row-character : reading (cover_line (49 ∷ []) (71 ∷ []) first ++ row_line (50 ∷ [])) ≡ refused (RowField 2 2)
unfolding verdict contents cover_fields
row-character = refl

row-length : reading (cover_line (49 ∷ []) (71 ∷ []) first ++ row_line (49 ∷ 49 ∷ [])) ≡ refused (RowField 2 2)
unfolding verdict contents cover_fields
row-length = refl

-- a block keeps 6 for its sample count; a minus before 0 is its third field
sample-form : reading (cover_line (49 ∷ []) (71 ∷ []) first ++ block ++ 9 ∷ 49 ∷ 9 ∷ 45 ∷ 48 ∷ 10 ∷ [] ++ line_of_end) ≡ refused (FieldValue 2 3)
unfolding verdict contents cover_fields
sample-form = refl

-- the lowest line, whatever the number
lowest-line : reading (cover_line (49 ∷ []) (71 ∷ []) first ++ row_line (50 ∷ []) ++ 10 ∷ []) ≡ refused (RowField 2 2)
unfolding verdict contents cover_fields
lowest-line = refl
