-- A sheet turned: the mask and every row and block reversed, and the samples of every heard line, under the other word of the cover.
use Rattle.std.specs.Prelude.{ℕ, cond, List, [], ◌∷◌, ◌++◌, reverse, ◌≡◌}
use Rattle.sheets.specs.Text.{tab, line_feed, fields, lines}
use Rattle.sheets.specs.Words.{same, first, last, word_of}
use Rattle.sheets.specs.Sheet.{Contents}
use Rattle.sheets.specs.declared.Order.{Order}
use Rattle.sheets.specs.declared.Order.TheVariants.{First, Last}
use Rattle.sheets.specs.declared.word.Word.{Word}
use Rattle.sheets.specs.declared.word.Word.TheVariants.{Cover, Mask, Row, Block, Heard, End, Other}

-- first for last, and last for first
abbrev pub other_word : List ℕ → List ℕ
other_word f = cond (same f first) last (cond (same f last) first f)

-- the fields after cover: n, the kind, and the other word
abbrev pub cover_turned : List (List ℕ) → List (List ℕ)
cover_turned [] = []
cover_turned (f ∷ []) = f ∷ []
cover_turned (f ∷ g ∷ []) = f ∷ g ∷ []
cover_turned (f ∷ g ∷ h ∷ fs) = f ∷ g ∷ other_word h ∷ fs

-- the field after row or mask, its characters from the far end
abbrev pub row_turned : List (List ℕ) → List (List ℕ)
row_turned [] = []
row_turned (f ∷ fs) = reverse f ∷ fs

-- the fields after heard: the counter, and those after it from the far end
abbrev pub heard_turned : List (List ℕ) → List (List ℕ)
heard_turned [] = []
heard_turned (f ∷ fs) = f ∷ reverse fs

-- the fields after a word: those after block from the far end, each as it is
abbrev pub rest_turned : Word → List (List ℕ) → List (List ℕ)
rest_turned Cover fs = cover_turned fs
rest_turned Mask fs = row_turned fs
rest_turned Row fs = row_turned fs
rest_turned Block fs = reverse fs
rest_turned Heard fs = heard_turned fs
rest_turned End fs = fs
rest_turned Other fs = fs

-- the fields of a line
abbrev pub fields_turned : List (List ℕ) → List (List ℕ)
fields_turned [] = []
fields_turned (w ∷ fs) = w ∷ rest_turned (word_of w) fs

-- line by line, the fields of the second text are those of the first, turned
abbrev pub LinesTurned : List (List ℕ) → List (List ℕ) → Type 0
LinesTurned [] [] = Unit {0}
LinesTurned [] (m ∷ ms) = ⊥
LinesTurned (l ∷ ls) [] = ⊥
LinesTurned (l ∷ ls) (m ∷ ms) = (fields m ≡ fields_turned (fields l)) × LinesTurned ls ms

-- t is the sheet s with its mask and every row and block reversed, under the other word
pub record IsTurned (s t : List ℕ) : Type 0 where
  pub turned : LinesTurned (lines s) (lines t)

-- parts with b between them
abbrev pub joined_by : ℕ → List (List ℕ) → List ℕ
joined_by b [] = []
joined_by b (p ∷ []) = p
joined_by b (p ∷ q ∷ ps) = p ++ b ∷ joined_by b (q ∷ ps)

-- each line with its fields turned
abbrev pub lines_turned : List (List ℕ) → List (List ℕ)
lines_turned [] = []
lines_turned (l ∷ ls) = joined_by tab (fields_turned (fields l)) ∷ lines_turned ls

-- the text of the turned sheet
abbrev pub text_turned : List ℕ → List ℕ
text_turned s = joined_by line_feed (lines_turned (lines s))

-- the other order
abbrev pub other : Order → Order
other First = Last
other Last = First

-- the same contents under the other order: n, kind, mask, rows and blocks, these by position, and the counters are the same
abbrev pub under_other : Contents → Contents
under_other c = record {
  n = c.n;
  kind = c.kind;
  order = other c.order;
  mask = c.mask;
  rows = c.rows;
  heard = c.heard;
  blocks = c.blocks;
  counters = c.counters;
}
