-- A block line: the word block and any number of samples, here as they are listed. A heard line is a block line with a counter before its
-- samples: the word heard, a counter and any number of samples. A sheet has lines of one of these words.
use Rattle.sheets.specs.declared.SampleLine.{SampleLine}
use Rattle.sheets.specs.Made.{sample_line_of}
use Rattle.std.specs.Prelude.{ℕ, zero, suc, ◌+◌, ℤ, pos, ltb, length, drop, Bool, true, false, cond, List, [], ◌∷◌, ◌≡◌, Option, Some, None, Result, Ok, Err}
use Rattle.sheets.specs.Text.{fields, lines_from, begins}
use Rattle.sheets.specs.Numbers.{counter_of, is_number, sample_of, worth}
use Rattle.sheets.specs.Words.{word_of}
use Rattle.sheets.specs.Turning.{in_order}
use Rattle.sheets.specs.Room.{laid}
use Rattle.sheets.specs.declared.Order.{Order}
use Rattle.sheets.specs.declared.word.Word.{Word}
use Rattle.sheets.specs.declared.word.Word.TheVariants.{Cover, Mask, Row, Block, Heard, End, Other}

-- whether a field was a sample
abbrev pub is_sample : Option ℤ → Bool
is_sample (Some v) = true
is_sample None = false

-- its value, where it was
abbrev pub value_of : Option ℤ → ℤ
value_of (Some v) = v
value_of None = pos 0

-- the fields from the first sample on, k samples standing before: how many samples in all, or the first field that is none, field `lead` being
-- the first sample
abbrev pub samples_of : ℕ → ℕ → List (List ℕ) → Result ℕ ℕ
samples_of lead k [] = Ok k
samples_of lead k (f ∷ fs) = cond (is_sample (sample_of f)) (samples_of lead (k + 1) fs) (Err (k + lead))

-- the samples of such fields, as listed
abbrev pub values_of : List (List ℕ) → List ℤ
values_of [] = []
values_of (f ∷ fs) = value_of (sample_of f) ∷ values_of fs

-- the fields after heard: a counter, which is field 2, and samples
abbrev pub heard_rest : List (List ℕ) → Result ℕ ℕ
heard_rest [] = Err 2
heard_rest (f ∷ fs) = cond (is_number (counter_of f)) (samples_of 3 0 fs) (Err 2)

-- the first field decides: another word than block, or than heard on a sheet of heard lines, is field 1
abbrev pub block_by : Bool → Word → List (List ℕ) → Result ℕ ℕ
block_by heard Cover fs = Err 1
block_by heard Mask fs = Err 1
block_by heard Row fs = Err 1
block_by false Block fs = samples_of 2 0 fs
block_by true Block fs = Err 1
block_by false Heard fs = Err 1
block_by true Heard fs = heard_rest fs
block_by heard End fs = Err 1
block_by heard Other fs = Err 1

-- a line by its fields: the word block and samples, or the word heard, a counter and samples
abbrev pub block_line : Bool → List (List ℕ) → Result ℕ ℕ
block_line heard [] = Err 1
block_line heard (w ∷ fs) = block_by heard (word_of w) fs

-- the samples of the fields after the word, as listed
abbrev pub values_after : Bool → List (List ℕ) → List ℤ
values_after false fs = values_of fs
values_after true fs = values_of (drop 1 fs)

-- and of all its fields
abbrev pub listed_in : Bool → List (List ℕ) → List ℤ
listed_in heard fs = values_after heard (drop 1 fs)

-- the counter of the fields after a word: 0 where there is none
abbrev pub counter_by : Word → List (List ℕ) → ℕ
counter_by Cover fs = 0
counter_by Mask fs = 0
counter_by Row fs = 0
counter_by Block fs = 0
counter_by Heard [] = 0
counter_by Heard (f ∷ fs) = worth (counter_of f)
counter_by End fs = 0
counter_by Other fs = 0

-- of a line by its fields
abbrev pub counter_in : List (List ℕ) → ℕ
counter_in [] = 0
counter_in (w ∷ fs) = counter_by (word_of w) fs

-- a block line with its samples, or none
pub data BlockFound : Type 0 where
  block : List ℤ → BlockFound
  no_block : BlockFound

-- the line is a block where each field is a sample
abbrev pub samples_found : Result ℕ ℕ → List ℤ → BlockFound
samples_found (Ok k) vs = block vs
samples_found (Err f) vs = no_block

-- the block line at the front of some lines; what follows the last line feed is no line
abbrev pub block_front : Bool → List (List ℕ) → BlockFound
block_front heard [] = no_block
block_front heard (l ∷ []) = no_block
block_front heard (l ∷ m ∷ ls) = samples_found (block_line heard (fields l)) (listed_in heard (fields l))

-- one block line more, or no more
abbrev pub block_then : BlockFound → List (List ℤ) → List (List ℤ)
block_then (block vs) bs = vs ∷ bs
block_then no_block bs = []

-- the samples of each block line at the front of some lines
abbrev pub blocks_of : Bool → List (List ℕ) → List (List ℤ)
blocks_of heard [] = []
blocks_of heard (l ∷ ls) = block_then (block_front heard (l ∷ ls)) (blocks_of heard ls)

-- the counters of the first k of some lines
abbrev pub counters_of : ℕ → List (List ℕ) → List ℕ
counters_of zero ls = []
counters_of (suc k) [] = []
counters_of (suc k) (l ∷ ls) = counter_in (fields l) ∷ counters_of k ls

-- whether the first of some lines begins with heard, so that the lines there are heard lines
abbrev pub is_heard : Word → Bool
is_heard Cover = false
is_heard Mask = false
is_heard Row = false
is_heard Block = false
is_heard Heard = true
is_heard End = false
is_heard Other = false

abbrev pub heard_line : List (List ℕ) → Bool
heard_line [] = false
heard_line (w ∷ fs) = is_heard (word_of w)

abbrev pub heard_front : List (List ℕ) → Bool
heard_front [] = false
heard_front (l ∷ ls) = heard_line (fields l)

-- ---- the block line at a place of the input

-- the block line that begins at a place
abbrev pub block_at : Bool → List ℕ → ℕ → BlockFound
block_at heard s at = block_front heard (lines_from s at)

-- the counter of the first of some lines
abbrev pub counter_front : List (List ℕ) → ℕ
counter_front [] = 0
counter_front (l ∷ ls) = counter_in (fields l)

-- the counter of the line that begins at a place
abbrev pub counter_at : List ℕ → ℕ → ℕ
counter_at s at = counter_front (lines_from s at)

-- where the line after that begins
abbrev pub next_line : List ℕ → ℕ → ℕ
next_line s at = at + begins (lines_from s at) 1

-- where reading k block lines from a place leads
abbrev pub block_place : List ℕ → ℕ → ℕ → ℕ
block_place s at zero = at
block_place s at (suc k) = block_place s (next_line s at) k

-- the reply for what was found, the next line beginning at `next`
abbrev pub block_reply : ℕ → BlockFound → Option SampleLine
block_reply next (block vs) = Some (sample_line_of (length vs) next)
block_reply next no_block = None

-- listed samples into their places by position; more than 64, which no length permits, are left out
abbrev pub placed : Order → List ℤ → List ℤ → List ℤ
placed order vs room = cond (ltb 64 (length vs)) room (laid (in_order order vs) room)

-- the room after it
abbrev pub room_after : Order → List ℤ → BlockFound → List ℤ
room_after order room (block vs) = placed order vs room
room_after order room no_block = room

-- What reading a block line replies, or a heard line on a sheet of these: the number of its samples and where the next line begins, with the
-- samples in their places by position; or that no such line begins there, and then the room stays as it was
pub record ReadsBlock (heard : Bool) (s : List ℕ) (at : ℕ) (order : Order) (room : List ℤ) (r : Option SampleLine) (room' : List ℤ) : Type 0 where
  pub reply : r ≡ block_reply (next_line s at) (block_at heard s at)
  pub samples : room' ≡ room_after order room (block_at heard s at)
