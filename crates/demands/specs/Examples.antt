-- The examples that the paper marks P, and those of its sheet with a mask (document 02, A11), as one table: each entry names a call, its
-- inputs and the reply. One statement says of every entry that a reply meets the promise of its call exactly if it is the one in the table.
-- Words stand as their characters, position 0 at the left, and lines as their text.
use Rattle.std.specs.Prelude.{neg_ℤ, pos, ℤ, drop, length, replicate, false, ◌++◌, List, [], map, ◌∷◌, ◌↔◌, ◌≡◌, ◌-◌, ℕ, ◌≤◌, Result, Ok, Err, Option, Some, None}
use Rattle.asking.specs.Asking.{Asks}
use Rattle.asking.specs.declared.Reason.{Reason}
use Rattle.asking.specs.declared.Reason.TheVariants.{Chosen, ScoresLess, TiesAndLoses}
use Rattle.coding.specs.Coding.{Encodes, ReadsBack}
use Rattle.decoding.specs.declared.Answer.{Answer}
use Rattle.decoding.specs.declared.firmness.Flag.{Flag}
use Rattle.decoding.specs.declared.firmness.Reading.TheVariants.{Open}
use Rattle.decoding.specs.Decode.{Decodes, decision_need, metric_need}
use Rattle.decoding.specs.Firmness.{TellsFirmness}
use Rattle.words.specs.Letters.{bytes, word}
use Rattle.demands.specs.Masks.{with_mask}
use Rattle.listings.specs.Writing.{WritesEnd, WritesPlate, WritesProfile, WritesWord}
use Rattle.plates.specs.declared.Kind.{Kind}
use Rattle.plates.specs.declared.Kind.TheVariants.{G, H}
use Rattle.plates.specs.declared.Plate.{Plate}
use Rattle.plates.specs.declared.Prepared.{Prepared}
use Rattle.plates.specs.declared.Refusal.{Refusal}
use Rattle.plates.specs.declared.Refusal.TheVariants.{InformationBeyond, Length, MaskBeyond, NoCodeword, NoSuchBranch, RowBeyond}
use Rattle.plates.specs.Prepare.{Prepares}
use Rattle.plates.specs.Replying.{refused_with}
use Rattle.reports.specs.Answers.{Answers}
use Rattle.reports.specs.Report.{Lists}
use Rattle.sheets.specs.declared.Order.TheVariants.{First}
use Rattle.sheets.specs.declared.Sheet.{Sheet}
use Rattle.sheets.specs.Room.{laid}
use Rattle.sheets.specs.Sheet.{ReadsSheet}
use Rattle.trellises.specs.Branching.{Branches}
use Rattle.asking.specs.declared.Reason.TheVariants as Y

-- ---- entries

-- a call with its inputs, and the reply
pub data Example : Type 0 where
  -- prepare accepts: n, kind, rows and mask; the plate
  accepts : ℕ → Kind → List ℕ → ℕ → Plate → Example
  -- prepare refuses: n, kind, rows and mask; the refusal
  refuses : ℕ → Kind → List ℕ → ℕ → Refusal → Example
  -- branch: a plate, depth, state and bit; the reply
  asks : Plate → ℕ → ℕ → ℕ → Result (Option ℕ) Refusal → Example
  -- encode: a plate and information; the reply
  encodes : Plate → ℕ → Result ℕ Refusal → Example
  -- read back: a plate and a word; the reply
  reads : Plate → ℕ → Result ℕ Refusal → Example
  -- decode, with rooms that are long enough: a plate and samples; the word, its metric and the counts
  decodes : Plate → List ℤ → Answer → Example
  -- firmness, with such rooms: a plate, samples and a position; the flag
  judges : Plate → List ℤ → ℕ → Flag → Example
  -- why not, with such rooms: a plate, samples and a word; the reason
  explains : Plate → List ℤ → ℕ → Reason → Example
  -- write the line plate, profile, word or end, with a room that is long enough: its values; the bytes
  plate-line : Plate → List ℕ → Example
  profile-line : Plate → List ℕ → Example
  word-line : Plate → Answer → List ℕ → Example
  end_line : ℕ → List ℕ → Example
  -- read a sheet, into any table: the input; what it says, and the words of its rows
  reads-sheet : List ℕ → Sheet → List ℕ → Example
  -- the listing of an input that is accepted: the input, its plate and the answers for its blocks; the bytes
  lists : List ℕ → Plate → List Answer → List ℕ → Example

-- ---- the statement

-- what meets the promise is this, and nothing else
abbrev pub Exactly : {A : Type 0} → (A → Type 0) → A → Type 0
Exactly {A} Promise reply = (r : A) → Promise r ↔ (r ≡ reply)

-- a line is written into any room that is long enough: its length is returned, and the bytes after it are unchanged
abbrev pub Writing : (List ℕ → Result ℕ Refusal → List ℕ → Type 0) → List ℕ → Type 0
Writing Promise line = (room : List ℕ) → length line ≤ length room
    → Exactly (λ (x : Result ℕ Refusal × List ℕ). Promise room x.0 x.1) (Ok (length line), line ++ drop (length line) room)

-- a call that is lent the two working rooms, with any that are long enough: its reply, and the needed room is zero after it
abbrev pub InRooms : {R : Type 0} → Plate → (List ℤ → List ℕ → List ℤ → List ℕ → R → Type 0) → R → Type 0
InRooms {R} plate Promise reply = (metrics : List ℤ) (decisions : List ℕ) → metric_need plate ≤ length metrics → decision_need plate ≤ length decisions
    → Exactly (λ (x : R × List ℤ × List ℕ). Promise metrics decisions x.1 x.2 x.0)
    (reply, replicate (metric_need plate) (pos 0) ++ drop (metric_need plate) metrics, replicate (decision_need plate) 0 ++ drop (decision_need plate) decisions)

-- preparing accepts, with this plate
abbrev pub accepted_with : Plate → Prepared
accepted_with plate = record { verdict = Ok tt; plate = plate }

-- what an entry says
abbrev pub Right : Example → Type 0
Right (accepts n kind rows mask plate) = Exactly (Prepares n kind rows mask) (accepted_with plate)
Right (refuses n kind rows mask q) = Exactly (Prepares n kind rows mask) (refused_with q)
Right (asks plate depth state bit reply) = Exactly (Branches plate depth state bit) reply
Right (encodes plate information reply) = Exactly (Encodes plate information) reply
Right (reads plate word reply) = Exactly (ReadsBack plate word) reply
Right (decodes plate samples a) = InRooms plate (Decodes plate samples) (Ok a)
Right (judges plate samples position flag) = InRooms plate (TellsFirmness plate samples position) (Ok flag)
Right (explains plate samples w reason) = InRooms plate (Asks plate samples w) (Ok reason)
Right (plate-line plate line) = Writing (WritesPlate plate) line
Right (profile-line plate line) = Writing (WritesProfile plate) line
Right (word-line plate a line) = Writing (WritesWord plate a.word a.metric a.counts.additions a.counts.comparisons) line
Right (end_line blocks line) = Writing (WritesEnd blocks) line
Right (reads-sheet input s rows) =
    (table : List ℕ) → Exactly (λ (x : Result Sheet Refusal × List ℕ). ReadsSheet input table x.0 x.1) (Ok s, laid rows table)
Right (lists input plate answers listing) = Answers input (accepted_with plate) (map Ok answers) × Exactly (Lists input) listing

-- every entry is right
abbrev pub AllRight : List Example → Type 0
AllRight [] = Unit {0}
AllRight (e ∷ es) = Right e × AllRight es

-- ---- the table

-- a plate of length n with these rows and profile, a zero mask, and zero in the unused places
abbrev pub plate_with : ℕ → List ℕ → List ℕ → Plate
plate_with n rows profile = record {
  n = n;
  k = length rows;
  mask = 0;
  rows = rows ++ replicate (64 - length rows) 0;
  profile = profile ++ replicate (65 - length profile) 0;
}

-- a word, its metric, additions and comparisons
abbrev pub answer : ℕ → ℤ → ℕ → ℕ → Answer
answer w metric additions comparisons = record { word = w; metric = metric; counts = record { additions = additions; comparisons = comparisons } }

-- a number below zero
abbrev pub minus : ℕ → ℤ
minus m = neg_ℤ (pos m)

-- n=1, G, no rows: the zero word alone
abbrev pub zero_plate1 : Plate
zero_plate1 = plate_with 1 [] (0 ∷ 0 ∷ [])

-- n=1, H, no rows: every word
abbrev pub full_plate1 : Plate
full_plate1 = plate_with 1 (word "1" ∷ []) (0 ∷ 0 ∷ [])

-- n=3, H 111
abbrev pub even_plate3 : Plate
even_plate3 = plate_with 3 (word "110" ∷ word "011" ∷ []) (0 ∷ 1 ∷ 1 ∷ 0 ∷ [])

-- n=3, G 111
abbrev pub repeat_plate3 : Plate
repeat_plate3 = plate_with 3 (word "111" ∷ []) (0 ∷ 1 ∷ 1 ∷ 0 ∷ [])

-- the sheet's rows
abbrev pub sheet_rows : List ℕ
sheet_rows = word "11110000" ∷ word "01011010" ∷ word "00111100" ∷ word "00001111" ∷ []

-- its plate
abbrev pub sheet_plate : Plate
sheet_plate = plate_with 8 sheet_rows (0 ∷ 1 ∷ 2 ∷ 3 ∷ 2 ∷ 3 ∷ 2 ∷ 1 ∷ 0 ∷ [])

-- its block -3 -2 4 -1 5 6 -1 7
abbrev pub sheet_block : List ℤ
sheet_block = minus 3 ∷ minus 2 ∷ pos 4 ∷ minus 1 ∷ pos 5 ∷ pos 6 ∷ minus 1 ∷ pos 7 ∷ []

-- its word, metric, additions and comparisons
abbrev pub sheet_answer : Answer
sheet_answer = answer (word "11110000") (pos 19) 44 11

-- its text
abbrev pub sheet_text : List ℕ
sheet_text =
    bytes "cover\t8\tG\tfirst\n"
    ++ bytes "row\t11110000\n"
    ++ bytes "row\t01011010\n"
    ++ bytes "row\t00111100\n"
    ++ bytes "row\t00001111\n"
    ++ bytes "block\t-3\t-2\t4\t-1\t5\t6\t-1\t7\n"
    ++ bytes "end\n"

-- what it says: its block begins at byte 68
abbrev pub sheet_read : Sheet
sheet_read = record { n = 8; kind = G; order = First; mask = 0; rows = 4; start = 68; heard = false; blocks = 1 }

-- its listing
abbrev pub sheet_listing : List ℕ
sheet_listing =
    bytes "plate\t8\t4\t3\n"
    ++ bytes "profile\t0\t1\t2\t3\t2\t3\t2\t1\t0\n"
    ++ bytes "word\t11110000\t19\t44\t11\n"
    ++ bytes "end\t1\n"

-- the codes and their decoded blocks
abbrev pub codes : List Example
codes =
    accepts 1 G [] 0 zero_plate1
    ∷ decodes zero_plate1 (minus 5 ∷ []) (answer (word "0") (minus 5) 1 0)
    ∷ accepts 1 H [] 0 full_plate1
    ∷ decodes full_plate1 (minus 5 ∷ []) (answer (word "1") (pos 5) 2 1)
    ∷ accepts 3 H (word "111" ∷ []) 0 even_plate3
    ∷ decodes even_plate3 (minus 1 ∷ minus 1 ∷ minus 1 ∷ []) (answer (word "011") (pos 1) 8 3)
    ∷ accepts 3 G (word "111" ∷ []) 0 repeat_plate3
    ∷ decodes repeat_plate3 (pos 2 ∷ minus 1 ∷ minus 1 ∷ []) (answer (word "000") (pos 0) 6 1)
    ∷ []

-- the sheet, read and listed; its plate as G and as H; its block; and each line of its listing as its own call writes it
abbrev pub sheet : List Example
sheet =
    reads-sheet sheet_text sheet_read sheet_rows
    ∷ lists sheet_text sheet_plate (sheet_answer ∷ []) sheet_listing
    ∷ accepts 8 G sheet_rows 0 sheet_plate
    ∷ accepts 8 H sheet_rows 0 sheet_plate
    ∷ decodes sheet_plate sheet_block sheet_answer
    ∷ plate-line sheet_plate (bytes "plate\t8\t4\t3\n")
    ∷ profile-line sheet_plate (bytes "profile\t0\t1\t2\t3\t2\t3\t2\t1\t0\n")
    ∷ word-line sheet_plate sheet_answer (bytes "word\t11110000\t19\t44\t11\n")
    ∷ end_line 1 (bytes "end\t1\n")
    ∷ []

-- its branches
abbrev pub branches : List Example
branches =
    asks sheet_plate 4 1 0 (Ok (Some 5))
    ∷ asks sheet_plate 4 1 1 (Ok (Some 1))
    ∷ asks sheet_plate 3 1 1 (Ok (Some 0))
    ∷ asks sheet_plate 3 1 0 (Ok None)
    ∷ asks sheet_plate 3 6 0 (Ok (Some 3))
    ∷ asks sheet_plate 4 4 0 (Err NoSuchBranch)
    ∷ asks sheet_plate 4 4 1 (Err NoSuchBranch)
    ∷ []

-- information 9 encodes to 11111111, 16 is refusal 13, and 11010010 read back is 14
abbrev pub words : List Example
words =
    encodes sheet_plate 9 (Ok (word "11111111"))
    ∷ encodes sheet_plate 16 (Err InformationBeyond)
    ∷ reads sheet_plate (word "11010010") (Err NoCodeword)
    ∷ []

-- n=8, a row of 256: refusal 3, place 0; n=0 and n=65: 1
abbrev pub refusals : List Example
refusals =
    refuses 8 G (256 ∷ []) 0 (RowBeyond 0)
    ∷ refuses 8 H (256 ∷ []) 0 (RowBeyond 0)
    ∷ refuses 0 G [] 0 Length
    ∷ refuses 0 H [] 0 Length
    ∷ refuses 65 G [] 0 Length
    ∷ refuses 65 H [] 0 Length
    ∷ []

-- ---- the sheet with the mask 10000001 (document 02, A11)

-- the mask
abbrev pub sheet_mask : ℕ
sheet_mask = word "10000001"

-- its plate: that of the sheet but for the mask
abbrev pub masked_plate : Plate
masked_plate = with_mask sheet_mask sheet_plate

-- its word, metric, additions and comparisons
abbrev pub masked_answer : Answer
masked_answer = answer (word "01000010") (pos 21) 44 11

-- eight samples of zero: every word has the metric 0
abbrev pub zero_block : List ℤ
zero_block = replicate 8 (pos 0)

-- a position and its margin
abbrev pub open_flag : ℕ → ℤ → Flag
open_flag position margin = record { position = position; reading = Open margin }

-- the plate, as G and as H; the block; of the zero samples the earliest word, which is not the earliest codeword plus mask; the listing's line
abbrev pub masked_sheet : List Example
masked_sheet =
    accepts 8 G sheet_rows sheet_mask masked_plate
    ∷ accepts 8 H sheet_rows sheet_mask masked_plate
    ∷ decodes masked_plate sheet_block masked_answer
    ∷ decodes masked_plate zero_block (answer (word "00010111") (pos 0) 44 11)
    ∷ word-line masked_plate masked_answer (bytes "word\t01000010\t21\t44\t11\n")
    ∷ []

-- its branches at depths 0 and 7, where the mask has ones, have the other bit than without it; one at depth 4 has the same
abbrev pub masked_branches : List Example
masked_branches =
    asks masked_plate 0 0 0 (Ok (Some 1))
    ∷ asks masked_plate 0 0 1 (Ok (Some 0))
    ∷ asks masked_plate 7 0 1 (Ok (Some 0))
    ∷ asks masked_plate 7 0 0 (Ok None)
    ∷ asks masked_plate 7 1 0 (Ok (Some 0))
    ∷ asks masked_plate 7 1 1 (Ok None)
    ∷ asks masked_plate 4 1 0 (Ok (Some 5))
    ∷ []

-- information 9 encodes to a word that is read back as 9; the word of the plate without the mask read back is 14
abbrev pub masked_words : List Example
masked_words =
    encodes masked_plate 9 (Ok (word "01111110"))
    ∷ reads masked_plate (word "01111110") (Ok 9)
    ∷ reads masked_plate (word "11111111") (Err NoCodeword)
    ∷ []

-- no word of the plate begins so at position 3; the word chosen, and the same with a one at position 8 besides; one that scores less by 4; of the
-- zero samples one that ties and loses at position 0. Positions 0 and 1 are open, with the margins 4 and -4
abbrev pub masked_questions : List Example
masked_questions =
    explains masked_plate sheet_block (word "11110000") (Y.NoCodeword 3)
    ∷ explains masked_plate sheet_block (word "01000010") Chosen
    ∷ explains masked_plate sheet_block (word "010000101") (Y.NoCodeword 8)
    ∷ explains masked_plate sheet_block (word "10110010") (ScoresLess (pos 4))
    ∷ explains masked_plate zero_block (word "10000001") (TiesAndLoses 0)
    ∷ judges masked_plate sheet_block 0 (open_flag 0 (pos 4))
    ∷ judges masked_plate sheet_block 1 (open_flag 1 (minus 4))
    ∷ []

-- a mask of 256 with n=8: 23; a row of 256 is told before it
abbrev pub mask_refusals : List Example
mask_refusals = refuses 8 G sheet_rows 256 MaskBeyond ∷ refuses 8 G (256 ∷ []) 256 (RowBeyond 0) ∷ []

-- all of these
abbrev pub masked_examples : List Example
masked_examples = masked_sheet ++ masked_branches ++ masked_words ++ masked_questions ++ mask_refusals

-- ---- all of them

abbrev pub examples : List Example
examples = codes ++ sheet ++ branches ++ words ++ refusals ++ masked_examples
