-- The paper's table of refusals, and what "lowest number first" means for a call.
use Rattle.std.specs.Prelude.{ℕ, List, [], ◌∷◌, ◌⊎◌}
use Rattle.plates.specs.declared.Entry.{Entry}
use Rattle.plates.specs.declared.Refusal.{Refusal}
use Rattle.plates.specs.declared.Refusal.TheVariants.{Length, TooManyRows, RowBeyond, TooWide, NotPrepared, SampleCount, SampleRange, MetricRoom, DecisionRoom, SheetLine, LineRoom, NoSuchBranch, InformationBeyond, NoCodeword, InputTooLong, AlistFault, FirstField, FieldCount, FieldValue, RowField, PositionBeyond, WholeSpace, MaskBeyond, BadSetting, NotANumber, BranchFault, BranchTwice, TooManyLines}

-- an entry of the table: the number; the place, a row, depth, position or line where one is named, and else 0; and the field of a sheet's bad
-- line, from 1, which is 0 for a line that is missing or not ended, and for all other refusals
abbrev pub told : ℕ → ℕ → ℕ → Entry
told number place field = record { number = number; place = place; field = field }

-- the table, in order of the numbers; 17 is about a line's first field
abbrev pub entry_of : Refusal → Entry
entry_of Length = told 1 0 0
entry_of TooManyRows = told 2 0 0
entry_of (RowBeyond row) = told 3 row 0
entry_of (TooWide depth) = told 4 depth 0
entry_of NotPrepared = told 5 0 0
entry_of SampleCount = told 6 0 0
entry_of (SampleRange position) = told 7 position 0
entry_of MetricRoom = told 8 0 0
entry_of DecisionRoom = told 9 0 0
entry_of (SheetLine line) = told 10 line 0
entry_of LineRoom = told 11 0 0
entry_of NoSuchBranch = told 12 0 0
entry_of InformationBeyond = told 13 0 0
entry_of NoCodeword = told 14 0 0
entry_of InputTooLong = told 15 0 0
entry_of (AlistFault line) = told 16 line 0
entry_of (FirstField line) = told 17 line 1
entry_of (FieldCount line at) = told 18 line at
entry_of (FieldValue line at) = told 19 line at
entry_of (RowField line at) = told 20 line at
entry_of PositionBeyond = told 21 0 0
entry_of WholeSpace = told 22 0 0
entry_of MaskBeyond = told 23 0 0
entry_of BadSetting = told 24 0 0
entry_of (NotANumber position) = told 25 position 0
entry_of (BranchFault line) = told 26 line 0
entry_of (BranchTwice line) = told 27 line 0
entry_of TooManyLines = told 28 0 0

-- the number of a refusal
abbrev pub number : Refusal → ℕ
number q = (entry_of q).number

-- its place
abbrev pub place : Refusal → ℕ
place q = (entry_of q).place

-- its field
abbrev pub field : Refusal → ℕ
field q = (entry_of q).field

-- A condition of a call says with which refusal it refuses, where it holds.
-- `Refuses conditions q`: the first of the conditions that holds refuses with q
abbrev pub Refuses : List (Refusal → Type 0) → Refusal → Type 0
Refuses [] q = ⊥
Refuses (c ∷ cs) q = c q ⊎ (((p : Refusal) → c p → ⊥) × Refuses cs q)

-- none of the conditions holds
abbrev pub Passes : List (Refusal → Type 0) → Type 0
Passes [] = Unit {0}
Passes (c ∷ cs) = ((p : Refusal) → c p → ⊥) × Passes cs
