-- The section of some plate rows, as numbers.
use Rattle.std.specs.Prelude.{ℕ, suc, ◌+◌, ◌*◌, ◌%◌, ◌^◌, ◌<◌, ltb, leb, eqb, Bool, true, false, cond, ◌&&◌, ◌||◌, List, [], ◌∷◌}
use Rattle.words.specs.Choice.{more}
use Rattle.words.specs.Ends.{first, last}
use Rattle.words.specs.Word.{bit}
use Rattle.trellises.specs.declared.Section.{Section}

-- a row is active in section t: it begins at or before t and ends at or after t
abbrev pub is_active : ℕ → ℕ → Bool
is_active t row = leb (first row) t && leb t (last row)

-- the section where no row is active: one state, and one branch that leaves it
abbrev pub quiet : Section
quiet = record { live = 0; begins = false; ends = false; ending = 0; column = 0 }

-- one more active row, whose head is the lowest: it has weight 1, and each of the others twice what it had; it is live if it begins
-- before t
unfoldable pub with_active : ℕ → ℕ → Section → Section
with_active t row c = record {
  live = more (ltb (first row) t) c.live;
  begins = eqb (first row) t || c.begins;
  ends = eqb (last row) t || c.ends;
  ending = cond (eqb (last row) t) 0 (suc c.ending);
  column = c.column * 2 + bit row t;
}

-- a row that is not active changes nothing
unfoldable pub with_row : ℕ → ℕ → Section → Section
with_row t row c = cond (is_active t row) (with_active t row c) c

-- the section at depth t of rows that stand in order of heads
abbrev pub section_of : List ℕ → ℕ → Section
section_of [] t = quiet
section_of (row ∷ rows) t = with_row t row (section_of rows t)

-- a row put before others where the test passes
abbrev pub keep : Bool → ℕ → List ℕ → List ℕ
keep true row rows = row ∷ rows
keep false row rows = rows

-- the rows that are active in section t, in order
abbrev pub active_rows : List ℕ → ℕ → List ℕ
active_rows [] t = []
active_rows (row ∷ rows) t = keep (is_active t row) row (active_rows rows t)

-- a section with what a 64-bit column holds of it: its first 64 active rows
abbrev pub held : Section → Section
held c = record { live = c.live; begins = c.begins; ends = c.ends; ending = c.ending; column = c.column % 2 ^ 64 }

-- what a section must leave free for one more row at position t
pub record HasRoom (t : ℕ) (c : Section) : Type 0 where
  pub position : t < 64
  pub live : c.live + 1 < 2 ^ 64
  pub ending : c.ending + 1 < 2 ^ 64
  pub column : c.column < 2 ^ 64
