-- The live rows of a plate as the bits of one number, kept from section to section.
use Rattle.std.specs.Int.Count.{ones}
use Rattle.std.specs.Prelude.{leb, ltb, get_or, length, take, ◌&&◌, Bool, cond, true, List, [], ◌∷◌, ◌≡◌, ◌%◌, ◌*◌, ◌+◌, ◌<◌, ◌^◌, suc, zero, ℕ, ◌≤◌}
use Rattle.decoding.specs.declared.live.Beginning.{Beginning}
use Rattle.decoding.specs.declared.live.Live.{Live}
use Rattle.decoding.specs.declared.live.Passed.{Passed}
use Rattle.trellises.specs.Numbers.{without}
use Rattle.trellises.specs.SectionOf.{is_active, section_of}
use Rattle.trellises.specs.States.{state_of}
use Rattle.words.specs.Choice.{more}
use Rattle.words.specs.Ends.{first, firsts, last, lasts}
use Rattle.words.specs.Span.{Spans}
use Rattle.words.specs.Sum.{sum_of}
use Rattle.words.specs.Word.{bit}

-- a row is live at depth t
abbrev pub is_live : ℕ → ℕ → Bool
is_live t row = ltb (first row) t && leb t (last row)

-- the number whose bit j says whether row j passes
abbrev pub marks : (ℕ → Bool) → List ℕ → ℕ
marks P [] = 0
marks P (row ∷ rows) = marks P rows * 2 + cond (P row) 1 0

-- the number whose only bit is that of a row, by one more than the row; and 0 where there is no row
abbrev pub mark_of : ℕ → ℕ
mark_of zero = 0
mark_of (suc j) = 2 ^ j

-- how many rows end, by one more than the row that does
abbrev pub ending_count : ℕ → ℕ
ending_count zero = 0
ending_count (suc j) = 1

-- the rows that are live at depth t, and those that are active in section t
abbrev pub live_marks : List ℕ → ℕ → ℕ
live_marks rows t = marks (is_live t) rows

abbrev pub active_marks : List ℕ → ℕ → ℕ
active_marks rows t = marks (is_active t) rows

-- the first k rows of a table are plate rows
pub record PlateRows (rows : List ℕ) (k : ℕ) : Type 0 where
  pub table : length rows ≡ 64
  pub few : k ≤ 64
  pub spans : Spans (take k rows) (firsts (take k rows)) (lasts (take k rows))

-- for each position one more than the row that ends there, and 0 where none does
pub record EndsAre (rows ends : List ℕ) : Type 0 where
  pub size : length ends ≡ 64
  pub none : (t : ℕ) → t < 64 → get_or ends t 0 ≡ 0 → (j : ℕ) → j < length rows → lasts rows j ≡ t → ⊥
  pub some : (t j : ℕ) → t < 64 → get_or ends t 0 ≡ suc j → (j < length rows) × (lasts rows j ≡ t)

-- how many rows begin before depth t
abbrev pub begun_before : List ℕ → ℕ → ℕ
begun_before [] t = 0
begun_before (row ∷ rows) t = more (ltb (first row) t) (begun_before rows t)

-- the row that begins in section t; 0 where none begins
abbrev pub beginning_row : List ℕ → ℕ → ℕ
beginning_row rows t = cond (section_of rows t).begins (get_or rows (begun_before rows t) 0) 0

-- the row that begins in section t, and the mark that it adds to the live rows
pub record BeginsHere (rows : List ℕ) (t : ℕ) (r : Beginning) : Type 0 where
  pub row : r.row ≡ beginning_row rows t
  pub mark : live_marks rows t + r.mark ≡ active_marks rows t

-- the digit that a section's branches lose, by the active rows and one more than the row that ends: the active rows below that row
abbrev pub ending_by : ℕ → ℕ → ℕ
ending_by active zero = ones active
ending_by active (suc j) = ones (active % 2 ^ j)

-- where branch x leads
abbrev pub leads_by : ℕ → ℕ → ℕ → ℕ
leads_by active zero x = x
leads_by active (suc j) x = without (ending_by active (suc j)) x

-- every row named is active in section t
abbrev pub AllActive : List ℕ → ℕ → ℕ → Type 0
AllActive rows which t = (j : ℕ) → j < length rows → bit which j ≡ 1 → is_active t (get_or rows j 0) ≡ true

-- the live rows at depth t, and how many rows have begun before it
pub record LiveAt (rows : List ℕ) (t : ℕ) (r : Live) : Type 0 where
  pub marks_are : r.marks ≡ live_marks rows t
  pub next_is : r.next ≡ begun_before rows t

-- where the rows named are the active rows of some plate rows, so many of them begun behind section t, r has the live rows before it
pub record LiveBefore (table : List ℕ) (which next t : ℕ) (r : Live) : Type 0 where
  pub live : (k : ℕ) → PlateRows table k → which ≡ active_marks (take k table) t → next ≡ begun_before (take k table) (suc t)
      → LiveAt (take k table) t r

-- the rows taken by depth t, all of them begun: their sum, and the state that they make
pub record Taken (rows : List ℕ) (t sum state : ℕ) : Type 0 where
  pub by : ℕ
  pub begun : by < 2 ^ begun_before rows t
  pub sum_is : sum ≡ sum_of rows by
  pub state_is : state ≡ state_of rows (firsts rows) (lasts rows) t by

-- section t passed from its far side: its numbers, and the live rows before it
pub record PassedTo (rows : List ℕ) (t : ℕ) (r : Passed) : Type 0 where
  pub section : r.section ≡ section_of rows t
  pub live : LiveAt rows t r.live
