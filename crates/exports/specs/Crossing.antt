-- How the replies of the calls below cross the interface: the code, and the lent cells as they are left.
use Rattle.plates.specs.declared.Refusal.{Refusal}
use Rattle.std.specs.Prelude.{ℤ, drop, set, ◌++◌, List, ◌≡◌, ℕ, Result, Ok, Err, Option, Some, None}
use Rattle.decoding.specs.declared.Answer.{Answer}
use Rattle.decoding.specs.declared.Counts.{Counts}
use Rattle.exports.specs.Calls.{Crossing, done, no_branch}
use Rattle.exports.specs.Flat.{flat}
use Rattle.plates.specs.declared.Plate.{Plate}
use Rattle.plates.specs.declared.Prepared.{Prepared}
use Rattle.plates.specs.Refusals.{number, place}
use Rattle.reports.specs.Remaining.{Rooms}

-- prepare: the plate's words from the start of their run, and place 0; or the place of the refusal alone
abbrev pub prepared_as : List ℕ → List ℕ → Plate → Result (Unit {0}) Refusal → Crossing (List ℕ × List ℕ)
prepared_as run at plate (Ok _) = record { code = done; cells = (flat plate ++ drop 132 run, set at 0 0) }
prepared_as run at plate (Err q) = record { code = number q; cells = (run, set at 0 (place q)) }

abbrev pub prepared : List ℕ → List ℕ → Prepared → Crossing (List ℕ × List ℕ)
prepared run at r = prepared_as run at r.plate r.verdict

-- branch: the next state
abbrev pub branched : List ℕ → Result (Option ℕ) Refusal → Crossing (List ℕ)
branched cell (Ok (Some next)) = record { code = done; cells = set cell 0 next }
branched cell (Ok None) = record { code = no_branch; cells = cell }
branched cell (Err q) = record { code = number q; cells = cell }

-- encode: the word
abbrev pub encoded : List ℕ → Result ℕ Refusal → Crossing (List ℕ)
encoded cell (Ok word) = record { code = done; cells = set cell 0 word }
encoded cell (Err q) = record { code = number q; cells = cell }

-- read back: the information
abbrev pub read_back : List ℕ → Result ℕ Refusal → Crossing (List ℕ)
read_back cell (Ok information) = record { code = done; cells = set cell 0 information }
read_back cell (Err q) = record { code = number q; cells = cell }

-- the two counts stand in the first two cells
abbrev pub counts_put : List ℕ → Counts → List ℕ
counts_put cells k = set (set cells 0 k.additions) 1 k.comparisons

-- the cells that are lent to decode
pub record DecodeCells : Type 0 where
  pub metrics : List ℤ
  pub decisions : List ℕ
  pub word : List ℕ
  pub metric : List ℤ
  pub counts : List ℕ
  pub at : List ℕ

-- what decode replies, with the two rooms as it leaves them
pub record Decoding : Type 0 where
  pub reply : Result Answer Refusal
  pub metrics : List ℤ
  pub decisions : List ℕ

-- decode: the word, its metric, the two counts, and place 0; or the place of the refusal alone
abbrev pub decoded_as : DecodeCells → List ℤ → List ℕ → Result Answer Refusal → Crossing DecodeCells
decoded_as lent metrics decisions (Ok a) = record {
  code = done;
  cells = record {
    metrics = metrics;
    decisions = decisions;
    word = set lent.word 0 a.word;
    metric = set lent.metric 0 a.metric;
    counts = counts_put lent.counts a.counts;
    at = set lent.at 0 0;
  };
}
decoded_as lent metrics decisions (Err q) = record {
  code = number q;
  cells = record {
    metrics = metrics;
    decisions = decisions;
    word = lent.word;
    metric = lent.metric;
    counts = lent.counts;
    at = set lent.at 0 (place q);
  };
}

abbrev pub decoded : DecodeCells → Decoding → Crossing DecodeCells
decoded lent d = decoded_as lent d.metrics d.decisions d.reply

-- what a call that writes a line replies, with the room as it leaves it
pub record Writing : Type 0 where
  pub reply : Result ℕ Refusal
  pub room : List ℕ

-- a line: its length
abbrev pub written_as : List ℕ → List ℕ → Result ℕ Refusal → Crossing (List ℕ × List ℕ)
written_as cell room (Ok size) = record { code = done; cells = (room, set cell 0 size) }
written_as cell room (Err q) = record { code = number q; cells = (room, cell) }

abbrev pub written : List ℕ → Writing → Crossing (List ℕ × List ℕ)
written cell w = written_as cell w.room w.reply

-- a reply crosses so, with the length in its cell
abbrev pub LengthPut : Result ℕ Refusal → List ℕ → ℕ → List ℕ → Type 0
LengthPut reply cell r cell' =
    (room : List ℕ) → ◌≡◌ {A = Crossing (List ℕ × List ℕ)} (record { code = r; cells = (room, cell') }) (written_as cell room reply)

-- an answer stands in its cells
pub record AnswerPut (a : Answer) (word : List ℕ) (metric : List ℤ) (counts : List ℕ) (word' : List ℕ) (metric' : List ℤ) (counts' : List ℕ) : Type 0 where
  pub word_is : word' ≡ set word 0 a.word
  pub metric_is : metric' ≡ set metric 0 a.metric
  pub counts_are : counts' ≡ counts_put counts a.counts

-- ---- a whole listing

-- the cells that are lent to a listing
pub record ListingCells : Type 0 where
  pub working : Rooms
  pub listing : List ℕ
  pub cell : List ℕ

abbrev pub listing_cells : Rooms → List ℕ → List ℕ → ListingCells
listing_cells working listing cell = record { working = working; listing = listing; cell = cell }

-- what writing a listing replies, with the rooms as it leaves them
pub record Listing : Type 0 where
  pub reply : Result ℕ Refusal
  pub working : Rooms
  pub listing : List ℕ

-- the working rooms beside what crosses of a line
abbrev pub beside : Rooms → Crossing (List ℕ × List ℕ) → Crossing ListingCells
beside working line = record { code = line.code; cells = listing_cells working line.cells.0 line.cells.1 }

-- a listing: its length
abbrev pub listed : List ℕ → Listing → Crossing ListingCells
listed cell l = beside l.working (written_as cell l.listing l.reply)
