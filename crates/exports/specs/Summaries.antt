-- The promises of the calls that write the lines of a plate's weights and of a shift's tally: fixed is a cell for the length.
use Rattle.std.specs.Prelude.{List, ℕ}
use Rattle.exports.specs.Promises.{CallsWrite, HasCell}
use Rattle.listings.specs.declared.Tally.{Tally}
use Rattle.listings.specs.Writing.{WritesLeast, WritesNoLeast, WritesTally, WritesWeight}

abbrev pub CallsWriteWeight : ℕ → ℕ → List ℕ → List ℕ → ℕ → List ℕ → List ℕ → Type 0
CallsWriteWeight weight count room cell = CallsWrite (HasCell cell) (WritesWeight weight count) room cell

abbrev pub CallsWriteLeast : ℕ → List ℕ → List ℕ → ℕ → List ℕ → List ℕ → Type 0
CallsWriteLeast weight room cell = CallsWrite (HasCell cell) (WritesLeast weight) room cell

abbrev pub CallsWriteNoLeast : List ℕ → List ℕ → ℕ → List ℕ → List ℕ → Type 0
CallsWriteNoLeast room cell = CallsWrite (HasCell cell) WritesNoLeast room cell

-- a tally, number by number
abbrev pub tally_of : ℕ → ℕ → ℕ → ℕ → ℕ → ℕ → ℕ → ℕ → ℕ → Tally
tally_of decoded refused repeated late missing opposing zeros above below = record {
  decoded = decoded;
  refused = refused;
  repeated = repeated;
  late = late;
  missing = missing;
  opposing = opposing;
  zeros = zeros;
  above = above;
  below = below;
}

abbrev pub CallsWriteTally : Tally → List ℕ → List ℕ → ℕ → List ℕ → List ℕ → Type 0
CallsWriteTally tally room cell = CallsWrite (HasCell cell) (WritesTally tally) room cell
