-- A position forced to a bit, and what the parts of a judgement find by it.
use Rattle.std.specs.Prelude.{ℕ, ◌^◌, ◌≤◌, ◌<◌, ℤ, nat_abs, pos, ◌+ℤ◌, ◌-ℤ◌, get_or, set, take, Bool, true, false, List, ◌≡◌}
use Rattle.words.specs.Word.{bit}
use Rattle.trellises.specs.declared.Section.{Section}
use Rattle.trellises.specs.SectionOf.{section_of}
use Rattle.decoding.specs.declared.firmness.Reading.{Reading}
use Rattle.decoding.specs.declared.firmness.Reading.TheVariants.{Fixed, Open}
use Rattle.decoding.specs.declared.sweep.Sizes.{Sizes}
use Rattle.decoding.specs.Backward.{best}
use Rattle.decoding.specs.Sweeping.{Kept}
use Rattle.decoding.specs.Taking.{signed}
use Rattle.decoding.specs.Turning.{turned_by}

-- the gain that forces a position: more than all other positions together can add or take
abbrev pub forcing : ℕ
forcing = 2 ^ 18

-- the best metric with the position of a word forced to bit b, and the position's own sample in the place of what forces it; words are
-- codewords plus rest
abbrev pub best_with : (ℕ → Section) → ℕ → List ℤ → ℕ → ℕ → ℤ
best_with sections rest samples position b =
    best sections (turned_by rest (set samples position (signed b (pos forcing)))) 0 0 -ℤ pos forcing +ℤ signed b (get_or samples position (pos 0))

-- the best metric with the position forced, which is small, and the rooms behind the needed places kept
pub record BestForced (table : List ℕ) (z : Sizes) (samples : List ℤ) (position b : ℕ) (metrics : List ℤ) (decisions : List ℕ)
    (metrics' : List ℤ) (decisions' : List ℕ) (m : ℤ) : Type 0 where
  pub metric : m ≡ best_with (section_of (take z.k table)) z.rest samples position b
  pub small : nat_abs m ≤ 2 ^ 28
  pub kept : Kept z metrics decisions metrics' decisions'

-- a row has a one at the position
pub record RowWith (table : List ℕ) (k position : ℕ) : Type 0 where
  pub row : ℕ
  pub there : row < k
  pub one : bit (get_or table row 0) position ≡ 1

-- r says whether one of the first k rows has a one at the position
pub record HasOne (table : List ℕ) (k position : ℕ) (r : Bool) : Type 0 where
  pub yes_is : r ≡ true → RowWith table k position
  pub no_is : r ≡ false → (j : ℕ) → j < k → bit (get_or table j 0) position ≡ 0

-- the reading by the rows and by both forced metrics: the rest's bit is fixed where no row has a one
abbrev pub ByForcing : List ℕ → Sizes → List ℤ → ℕ → Reading → Type 0
ByForcing table z samples position (Fixed b) = (b ≡ bit z.rest position) × ((j : ℕ) → j < z.k → bit (get_or table j 0) position ≡ 0)
ByForcing table z samples position (Open margin) =
    RowWith table z.k position
    × (margin ≡ best_with (section_of (take z.k table)) z.rest samples position 0 -ℤ best_with (section_of (take z.k table)) z.rest samples position 1)

-- that reading, and the rooms behind the needed places kept
pub record ReadAt (table : List ℕ) (z : Sizes) (samples : List ℤ) (position : ℕ) (metrics : List ℤ) (decisions : List ℕ)
    (metrics' : List ℤ) (decisions' : List ℕ) (reading : Reading) : Type 0 where
  pub reads : ByForcing table z samples position reading
  pub kept : Kept z metrics decisions metrics' decisions'
