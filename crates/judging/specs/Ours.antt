-- The trellis of a plate's rows and mask, by numbers: 0 is no state, and each state is one more than its number.
use Rattle.std.specs.Prelude.{eqb, Bool, false, cond, true, List, ◌≡◌, ◌<◌, ◌^◌, suc, zero, ℕ, ◌≤◌, Option, Some, None}
use Rattle.plates.specs.declared.Plate.{Plate}
use Rattle.plates.specs.Prepare.{rows_of}
use Rattle.plates.specs.Sound.{Sound}
use Rattle.trellises.specs.Following.{next_of}
use Rattle.trellises.specs.Graph.{Graph}
use Rattle.trellises.specs.Masking.{masked}
use Rattle.trellises.specs.States.{trellis}
use Rattle.trellises.specs.declared.Section.{Section}
use Rattle.words.specs.Ends.{firsts, lasts}

-- the rows and the mask are those of a prepared plate of length n
pub record OfPlate (rows : List ℕ) (mask n : ℕ) : Type 0 where
  pub plate : Plate
  pub sound : Sound plate
  pub rows_are : rows_of plate ≡ rows
  pub mask_is : plate.mask ≡ mask
  pub length_is : plate.n ≡ n

abbrev pub ours : List ℕ → ℕ → Graph
ours rows mask = masked mask (trellis rows (firsts rows) (lasts rows))

abbrev pub number_of : Option ℕ → ℕ
number_of (Some s) = suc s
number_of None = 0

-- where the branch of the code with a bit leads
abbrev pub follows : Section → ℕ → ℕ → ℕ
follows c zero b = 0
follows c (suc a) b = number_of (next_of c a b)

-- both branches lead where they should
abbrev pub suits : Section → ℕ → ℕ → ℕ → Bool
suits c y x0 x1 = cond (eqb (follows c y 0) x0) (eqb (follows c y 1) x1) false

-- what the code asks of a section
pub record Small (c : Section) : Type 0 where
  pub live : c.live ≤ 12
  pub ending : c.ending < 64

-- r is the number whose branches lead to x0 and x1: 0 where both are 0, and beyond all states where no number has such branches
pub record Classed (c : Section) (x0 x1 r : ℕ) : Type 0 where
  pub found : (a : ℕ) → a < 2 ^ c.live → r ≡ suc a → suits c (suc a) x0 x1 ≡ true
  pub finds : (a : ℕ) → a < 2 ^ c.live → suits c (suc a) x0 x1 ≡ true → (z : ℕ) × (z < 2 ^ c.live) × (r ≡ suc z)
  pub none : r ≡ 0 → (x0 ≡ 0) × (x1 ≡ 0)
  pub dead : x0 ≡ 0 → x1 ≡ 0 → r ≤ 2 ^ c.live
