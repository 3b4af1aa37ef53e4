-- What preparing replies to each matrix and mask, the words of a plate, and when a plate is prepared.
use Rattle.std.specs.Prelude.{ℕ, ◌^◌, ◌≤◌, ◌<◌, length, get_or, take, replicate, Bool, true, false, List, [], ◌∷◌, ◌⊎◌, ◌≡◌, Result, Ok, Err}
use Rattle.words.specs.Ends.{firsts, lasts}
use Rattle.words.specs.Sum.{IsSum}
use Rattle.plates.specs.declared.Kind.{Kind}
use Rattle.plates.specs.declared.Kind.TheVariants.{G}
use Rattle.plates.specs.declared.Parts.{Parts}
use Rattle.plates.specs.declared.Plate.{Plate}
use Rattle.plates.specs.declared.Prepared.{Prepared}
use Rattle.plates.specs.declared.Refusal.{Refusal}
use Rattle.plates.specs.declared.Refusal.TheVariants.{Length, TooManyRows, RowBeyond, MaskBeyond, TooWide, NotPrepared}
use Rattle.plates.specs.Code.{InCode, Masked}
use Rattle.plates.specs.Heads.{RowsOf}
use Rattle.plates.specs.Profile.{live_at}
use Rattle.plates.specs.Refusals.{Refuses, Passes}

-- ---- the conditions of refusals 1 to 3, 23 and 4

-- 1: n is 0 or over 64
abbrev pub bad_length : ℕ → Refusal → Type 0
bad_length n q = ((n ≡ 0) ⊎ (64 < n)) × (q ≡ Length)

-- 2: more than 64 rows
abbrev pub too_many_rows : List ℕ → Refusal → Type 0
too_many_rows rows q = (64 < length rows) × (q ≡ TooManyRows)

-- 3: a row has a one at n or beyond; the place is the first such row
pub record RowOver (n : ℕ) (rows : List ℕ) (q : Refusal) : Type 0 where
  pub row : ℕ
  pub there : row < length rows
  pub over : 2 ^ n ≤ get_or rows row 0
  pub first : (j : ℕ) → j < row → get_or rows j 0 < 2 ^ n
  pub is : q ≡ RowBeyond row

-- 23: the mask has a one at n or beyond
abbrev pub mask_beyond : ℕ → ℕ → Refusal → Type 0
mask_beyond n mask q = (2 ^ n ≤ mask) × (q ≡ MaskBeyond)

-- 4: some s(t) of the code's plate exceeds 12; the place is the first such depth
pub record Wide (C : ℕ → Type 0) (n : ℕ) (q : Refusal) : Type 0 where
  pub rows : List ℕ
  pub plate : RowsOf C rows (firsts rows) (lasts rows)
  pub depth : ℕ
  pub within : depth ≤ n
  pub over : 12 < live_at rows depth
  pub first : (t : ℕ) → t < depth → live_at rows t ≤ 12
  pub is : q ≡ TooWide depth

-- 23 stands after 3 and before 4
abbrev pub prepare_conditions : ℕ → Kind → List ℕ → ℕ → List (Refusal → Type 0)
prepare_conditions n kind rows mask = bad_length n ∷ too_many_rows rows ∷ RowOver n rows ∷ mask_beyond n mask ∷ Wide (InCode kind n rows) n ∷ []

-- ---- the reply

-- the rows in use
abbrev pub rows_of : Plate → List ℕ
rows_of plate = take plate.k plate.rows

-- the words of a plate: codewords plus its mask modulo 2
abbrev pub IsWord : Plate → ℕ → Type 0
IsWord plate = Masked (IsSum (rows_of plate)) plate.mask

-- the plate of the code C of length n and a mask: the mask, the code's rows, the profile, and zero in the unused places
pub record PlateOf (C : ℕ → Type 0) (n mask : ℕ) (plate : Plate) : Type 0 where
  pub length_n : plate.n ≡ n
  pub mask_is : plate.mask ≡ mask
  pub few : plate.k ≤ 64
  pub table : length plate.rows ≡ 64
  pub rows : RowsOf C (rows_of plate) (firsts (rows_of plate)) (lasts (rows_of plate))
  pub unused_rows : (j : ℕ) → plate.k ≤ j → get_or plate.rows j 0 ≡ 0
  pub entries : length plate.profile ≡ 65
  pub profile : (t : ℕ) → t ≤ n → get_or plate.profile t 0 ≡ live_at (rows_of plate) t
  pub unused_entries : (t : ℕ) → n < t → get_or plate.profile t 0 ≡ 0

abbrev pub zero_plate : Plate
zero_plate = record { n = 0; k = 0; mask = 0; rows = replicate 64 0; profile = replicate 65 0 }

-- What preparing may reply: refused, with the first refusal in order and the zero plate beside it; or accepted, where no condition
-- holds, with the plate of the code and the mask
abbrev pub PreparesAs : List (Refusal → Type 0) → (ℕ → Type 0) → ℕ → ℕ → Plate → Result (Unit {0}) Refusal → Type 0
PreparesAs conditions C n mask plate (Err q) = Refuses conditions q × (plate ≡ zero_plate)
PreparesAs conditions C n mask plate (Ok _) = Passes conditions × PlateOf C n mask plate

pub record Prepares (n : ℕ) (kind : Kind) (rows : List ℕ) (mask : ℕ) (r : Prepared) : Type 0 where
  pub reply : PreparesAs (prepare_conditions n kind rows mask) (InCode kind n rows) n mask r.plate r.verdict

-- the plate of parts that are lent each by itself
abbrev pub of_parts : ℕ → ℕ → ℕ → List ℕ → List ℕ → Plate
of_parts n k mask rows profile = record { n = n; k = k; mask = mask; rows = rows; profile = profile }

-- the plate that is lent in these parts
abbrev pub lent : Parts → Plate
lent parts = of_parts parts.n parts.k parts.mask parts.rows.now parts.profile.now

-- ---- refusal 5

-- the plate has k at most 64, and is what preparing its own first k rows as G, with its own mask, gives
pub record IsPrepared (plate : Plate) : Type 0 where
  pub few : plate.k ≤ 64
  pub same : Prepares plate.n G (rows_of plate) plate.mask (record { verdict = Ok tt; plate = plate })

-- 5: it is not
abbrev pub not_prepared : Plate → Refusal → Type 0
not_prepared plate q = (IsPrepared plate → ⊥) × (q ≡ NotPrepared)

-- what the test of a plate replies
pub record Tests (plate : Plate) (r : Bool) : Type 0 where
  pub yes_is : r ≡ true → IsPrepared plate
  pub no_is : r ≡ false → IsPrepared plate → ⊥
