-- A sheet without a mask, and the same sheet with a mask line of zeros: they say the same, and are refused alike but for the line.
use Rattle.std.specs.Prelude.{ℕ, zero, suc, leb, cond, List, [], ◌∷◌, ◌++◌, ◌≡◌}
use Rattle.plates.specs.Refusals.{field, number, place}
use Rattle.sheets.specs.Text.{tab, lines}
use Rattle.sheets.specs.Words.{mask}
use Rattle.sheets.specs.Sheet.{contents, masks_of, Reading, says, refused}

-- n characters 0
abbrev pub zeros : ℕ → List ℕ
zeros zero = []
zeros (suc n) = 48 ∷ zeros n

-- the mask line of n zeros
abbrev pub zero_mask : ℕ → List ℕ
zero_mask n = mask ++ tab ∷ zeros n

-- s has no mask line, and t is the sheet s with a mask line of zeros after its cover, which is ended
pub record ZeroMasked (s t : List ℕ) : Type 0 where
  pub cover : List ℕ
  pub next : List ℕ
  pub others : List (List ℕ)
  pub without : lines s ≡ cover ∷ next ∷ others
  pub masked : lines t ≡ cover ∷ zero_mask (contents s).n ∷ next ∷ others
  pub none : masks_of s (contents s) ≡ 0

-- a line after the cover is one line later
abbrev pub moved : ℕ → ℕ
moved line = cond (leb 2 line) (suc line) line

-- both are read and say the same, or both are refused with the same number and field, at a line that may have moved
abbrev pub AlikeButLine : Reading → Reading → Type 0
AlikeButLine (says c) (says d) = d ≡ c
AlikeButLine (says c) (refused p) = ⊥
AlikeButLine (refused q) (says d) = ⊥
AlikeButLine (refused q) (refused p) = (number p ≡ number q) × (field p ≡ field q) × (place p ≡ moved (place q))
