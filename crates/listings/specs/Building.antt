-- A line built from its last byte to its first, for the functions within the crate.
use Rattle.std.specs.Prelude.{drop, length, ◌++◌, List, ◌≡◌, ◌+◌, ℕ, ◌≤◌}

-- an array of 256 bytes has room for `text` before the place `end`
pub record HasRoom (array : List ℕ) (end : ℕ) (text : List ℕ) : Type 0 where
  pub size : length array ≡ 256
  pub within : end ≤ 256
  pub room : length text ≤ end

-- `text` put before the place `end`: where there is room it begins at r, and stands before what stood from `end` on
pub record Prepends (array : List ℕ) (end : ℕ) (text array' : List ℕ) (r : ℕ) : Type 0 where
  pub same_size : length array' ≡ length array
  pub begins : HasRoom array end text → r + length text ≡ end
  pub stands : HasRoom array end text → drop r array' ≡ text ++ drop end array

-- a line that ends where an array of 256 bytes ends may begin at `at`
pub record Ends (array : List ℕ) (at : ℕ) : Type 0 where
  pub size : length array ≡ 256
  pub within : at ≤ 256
