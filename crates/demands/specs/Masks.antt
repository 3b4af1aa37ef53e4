-- Plates that differ in their masks alone.
use Rattle.std.specs.Prelude.{length, ◌≡◌, ℕ}
use Rattle.decoding.specs.Totals.{branch_total, entering_less_one}
use Rattle.plates.specs.declared.Plate.{Plate}
use Rattle.trellises.specs.Branching.{trellis_of}

-- a plate with another mask, and all else as it is
abbrev pub with_mask : ℕ → Plate → Plate
with_mask mask plate = record { n = plate.n; k = plate.k; mask = mask; rows = plate.rows; profile = plate.profile }

-- two plates have the same length, rows and profile, and their trellises as many states at each depth, as many branches in each section, and
-- the same additions and comparisons
pub record AlikeButMask (a b : Plate) : Type 0 where
  pub same_n : a.n ≡ b.n
  pub same_k : a.k ≡ b.k
  pub same_rows : a.rows ≡ b.rows
  pub same_profile : a.profile ≡ b.profile
  pub same_states : (t : ℕ) → (trellis_of a).states t ≡ (trellis_of b).states t
  pub same_branches : (t : ℕ) → length ((trellis_of a).branches t) ≡ length ((trellis_of b).branches t)
  pub same_additions : branch_total (trellis_of a) a.n ≡ branch_total (trellis_of b) b.n
  pub same_comparisons : entering_less_one (trellis_of a) a.n ≡ entering_less_one (trellis_of b) b.n
