-- How large a decode is, by the plate's profile, and what is left of the plate's mask.
use Rattle.std.specs.Prelude.{ℕ, zero, suc, ◌/◌, ◌^◌, ◌≤◌, max, get_or, take, List, ◌≡◌}
use Rattle.plates.specs.declared.Plate.{Plate}
use Rattle.decoding.specs.Cosets.{taken_off}
use Rattle.decoding.specs.declared.sweep.Sizes.{Sizes}

-- the largest of the entries 0 to n
abbrev pub widest_entry : List ℕ → ℕ → ℕ
widest_entry profile zero = get_or profile 0 0
widest_entry profile (suc n) = max (get_or profile (suc n) 0) (widest_entry profile n)

-- no entry is over 12
abbrev pub ProfileFits : List ℕ → ℕ → Type 0
ProfileFits profile n = (t : ℕ) → t ≤ n → get_or profile t 0 ≤ 12

pub record SizesOf (plate : Plate) (z : Sizes) : Type 0 where
  pub n_is : z.n ≡ plate.n
  pub k_is : z.k ≡ plate.k
  pub half_is : z.half ≡ 2 ^ widest_entry plate.profile plate.n
  pub words_is : z.words ≡ max 1 (2 ^ widest_entry plate.profile plate.n / 64)
  pub rest_is : z.rest ≡ taken_off (take plate.k plate.rows) plate.mask
