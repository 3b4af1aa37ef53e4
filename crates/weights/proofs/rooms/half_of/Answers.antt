-- `weights::rooms::half_of` meets its contract.
use lib.Pow.{pow_mono}
use mathlib.Core.List.{List}
use mathlib.Core.Path.{ap, ◌∙◌, ◌≡◌}
use native.Mathlib.Omega.{arith}
use Prim.Native.Nat.{◌*◌, ◌^◌, ◌≤◌, ℕ}
use Rattle.decoding.proofs.WidestStates.{widest-most}
use Rattle.decoding.specs.Needs.{ProfileFits, widest_entry}
use Rattle.weights.proofs.rooms.half_of.Goals as goal

-- the widest entry is at most 12
narrow : (profile : List ℕ) (n most : ℕ) → ProfileFits profile n → most ≡ widest_entry profile n → most ≤ 12
narrow profile n most fits is = omega (arith, widest-most profile n fits)

pub overflow_mul-result : goal.overflow_mul-result
overflow_mul-result c = record { fits = omega (arith, (c.weight_of.ensures.below (omega (arith, narrow _ _ _ c.requires.1 c.widest.ensures))), pow_mono (narrow _ _ _ c.requires.1 c.widest.ensures)) }

pub returns : goal.returns
returns c = ap (λ (x : ℕ). x * 65) ((c.weight_of.ensures.below (omega (arith, narrow _ _ _ c.requires.1 c.widest.ensures))) ∙ ap (λ (m : ℕ). 2 ^ m) c.widest.ensures)
