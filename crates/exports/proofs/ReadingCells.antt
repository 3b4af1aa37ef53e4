-- A reading in its cells: the machine's copies of a fixed bit and of a margin are their values.
use lib.IntN.{pos, ℤ}
use lib.ListN.{set}
use mathlib.Core.List.{List}
use mathlib.Core.Path.{ap, refl, subst, sym, ◌∙◌, ◌≡◌}
use mir.Facts.{to_z-of_z}
use mir.Syntax.{w32}
use mir.Val.{SFits, of_z, to_z}
use native.Mathlib.Omega.{arith}
use Prim.Native.Nat.{◌<◌, suc, zero, ℕ}
use Rattle.decoding.specs.declared.firmness.Reading.{Reading}
use Rattle.decoding.specs.declared.firmness.Reading.TheVariants.{Fixed, Open}
use Rattle.decoding.specs.Firmness.{value}
use Rattle.exports.specs.Judging.{FixedFits, ReadingPut, fixed_cell}

bit-copy : (b : ℕ) → b < 2 → to_z w32 b ≡ pos b
bit-copy zero h = refl
bit-copy (suc zero) h = refl
bit-copy (suc (suc b)) h = absurd (omega arith)

module _ (r : Reading) (fixed : List ℕ) (values : List ℤ) where
  pub bit-fits : (b : ℕ) → r ≡ Fixed b → FixedFits r → SFits w32 (pos b)
  bit-fits b e h = let k : b < 2 = subst FixedFits e h in record { sfits = omega arith }

-- the cells at a place
module _ (r : Reading) (place : ℕ) (fixed : List ℕ) (values : List ℤ) where
  pub put-fixed : (b : ℕ) → r ≡ Fixed b → FixedFits r → ReadingPut r place fixed values (set fixed place 1) (set values place (to_z w32 b))
  put-fixed b e h = record {
    fixed_is = ap (λ (x : Reading). set fixed place (fixed_cell x)) (sym e);
    value_is = ap (λ (x : ℤ). set values place x) (bit-copy b (subst FixedFits e h) ∙ ap value (sym e));
  }

  pub put-open : (m : ℤ) → r ≡ Open m → SFits w32 m
      → ReadingPut r place fixed values (set fixed place 0) (set values place (to_z w32 (of_z w32 m)))
  put-open m e h = record {
    fixed_is = ap (λ (x : Reading). set fixed place (fixed_cell x)) (sym e);
    value_is = ap (λ (x : ℤ). set values place x) (to_z-of_z h ∙ ap value (sym e));
  }
