-- The reading of a position from the rows and from both forced metrics, whose difference the machine has.
use lib.IntN.{◌-ℤ◌, nat_abs, ℤ}
use lib.ListN.{get_or}
use mathlib.Core.List.{List}
use mathlib.Core.Path.{ap₂, ◌∙◌, ◌≡◌}
use mir.Syntax.{w32}
use mir.Val.{SFits, of_z, to_z}
use native.Mathlib.Omega.{arith}
use Prim.Native.Nat.{◌<◌, ◌^◌, ℕ, ◌≤◌}
use Rattle.decoding.proofs.Integers.{back, difference-fits, difference_is}
use Rattle.decoding.proofs.SweepEnds.{kept_refl, kept_trans}
use Rattle.decoding.proofs.Undecided.{undecided-keeps}
use Rattle.decoding.specs.declared.firmness.Reading.TheVariants.{Fixed, Open}
use Rattle.decoding.specs.declared.sweep.Sizes.{Sizes}
use Rattle.decoding.specs.Forcing.{BestForced, ReadAt, RowWith}
use Rattle.decoding.specs.Sweeping.{undecided}
use Rattle.words.specs.Word.{bit}

-- the machine's difference of two metrics that are small
module _ (m n : ℤ) (m-small : nat_abs m ≤ 2 ^ 28) (n-small : nat_abs n ≤ 2 ^ 28) where
  pub margin-fits : SFits w32 (to_z w32 (of_z w32 m) -ℤ to_z w32 (of_z w32 n))
  margin-fits = difference-fits m n (back m (omega arith)) (back n (omega arith)) (omega arith) (omega arith)

  margin-is : to_z w32 (of_z w32 (to_z w32 (of_z w32 m) -ℤ to_z w32 (of_z w32 n))) ≡ m -ℤ n
  margin-is = difference_is m n (back m (omega arith)) (back n (omega arith)) (omega arith) (omega arith)

module _ (table : List ℕ) (z : Sizes) (samples metrics : List ℤ) (decisions : List ℕ) (p : ℕ) where
  pub fixed-read : ((j : ℕ) → j < z.k → bit (get_or table j 0) p ≡ 0) → (b : ℕ) → b ≡ bit z.rest p → ReadAt table z samples p metrics decisions metrics decisions (Fixed b)
  fixed-read h b e = record { reads = (e, h); kept = kept_refl z metrics decisions }

  module _ (row : RowWith table z.k p) (metrics' metrics'' : List ℤ) (decisions' decisions'' : List ℕ) (m n : ℤ)
      (zero-forced : BestForced table (undecided z) samples p 0 metrics decisions metrics' decisions' m)
      (one-forced : BestForced table (undecided z) samples p 1 metrics' decisions' metrics'' decisions'' n) where
    pub open-read : ReadAt table z samples p metrics decisions metrics'' decisions'' (Open (to_z w32 (of_z w32 (to_z w32 (of_z w32 m) -ℤ to_z w32 (of_z w32 n)))))
    open-read = record {
      reads = (row, margin-is m n zero-forced.small one-forced.small ∙ ap₂ (λ (x y : ℤ). x -ℤ y) zero-forced.metric one-forced.metric);
      kept = undecided-keeps (kept_trans zero-forced.kept one-forced.kept);
    }
