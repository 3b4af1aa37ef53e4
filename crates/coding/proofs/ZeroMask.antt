-- With a zero mask encode and read back promise what they promised before plates had masks.
use Rattle.std.proofs.Common.{Result, Ok, Err}
use Rattle.plates.specs.declared.Refusal.{Refusal}
use lib.Bits.{bit_xor, xor_zero_r}
use mathlib.Core.Logic.{◌↔◌}
use mathlib.Core.Path.{ap, subst, sym, ◌∙◌, ◌≡◌}
use Prim.Native.Nat.{ℕ}
use Rattle.coding.specs.Coding.{Encodes, ReadsBack}
use Rattle.coding.specs.Unmasked.{EncodesCodeword, ReadsCodeword, codeword_conditions}
use Rattle.plates.specs.declared.Plate.{Plate}
use Rattle.plates.specs.Prepare.{rows_of}
use Rattle.plates.specs.Refusals.{Passes, Refuses}
use Rattle.words.specs.Sum.{sum_of}

module _ (plate : Plate) (zero-mask : plate.mask ≡ 0) where
  unchanged : (w : ℕ) → bit_xor w plate.mask ≡ w
  unchanged w = ap (bit_xor w) zero-mask ∙ xor_zero_r w

  pub zero-mask-encodes : (information : ℕ) (r : Result ℕ Refusal) → Encodes plate information r ↔ EncodesCodeword plate information r
  zero-mask-encodes u (Ok word) =
      let same = unchanged (sum_of (rows_of plate) u) in
      ((λ e. (e.0, e.1 ∙ same)), λ e. (e.0, e.1 ∙ sym same))
  zero-mask-encodes u (Err q) = ((λ e. e), λ e. e)

  pub zero-mask-reads-back : (word : ℕ) (r : Result ℕ Refusal) → ReadsBack plate word r ↔ ReadsCodeword plate word r
  zero-mask-reads-back word (Ok u) =
      let same = unchanged (sum_of (rows_of plate) u) in (
        (λ e. (subst (λ (x : ℕ). Passes (codeword_conditions plate x)) (unchanged word) e.0, e.1, sym same ∙ e.2)),
        λ e. (subst (λ (x : ℕ). Passes (codeword_conditions plate x)) (sym (unchanged word)) e.0, e.1, same ∙ e.2),
      )
  zero-mask-reads-back word (Err q) = (
    (λ e. subst (λ (x : ℕ). Refuses (codeword_conditions plate x) q) (unchanged word) e),
    λ e. subst (λ (x : ℕ). Refuses (codeword_conditions plate x) q) (sym (unchanged word)) e,
  )
