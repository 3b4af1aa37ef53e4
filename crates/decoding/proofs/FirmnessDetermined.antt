-- Determined: two replies of `firmness_parts`, with both rooms, that meet its promise are equal.
use Rattle.std.proofs.Common.{Result, Ok, Err}
use lib.IntN.{◌-ℤ◌, pos, ℤ}
use lib.Signed.{◌≤ℤ◌}
use mathlib.Core.Bool.{Bool, false, false≢true, true, true≢false}
use mathlib.Core.List.{List}
use mathlib.Core.Path.{ap, ap₂, refl, subst, sym, ◌∙◌, ◌≡◌}
use native.Mathlib.Omega.{arith}
use Prim.Native.Nat.{ℕ}
use Rattle.decoding.proofs.DecodeDetermined.{sample-once}
use Rattle.decoding.proofs.IntegerOrder.{≤ℤ-antisym}
use Rattle.decoding.proofs.MaskedWords.{mask_word}
use Rattle.decoding.specs.declared.firmness.Flag.{Flag}
use Rattle.decoding.specs.declared.firmness.Reading.{Reading}
use Rattle.decoding.specs.declared.firmness.Reading.TheVariants.{Fixed, Open}
use Rattle.decoding.specs.Firmness.{Always, BestAmong, FlagOf, TellsFirmness, Margin, Means, firmness_conditions, is_fixed, value}
use Rattle.plates.proofs.Refusing.{Single, never_both, refuses-once}
use Rattle.plates.specs.declared.Plate.{Plate}
use Rattle.plates.specs.declared.Refusal.{Refusal}
use Rattle.plates.specs.Prepare.{IsWord}

-- a reading is told by its values
pub reading-told : (r s : Reading) → is_fixed r ≡ is_fixed s → value r ≡ value s → r ≡ s
reading-told (Fixed a) (Fixed b) f v = let e : a ≡ b = cc in ap Fixed e
reading-told (Fixed a) (Open n) f v = absurd (true≢false f)
reading-told (Open m) (Fixed b) f v = absurd (false≢true f)
reading-told (Open m) (Open n) f v = ap Open v

module _ (plate : Plate) (samples : List ℤ) (position : ℕ) where
  -- the best metric among the words with a bit is one
  best-same : (b : ℕ) (m n : ℤ) → BestAmong (IsWord plate) samples position b m → BestAmong (IsWord plate) samples position b n → m ≡ n
  best-same b m n x y =
      ≤ℤ-antisym (subst (λ (z : ℤ). z ≤ℤ n) x.metric (y.greatest x.word x.codeword x.has)) (subst (λ (z : ℤ). z ≤ℤ m) y.metric (x.greatest y.word y.codeword y.has))

  -- where every word has one bit, not both bits have words
  pub not-both-readings : (b m : ℤ) → Always (IsWord plate) position b → Margin (IsWord plate) samples position m → ⊥
  not-both-readings b m x y =
      let p : pos 0 ≡ pos 1 = ap pos (sym y.zero_best.has) ∙ x y.zero_best.word y.zero_best.codeword ∙ sym (x y.one_best.word y.one_best.codeword) ∙ ap pos y.one_best.has in
      let z : ◌≡◌ {A = ℕ} 0 1 = cc in
      omega arith

  values_same : (f g : Bool) (v u : ℤ) → Means (IsWord plate) samples position f v → Means (IsWord plate) samples position g u → (f ≡ g) × (v ≡ u)
  values_same true true v u x y = (refl, sym (x plate.mask (mask_word plate)) ∙ y plate.mask (mask_word plate))
  values_same true false v u x y = absurd (not-both-readings v u x y)
  values_same false true v u x y = absurd (not-both-readings u v y x)
  values_same false false v u x y =
      (refl, x.is ∙ ap₂ (λ (a b : ℤ). a -ℤ b) (best-same 0 x.with_zero y.with_zero x.zero_best y.zero_best) (best-same 1 x.with_one y.with_one x.one_best y.one_best) ∙ sym y.is)

  flag_same : (f g : Flag) → FlagOf (IsWord plate) samples position f → FlagOf (IsWord plate) samples position g → f ≡ g
  flag_same f g x y =
      let v = values_same (is_fixed f.reading) (is_fixed g.reading) (value f.reading) (value g.reading) x.reading y.reading in
      ap₂ (λ (p : ℕ) (r : Reading). record { position = p; reading = r }) (x.position_is ∙ sym y.position_is) (reading-told f.reading g.reading v.0 v.1)

  module _ (metrics : List ℤ) (decisions : List ℕ) where
    abbrev conditions : List (Refusal → Type 0)
    conditions = firmness_conditions plate samples position metrics decisions

    single : Single (firmness_conditions plate samples position metrics decisions)
    single =
        ((λ p q x y. x.1 ∙ sym y.1), ((λ p q x y. x.1 ∙ sym y.1), (sample-once plate samples metrics decisions, ((λ p q x y. x.1 ∙ sym y.1), ((λ p q x y. x.1 ∙ sym y.1), ((λ p q x y. x.1 ∙ sym y.1), tt))))))

    pub firmness-determined : (r s : Result Flag Refusal) (m n : List ℤ) (d e : List ℕ) → TellsFirmness plate samples position metrics decisions m d r → TellsFirmness plate samples position metrics decisions n e s
        → (r ≡ s) × (m ≡ n) × (d ≡ e)
    firmness-determined (Ok f) (Ok g) m n d e x y =
        (ap Ok (flag_same f g x.1 y.1), x.2.metrics_zero ∙ sym y.2.metrics_zero, x.2.decisions_zero ∙ sym y.2.decisions_zero)
    firmness-determined (Ok f) (Err q) m n d e x y = absurd (never_both conditions x.0 q y.0)
    firmness-determined (Err p) (Ok g) m n d e x y = absurd (never_both conditions y.0 p x.0)
    firmness-determined (Err p) (Err q) m n d e x y =
        (ap Err (refuses-once conditions single p q x.0 y.0), x.1 ∙ sym y.1, x.2 ∙ sym y.2)
