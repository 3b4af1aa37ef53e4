-- Determined: two replies that meet the promise of `encode`, or of `read_back`, are equal.
use Rattle.std.proofs.Common.{Result, Ok, Err}
use Rattle.plates.specs.declared.Refusal.{Refusal}
use lib.ListN.{length}
use mathlib.Core.Path.{ap, refl, subst, sym, ◌∙◌, ◌≡◌}
use native.Mathlib.Decide.{ℕ_discrete}
use Prim.Native.Nat.{◌<◌, ◌^◌, ℕ}
use Rattle.coding.proofs.PlateWords.{same-codeword}
use Rattle.coding.specs.Coding.{Encodes, ReadsBack, encode_conditions, read_conditions, word_of}
use Rattle.plates.proofs.Refusing.{Single, never_both, refuses-once}
use Rattle.plates.proofs.SoundIsPrepared.{sound, used-rows}
use Rattle.plates.specs.declared.Plate.{Plate}
use Rattle.plates.specs.declared.Refusal.TheVariants.{NotPrepared}
use Rattle.plates.specs.Prepare.{IsPrepared, rows_of}
use Rattle.plates.specs.Refusals.{Passes}
use Rattle.plates.specs.Sound.{Sound}
use Rattle.words.proofs.Span.{encode_injective}

-- different information below 2 ^ k makes different words
pub information-same : (plate : Plate) → Sound plate → (u v : ℕ) → u < 2 ^ plate.k → v < 2 ^ plate.k → word_of plate u ≡ word_of plate v → u ≡ v
information-same plate s u v hu hv e =
    let size : length (rows_of plate) ≡ plate.k = used-rows plate s.few s.table in
    encode_injective (rows_of plate) _ _ s.reduced.spans u v (subst (λ (x : ℕ). u < 2 ^ x) (sym size) hu) (subst (λ (x : ℕ). v < 2 ^ x) (sym size) hv)
    (same-codeword plate u v e)

module _ (plate : Plate) (information : ℕ) where
  encode-single : Single (encode_conditions plate information)
  encode-single = ((λ p q x y. x.1 ∙ sym y.1), ((λ p q x y. x.1 ∙ sym y.1), tt))

  pub encode-determined : (r s : Result ℕ Refusal) → Encodes plate information r → Encodes plate information s → r ≡ s
  encode-determined (Ok a) (Ok b) x y = ap Ok (x.1 ∙ sym y.1)
  encode-determined (Ok a) (Err q) x y = absurd (never_both (encode_conditions plate information) x.0 q y)
  encode-determined (Err p) (Ok b) x y = absurd (never_both (encode_conditions plate information) y.0 p x)
  encode-determined (Err p) (Err q) x y = ap Err (refuses-once (encode_conditions plate information) encode-single p q x y)

module _ (plate : Plate) (word : ℕ) where
  read-single : Single (read_conditions plate word)
  read-single = ((λ p q x y. x.1 ∙ sym y.1), ((λ p q x y. x.1 ∙ sym y.1), tt))

  -- a plate that is not refused is sound, twice denied
  not-unsound : Passes (read_conditions plate word) → (IsPrepared plate → ⊥) → ⊥
  not-unsound p n = p.0 NotPrepared (n, refl)

  pub read-back-determined : (r s : Result ℕ Refusal) → ReadsBack plate word r → ReadsBack plate word s → r ≡ s
  read-back-determined (Ok u) (Ok v) x y = ap Ok (same (ℕ_discrete u v))
    where
      same : Dec (u ≡ v) → u ≡ v
      same (yes e) = e
      same (no d) = absurd (not-unsound x.0 (λ p. d (information-same plate (sound p) u v x.1 y.1 (x.2 ∙ sym y.2))))
  read-back-determined (Ok u) (Err q) x y = absurd (never_both (read_conditions plate word) x.0 q y)
  read-back-determined (Err p) (Ok v) x y = absurd (never_both (read_conditions plate word) y.0 p x)
  read-back-determined (Err p) (Err q) x y = ap Err (refuses-once (read_conditions plate word) read-single p q x y)
