-- The samples of a block as they are decoded: those that were read, or none where there were more than 64.
use Rattle.std.proofs.Common.{◌≡◌, ℕ, suc, ◌<◌, ◌≤◌, Bool, true, false, cond, ltb, List, [], ◌∷◌, length, take, ℤ, sym, refl, ap, inl, inr, arith, ltb-false, ltb-true, Result, Ok, Err}
use Rattle.plates.specs.declared.Plate.{Plate}
use Rattle.plates.specs.declared.Refusal.{Refusal}
use Rattle.plates.specs.declared.Refusal.TheVariants.{NotPrepared, SampleCount}
use Rattle.plates.proofs.SoundIsPrepared.{sound}
use Rattle.plates.specs.Prepare.{not_prepared}
use Rattle.plates.specs.Refusals.{Refuses}
use Rattle.decoding.specs.declared.Answer.{Answer}
use Rattle.decoding.specs.Decode.{Decodes, decode_conditions, sample_count}
use Rattle.sheets.proofs.Turns.{in-order-length}
use Rattle.sheets.specs.Blocks.{placed}
use Rattle.sheets.specs.Room.{laid}
use Rattle.sheets.specs.Turning.{in_order}
use Rattle.sheets.specs.declared.Order.{Order}
use Rattle.reports.specs.Steps.{decodable}

module _ {A : Type 0} where
  -- values laid into a room that is long enough stand at its start
  pub laid-start : (vs room : List A) → length vs ≤ length room → take (length vs) (laid vs room) ≡ vs
  laid-start [] room h = refl
  laid-start (v ∷ vs) [] h = absurd (omega arith)
  laid-start (v ∷ vs) (x ∷ room) h = ap (λ (r : List A). v ∷ r) (laid-start vs room (omega arith))

  pub laid-length : (vs room : List A) → length (laid vs room) ≡ length room
  laid-length [] room = refl
  laid-length (v ∷ vs) [] = refl
  laid-length (v ∷ vs) (x ∷ room) = ap suc (laid-length vs room)

module _ (plate : Plate) (samples metrics : List ℤ) (decisions : List ℕ) (long : 64 < length samples) where
  -- a prepared plate has another number of samples, whether none or more than 64
  none-fits : ((p : Refusal) → not_prepared plate p → ⊥) → (plate.n ≡ 0 → ⊥) × (length samples ≡ plate.n → ⊥)
  none-fits passes = (
    (λ e. passes NotPrepared ((λ p. omega (arith, (sound p).positive)), refl)),
    (λ e. passes NotPrepared ((λ p. omega (arith, (sound p).short)), refl)),
  )

  no-count : ((p : Refusal) → not_prepared plate p → ⊥) → ((p : Refusal) → sample_count plate [] p → ⊥) → ⊥
  no-count passes count = count SampleCount ((λ e. (none-fits passes).0 (sym e)), refl)

  -- decoding refuses no samples as it refuses too many
  pub none-decoded : (metrics' : List ℤ) (decisions' : List ℕ) (r : Result Answer Refusal) → Decodes plate [] metrics decisions metrics' decisions' r
      → Decodes plate samples metrics decisions metrics' decisions' r
  none-decoded m d (Ok a) x = absurd (no-count x.0.0 x.0.1.0)
  none-decoded m d (Err q) x = (refuses x.0, x.1, x.2)
    where
      refuses : Refuses (decode_conditions plate [] metrics decisions) q → Refuses (decode_conditions plate samples metrics decisions) q
      refuses (inl n) = inl n
      refuses (inr (n, inl s)) = inr (n, inl ((λ e. (none-fits n).1 e), s.1))
      refuses (inr (n, inr s)) = absurd (no-count n s.0)

module _ (plate : Plate) (order : Order) (vs zeros metrics : List ℤ) (decisions : List ℕ) (size : length zeros ≡ 64) (metrics' : List ℤ) (decisions' : List ℕ) (r : Result Answer Refusal) where
  -- what was decoded of the places is what the block's samples decode to
  pub places-decoded : Decodes plate (take (decodable (length vs)) (placed order vs zeros)) metrics decisions metrics' decisions' r
      → Decodes plate (in_order order vs) metrics decisions metrics' decisions' r
  places-decoded = by (ltb 64 (length vs)) refl
    where
      l : length (in_order order vs) ≡ length vs
      l = in-order-length order vs

      by : (t : Bool) → ltb 64 (length vs) ≡ t
          → Decodes plate (take (cond t 0 (length vs)) (cond t zeros (laid (in_order order vs) zeros))) metrics decisions metrics' decisions' r
          → Decodes plate (in_order order vs) metrics decisions metrics' decisions' r
      by true e x = none-decoded plate (in_order order vs) metrics decisions (omega (arith, l, ltb-true 64 (length vs) e)) metrics' decisions' r x
      by false e x = rw (← l, laid-start (in_order order vs) zeros (omega (arith, l, ltb-false 64 (length vs) e, size))) at x

module _ (plate : Plate) (order : Order) (vs zeros metrics : List ℤ) (decisions : List ℕ) (size : length zeros ≡ 64) (metrics' : List ℤ) (decisions' : List ℕ) (a : Answer) where
  -- where an answer was found, the places hold the block's samples
  pub places-found : Decodes plate (take (decodable (length vs)) (placed order vs zeros)) metrics decisions metrics' decisions' (Ok a)
      → take (decodable (length vs)) (placed order vs zeros) ≡ in_order order vs
  places-found = by (ltb 64 (length vs)) refl
    where
      l : length (in_order order vs) ≡ length vs
      l = in-order-length order vs

      by : (t : Bool) → ltb 64 (length vs) ≡ t
          → Decodes plate (take (cond t 0 (length vs)) (cond t zeros (laid (in_order order vs) zeros))) metrics decisions metrics' decisions' (Ok a)
          → take (cond t 0 (length vs)) (cond t zeros (laid (in_order order vs) zeros)) ≡ in_order order vs
      by true e x = absurd (no-count plate (in_order order vs) metrics decisions (omega (arith, l, ltb-true 64 (length vs) e)) x.0.0 x.0.1.0)
      by false e x = rw (← l) (laid-start (in_order order vs) zeros (omega (arith, l, ltb-false 64 (length vs) e, size)))
