-- Rooms that a sweep has kept behind the needed places, and whose needed places are then put to zero.
use lib.IntN.{pos, ℤ}
use lib.ListN.{drop, get_or, length, length-drop, replicate}
use lib.Seq.{ext_get_or, get_or-drop}
use mathlib.Core.List.{◌++◌, List}
use mathlib.Core.Path.{ap, ap₂, sym, ◌∙◌, ◌≡◌}
use native.Mathlib.Omega.{arith}
use Prim.Native.Nat.{◌+◌, ◌-◌, ℕ, ◌≤◌}
use Rattle.decoding.proofs.PlateSizes.{plate_sizes}
use Rattle.decoding.specs.Decode.{Zeroed, decision_need, metric_need}
use Rattle.decoding.specs.Sweeping.{Kept}
use Rattle.plates.specs.declared.Plate.{Plate}
use Rattle.plates.specs.Prepare.{IsPrepared}

-- the metric room alone: what stands behind the needed places is as it was
module _ (plate : Plate) (given : IsPrepared plate) (metrics metrics' : List ℤ) (size : length metrics' ≡ length metrics)
    (rest : (i : ℕ) → (plate_sizes plate given).half + (plate_sizes plate given).half ≤ i → get_or metrics' i (pos 0) ≡ get_or metrics i (pos 0)) where
  metrics-behind : (need : ℕ) → need ≡ metric_need plate → drop need metrics' ≡ drop need metrics
  metrics-behind need e =
      ext_get_or (pos 0) (drop need metrics') (drop need metrics) (length-drop need metrics' ∙ ap (λ (x : ℕ). x - need) size ∙ sym (length-drop need metrics))
      (λ i h. get_or-drop need metrics' i (pos 0) ∙ rest (need + i) (omega (arith, e)) ∙ sym (get_or-drop need metrics i (pos 0)))

  pub metrics-zeroed : (m : ℕ) → m ≡ metric_need plate → (metrics'' : List ℤ) → metrics'' ≡ replicate m (pos 0) ++ drop m metrics'
      → metrics'' ≡ replicate (metric_need plate) (pos 0) ++ drop (metric_need plate) metrics
  metrics-zeroed m e metrics'' x = x ∙ ap₂ (λ (k : ℕ) (l : List ℤ). replicate k (pos 0) ++ l) e (metrics-behind m e ∙ ap (λ (k : ℕ). drop k metrics) e)

-- both rooms
module _ (plate : Plate) (given : IsPrepared plate) (metrics : List ℤ) (decisions : List ℕ) (metrics' : List ℤ) (decisions' : List ℕ)
    (k : Kept (plate_sizes plate given) metrics decisions metrics' decisions') where
  decisions-behind : (need : ℕ) → need ≡ decision_need plate → drop need decisions' ≡ drop need decisions
  decisions-behind need e =
      ext_get_or 0 (drop need decisions') (drop need decisions) (length-drop need decisions' ∙ ap (λ (x : ℕ). x - need) k.decisions_size ∙ sym (length-drop need decisions))
      (λ i h. get_or-drop need decisions' i 0 ∙ k.decisions_rest (need + i) (omega (arith, e)) ∙ sym (get_or-drop need decisions i 0))

  pub zeroed : (m d : ℕ) → m ≡ metric_need plate → d ≡ decision_need plate → (metrics'' : List ℤ) → metrics'' ≡ replicate m (pos 0) ++ drop m metrics'
      → (decisions'' : List ℕ) → decisions'' ≡ replicate d 0 ++ drop d decisions' → Zeroed plate metrics metrics'' decisions decisions''
  zeroed m d em ed metrics'' x decisions'' y = record {
    metrics_zero = metrics-zeroed plate given metrics metrics' k.metrics_size k.metrics_rest m em metrics'' x;
    decisions_zero = y ∙ ap₂ (λ (k : ℕ) (l : List ℕ). replicate k 0 ++ l) ed (decisions-behind d ed ∙ ap (λ (k : ℕ). drop k decisions) ed);
  }
