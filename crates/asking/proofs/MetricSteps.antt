-- The metric of a word, built from the last position to the first.
use lib.IntN.{nat_abs, pos, ℤ, ◌+ℤ◌}
use lib.ListN.{drop, drop_of_length-le, get_or, length, length-drop}
use lib.Pow.{shr-shr}
use lib.Seq.{drop-cons, get_or-drop}
use mathlib.Core.List.{List, []}
use mathlib.Core.Path.{ap, ap₂, subst, sym, ◌∙◌, ◌≡◌}
use native.Mathlib.Numerals.{add-one}
use native.Mathlib.Omega.{arith}
use Prim.Native.Nat.{◌*◌, ◌+◌, ◌-◌, ◌/◌, ◌<◌, ◌^◌, suc, ℕ, ◌≤◌}
use Rattle.asking.specs.Working.{Sampled}
use Rattle.decoding.proofs.MetricBounds.{Within, metric-within}
use Rattle.decoding.specs.Metric.{limit, metric_of}
use Rattle.decoding.specs.Taking.{signed}
use Rattle.words.proofs.Word.{bit-div}
use Rattle.words.specs.Word.{bit}

-- the metric of the positions from i on
abbrev pub metric_from : List ℤ → ℕ → ℕ → ℤ
metric_from ys w i = metric_of (drop i ys) (w / 2 ^ i)

module _ (ys : List ℤ) (w : ℕ) where
  pub metric-start : pos 0 ≡ metric_from ys w (length ys)
  metric-start =
      let e : drop (length ys) ys ≡ [] = drop_of_length-le ys {i = length ys} (omega arith) in
      sym (ap (λ (l : List ℤ). metric_of l (w / 2 ^ length ys)) e)

  metric-on : (i : ℕ) → i < length ys → signed (bit w i) (get_or ys i (pos 0)) +ℤ metric_from ys w (suc i) ≡ metric_from ys w i
  metric-on i h =
      let d : w / 2 ^ i / 2 ≡ w / 2 ^ suc i = shr-shr w i 1 ∙ ap (λ (x : ℕ). w / 2 ^ x) (add-one i) in
      sym (ap (λ (l : List ℤ). metric_of l (w / 2 ^ i)) (drop-cons ys i (pos 0) h)
      ∙ ap₂ (λ (x y : ℕ). signed x (get_or ys i (pos 0)) +ℤ metric_of (drop (suc i) ys) y) (sym (bit-div i w)) d)

  -- the loop's step, from i down to i - 1
  pub metric-down : (i : ℕ) (m : ℤ) → 0 < i → i ≤ length ys → m ≡ metric_from ys w i
      → signed (bit w (i - 1)) (get_or ys (i - 1) (pos 0)) +ℤ m ≡ metric_from ys w (i - 1)
  metric-down i m p h e =
      let d : i ≡ suc (i - 1) = omega arith in
      ap (λ (z : ℤ). signed (bit w (i - 1)) (get_or ys (i - 1) (pos 0)) +ℤ z) (e ∙ ap (metric_from ys w) d) ∙ metric-on (i - 1) (omega arith)

  pub metric-end : (i : ℕ) (m : ℤ) → i ≤ 0 → m ≡ metric_from ys w i → m ≡ metric_of ys w
  metric-end i m h e =
      let z : i ≡ 0 = omega arith in
      let one : w / 1 ≡ w = omega arith in
      e ∙ ap (metric_from ys w) z ∙ ap (metric_of ys) one

  -- no part of it is large
  pub metric-small : Sampled ys → (i : ℕ) (m : ℤ) → m ≡ metric_from ys w i → nat_abs m ≤ 64 * limit
  metric-small s i m e = subst (λ (z : ℤ). nat_abs z ≤ 64 * limit) (sym e) (omega (arith, bound, shorter))
    where
      rest : Within limit (drop i ys)
      rest j h = subst (λ (z : ℤ). nat_abs z ≤ limit) (sym (get_or-drop i ys j (pos 0))) (s.within (i + j) (omega (arith, h, length-drop i ys)))

      shorter : length (drop i ys) ≤ 64
      shorter = omega (arith, length-drop i ys, s.few)

      bound : nat_abs (metric_from ys w i) ≤ limit * length (drop i ys)
      bound = metric-within limit (drop i ys) rest (w / 2 ^ i)
