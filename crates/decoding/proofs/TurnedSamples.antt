-- Samples with turned signs: as many, as large, and what a word scores with them.
use lib.Bits.{bit_xor, differ}
use lib.IntN.{◌+ℤ◌, nat_abs, neg_ℤ-neg_ℤ, pos, ℤ}
use lib.ListN.{get_or, length}
use mathlib.Core.List.{List, [], ◌∷◌}
use mathlib.Core.Path.{ap, ap₂, refl, sym, ◌∙◌, ◌≡◌}
use mir.Syntax.{w32}
use mir.Val.{of_z, to_z}
use native.Mathlib.Omega.{arith}
use Prim.Native.Nat.{◌%◌, ◌/◌, ◌<◌, ◌^◌, suc, zero, ℕ, ◌≤◌}
use Rattle.decoding.proofs.Integers.{back}
use Rattle.decoding.proofs.MetricBounds.{Within, signed-size}
use Rattle.decoding.proofs.Preference.{sign-copy}
use Rattle.decoding.specs.Metric.{metric_of}
use Rattle.decoding.specs.Taking.{signed}
use Rattle.decoding.specs.Turning.{turned_by}
use Rattle.trellises.proofs.MaskedGraph.{xor-twice}
use Rattle.words.proofs.Word.{xor-half, xor-odd}
use Rattle.words.specs.Word.{bit}

pub turned-length : (m : ℕ) (ys : List ℤ) → length (turned_by m ys) ≡ length ys
turned-length m [] = refl
turned-length m (y ∷ ys) = ap suc (turned-length (m / 2) ys)

pub signed-zero : (d : ℕ) → signed d (pos 0) ≡ pos 0
signed-zero zero = refl
signed-zero (suc d) = refl

pub turned-at : (m : ℕ) (ys : List ℤ) (t : ℕ) → get_or (turned_by m ys) t (pos 0) ≡ signed (bit m t) (get_or ys t (pos 0))
turned-at m [] t = sym (signed-zero (bit m t))
turned-at m (y ∷ ys) zero = refl
turned-at m (y ∷ ys) (suc t) = turned-at (m / 2) ys t

-- each as large as it was
pub turned-size : (m : ℕ) (ys : List ℤ) (t : ℕ) → nat_abs (get_or (turned_by m ys) t (pos 0)) ≡ nat_abs (get_or ys t (pos 0))
turned-size m ys t = ap nat_abs (turned-at m ys t) ∙ signed-size (bit m t) (get_or ys t (pos 0))

pub turned-within : (most m : ℕ) (ys : List ℤ) → Within most ys → Within most (turned_by m ys)
turned-within most m ys h i k = omega (arith, turned-size m ys i, h i (omega (arith, k, turned-length m ys)))

-- the machine's copy of a gain, and of the gain turned
module _ (m : ℕ) (ys : List ℤ) (t : ℕ) (small : nat_abs (get_or ys t (pos 0)) ≤ 2 ^ 20) {g : ℤ} (is : g ≡ get_or ys t (pos 0)) where
  gain-copy : to_z w32 (of_z w32 g) ≡ get_or ys t (pos 0)
  gain-copy = ap (λ (x : ℤ). to_z w32 (of_z w32 x)) is ∙ back (get_or ys t (pos 0)) (omega arith)

  pub gain-small : nat_abs (to_z w32 (of_z w32 g)) ≤ 2 ^ 20
  gain-small = omega (arith, ap nat_abs gain-copy)

  pub gain-turned : (d : ℕ) (s : ℤ) → d ≡ bit m t → s ≡ signed d (to_z w32 (of_z w32 g)) → to_z w32 (of_z w32 s) ≡ get_or (turned_by m ys) t (pos 0)
  gain-turned d s e f = sign-copy (bit m t) (get_or ys t (pos 0)) s small (f ∙ ap₂ signed e gain-copy) ∙ sym (turned-at m ys t)

-- turned twice
signed-twice : (a b : ℕ) (y : ℤ) → a < 2 → b < 2 → signed a (signed b y) ≡ signed (differ a b) y
signed-twice zero b y h k = refl
signed-twice (suc zero) zero y h k = refl
signed-twice (suc zero) (suc zero) y h k = neg_ℤ-neg_ℤ y
signed-twice (suc zero) (suc (suc b)) y h k = absurd (omega arith)
signed-twice (suc (suc a)) b y h k = absurd (omega arith)

-- a word scores with them what the word with those positions turned scores with the samples
pub turned-metric : (m : ℕ) (ys : List ℤ) (w : ℕ) → metric_of (turned_by m ys) w ≡ metric_of ys (bit_xor w m)
turned-metric m [] w = refl
turned-metric m (y ∷ ys) w =
    ap₂ ◌+ℤ◌ (signed-twice (w % 2) (m % 2) y (omega arith) (omega arith) ∙ ap (λ (d : ℕ). signed d y) (sym (xor-odd w m)))
    (turned-metric (m / 2) ys (w / 2) ∙ ap (metric_of ys) (sym (xor-half w m)))

-- so the word with those positions turned scores with them what the word scores with the samples
pub turned-back : (m : ℕ) (ys : List ℤ) (w : ℕ) → metric_of (turned_by m ys) (bit_xor w m) ≡ metric_of ys w
turned-back m ys w = turned-metric m ys (bit_xor w m) ∙ ap (metric_of ys) (xor-twice w m)
