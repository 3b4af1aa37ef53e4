-- Determined: a plate has one text of its weights, and two replies with the rooms after them that meet the promise of `write_weights` are equal.
use Rattle.std.proofs.Common.{Result, Ok, Err}
use Rattle.plates.specs.declared.Refusal.{Refusal}
use lib.ListN.{drop, length}
use lib.Seq.{ext_get_or}
use mathlib.Core.Bool.{Bool, false, true}
use mathlib.Core.List.{◌++◌, List}
use mathlib.Core.Path.{◌≡◌, ap, refl, subst, sym, ◌∙◌}
use native.Mathlib.Omega.{arith}
use Prim.Native.Nat.{ℕ}
use Rattle.outlines.proofs.Determined.{one-opened}
use Rattle.outlines.specs.declared.opening.Which.TheVariants.{Own}
use Rattle.outlines.specs.WeightLines.{WeighsAs, WeighsBy, WeightText, WritesWeights, last_line, weighing_conditions, weight_lines}
use Rattle.plates.proofs.Refusing.{Single, never_both, refuses-once}
use Rattle.plates.specs.declared.Plate.{Plate}
use Rattle.plates.specs.declared.Prepared.{Prepared}
use Rattle.sheets.specs.Sheet.{reading}
use Rattle.weights.proofs.CountPairs.{number-once}
use Rattle.weights.proofs.WeightsDetermined.{least-once, none_above}
use Rattle.weights.specs.Weights.{LeastIs}

-- one last line
last-once : (plate : Plate) (none none' : Bool) (least least' : ℕ) → LeastIs plate none least → LeastIs plate none' least'
    → last_line none least ≡ last_line none' least'
unfolding last_line
last-once plate true true least least' a b = refl
last-once plate true false least least' a b = absurd (none_above plate a least' b)
last-once plate false true least least' a b = absurd (none_above plate b least a)
last-once plate false false least least' a b = ap (last_line false) (least-once plate least least' a b)

pub text-once : (plate : Plate) (a b : List ℕ) → WeightText plate a → WeightText plate b → a ≡ b
text-once plate a b x y = x.is ∙ ap first counts_same ∙ ap (λ (l : List ℕ). weight_lines 0 y.counts ++ l) last-same ∙ sym y.is
  where
    first : List ℕ → List ℕ
    first counts = weight_lines 0 counts ++ last_line x.none x.least

    counts_same : x.counts ≡ y.counts
    counts_same =
        ext_get_or 0 x.counts y.counts (x.size ∙ sym y.size)
        (λ i l. number-once (x.numbers i (omega (arith, l, x.size))) (y.numbers i (omega (arith, l, x.size))))

    last-same : last_line x.none x.least ≡ last_line y.none y.least
    last-same = last-once plate x.none y.none x.least y.least x.least_is y.least_is

module _ (plate : Plate) (working room : List ℕ) where
  single : Single (weighing_conditions plate working room)
  single = ((λ p q x y. x.1 ∙ sym y.1), ((λ p q x y. x.1 ∙ sym y.1), ((λ p q x y. x.1 ∙ sym y.1), tt)))

  module _ {working' working'' room' room'' : List ℕ} where
    as-once : (r s : Result ℕ Refusal) → WeighsAs plate working room working' room' r → WeighsAs plate working room working'' room'' s
        → (r ≡ s) × (working' ≡ working'') × (room' ≡ room'')
    as-once (Err p) (Err q) x y =
        (ap Err (refuses-once (weighing_conditions plate working room) single p q x.0 y.0), x.1 ∙ sym y.1, x.2 ∙ sym y.2)
    as-once (Err p) (Ok size) x y = absurd (never_both (weighing_conditions plate working room) y.0 p x.0)
    as-once (Ok size) (Err q) x y = absurd (never_both (weighing_conditions plate working room) x.0 q y.0)
    as-once (Ok size) (Ok size') x y =
        let e = text-once plate x.1.text y.1.text x.1.is_text y.1.is_text in (
          ap Ok (x.1.size_is ∙ ap length e ∙ sym y.1.size_is),
          x.1.zeroed ∙ sym y.1.zeroed,
          x.1.room_is ∙ ap (λ (t : List ℕ). t ++ drop (length t) room) e ∙ sym y.1.room_is,
        )

    by-once : (v : Result (Unit {0}) Refusal) {r s : Result ℕ Refusal} → WeighsBy v plate working room r working' room' → WeighsBy v plate working room s working'' room''
        → (r ≡ s) × (working' ≡ working'') × (room' ≡ room'')
    by-once (Err q) x y = (x.0 ∙ sym y.0, x.1 ∙ sym y.1, x.2 ∙ sym y.2)
    by-once (Ok _) {r} {s} x y = as-once r s x.is y.is

pub write-weights-determined : (input working room : List ℕ) {r s : Result ℕ Refusal} {working' working'' room' room'' : List ℕ}
    → WritesWeights input working room r working' room' → WritesWeights input working room s working'' room''
    → (r ≡ s) × (working' ≡ working'') × (room' ≡ room'')
write-weights-determined input working room {r} {s} {working'} {working''} {room'} {room''} x y =
    let e = one-opened Own (reading input) x.prepared y.prepared x.opened.is y.opened.is in
    by-once y.prepared.plate working room y.prepared.verdict
    (subst (λ (p : Prepared). WeighsBy p.verdict p.plate working room r working' room') e x.is) y.is
