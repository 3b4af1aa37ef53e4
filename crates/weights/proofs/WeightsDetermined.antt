-- Determined: two replies that meet the promise of `count_weights` are equal, and so is what stands in the lent rooms.
use Rattle.std.proofs.Common.{Result, Ok, Err, Option, Some, None}
use Rattle.plates.specs.declared.Refusal.{Refusal}
use lib.Count.{ones, ones-le}
use lib.ListN.{get_or, take}
use lib.Seq.{ext_get_or}
use mathlib.Core.List.{List}
use mathlib.Core.Path.{ap, refl, sym, ◌∙◌, ◌≡◌}
use native.Mathlib.Decide.{dec_lt, ℕ_discrete}
use native.Mathlib.Omega.{arith}
use Prim.Native.Nat.{◌<◌, ℕ}
use Rattle.plates.proofs.Refusing.{Single, never_both, refuses-once}
use Rattle.plates.specs.declared.Plate.{Plate}
use Rattle.plates.specs.Prepare.{IsPrepared}
use Rattle.weights.proofs.CountPairs.{number-once}
use Rattle.weights.specs.Weights.{CountsWeights, Filled, LeastWeight, TellsNeed, weight_conditions}
use Rattle.words.specs.Sum.{sum_of}

-- where k is 0 the zero word is the only codeword, and no weight is above zero
pub none_above : (plate : Plate) → plate.k ≡ 0 → (w : ℕ) → LeastWeight plate w → ⊥
none_above plate e w l = omega (arith, l.above, sym l.has.weight ∙ ap ones zero_word, ones-le 0 0 (omega arith))
  where
    zero_word : l.word ≡ 0
    zero_word = sym l.has.codeword.sum ∙ ap (λ (k : ℕ). sum_of (take k plate.rows) l.has.codeword.by) e

-- there is one smallest weight above zero
pub least-once : (plate : Plate) (v w : ℕ) → LeastWeight plate v → LeastWeight plate w → v ≡ w
least-once plate v w a b = omega (arith, a.smallest b.word w b.has b.above, b.smallest a.word v a.has a.above)

-- a plate has one need
pub working-need-determined : (plate : Plate) {r s : ℕ} → TellsNeed plate r → TellsNeed plate s → r ≡ s
working-need-determined plate {r} {s} a b = go (ℕ_discrete r s)
  where
    go : Dec (r ≡ s) → r ≡ s
    go (yes e) = e
    go (no d) =
        let n : IsPrepared plate → ⊥ = λ g. d (a.prepared_is g ∙ sym (b.prepared_is g)) in
        absurd (d (a.other_is n ∙ sym (b.other_is n)))

module _ (plate : Plate) (counts working : List ℕ) where
  single : Single (weight_conditions plate counts working)
  single = ((λ p q x y. x.1 ∙ sym y.1), ((λ p q x y. x.1 ∙ sym y.1), ((λ p q x y. x.1 ∙ sym y.1), tt)))

  module _ {counts' counts'' working' working'' : List ℕ} where
    same-counts : Filled plate counts working counts' working' → Filled plate counts working counts'' working'' → counts' ≡ counts''
    same-counts a b = ext_get_or 0 counts' counts'' (a.size ∙ sym b.size) (λ i l. go i (dec_lt i 65))
      where
        go : (i : ℕ) → Dec (i < 65) → get_or counts' i 0 ≡ get_or counts'' i 0
        go i (yes h) = number-once (a.here i h) (b.here i h)
        go i (no h) = a.behind i (omega arith) ∙ sym (b.behind i (omega arith))

    pub count-weights-determined : (r s : Result (Option ℕ) Refusal) → CountsWeights plate counts working counts' working' r
        → CountsWeights plate counts working counts'' working'' s
        → (r ≡ s) × (counts' ≡ counts'') × (working' ≡ working'')
    count-weights-determined (Err p) (Err q) x y =
        (ap Err (refuses-once (weight_conditions plate counts working) single p q x.0 y.0), x.1 ∙ sym y.1, x.2 ∙ sym y.2)
    count-weights-determined (Err p) (Ok (Some w)) x y = absurd (never_both (weight_conditions plate counts working) y.0 p x.0)
    count-weights-determined (Err p) (Ok None) x y = absurd (never_both (weight_conditions plate counts working) y.0 p x.0)
    count-weights-determined (Ok (Some v)) (Err q) x y = absurd (never_both (weight_conditions plate counts working) x.0 q y.0)
    count-weights-determined (Ok (Some v)) (Ok (Some w)) x y = (ap (λ x. Ok (Some x)) (least-once plate v w x.1 y.1), same-counts x.2 y.2, x.2.zeroed ∙ sym y.2.zeroed)
    count-weights-determined (Ok (Some v)) (Ok None) x y = absurd (none_above plate y.1 v x.1)
    count-weights-determined (Ok None) (Err q) x y = absurd (never_both (weight_conditions plate counts working) x.0 q y.0)
    count-weights-determined (Ok None) (Ok (Some w)) x y = absurd (none_above plate x.1 w y.1)
    count-weights-determined (Ok None) (Ok None) x y = (refl, same-counts x.2 y.2, x.2.zeroed ∙ sym y.2.zeroed)
