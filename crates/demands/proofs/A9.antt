-- A9, weights of a plate: `count_weights` gives the number of codewords of every weight 0 to n, and the smallest weight above zero. Definitions:
-- weights/specs/Number (`NumberOf`) and Weights (`OfWeight`, `LeastWeight`, the conditions, `Filled`, `CountsWeights`). The lines that are printed:
-- listings/specs/Lines (`weight_line`, `least_line`, `no_least_line`).
use Rattle.std.proofs.Common.{Result, Ok, Err, Option, Some, None}
use lib.Count.{ones}
use lib.ListN.{drop, get_or, length, replicate}
use mathlib.Core.List.{◌++◌, List, [], ◌∷◌}
use mathlib.Core.Logic.Iff
use mathlib.Core.Logic.{◌↔◌}
use mathlib.Core.Path.{refl, subst, sym, ◌≡◌}
use Prim.Native.Nat.{◌*◌, ◌<◌, ◌^◌, ℕ, ◌≤◌}
use Rattle.demands.proofs.Demand1.{its-number}
use Rattle.demands.specs.Masks.{with_mask}
use Rattle.demands.specs.Refusing.{Numbered, RefusesExactly}
use Rattle.decoding.specs.Decode.{widest}
use Rattle.plates.specs.Code.{InCode}
use Rattle.plates.specs.declared.Kind.{Kind}
use Rattle.plates.specs.declared.Plate.{Plate}
use Rattle.plates.specs.declared.Prepared.{Prepared}
use Rattle.plates.specs.declared.Refusal.{Refusal}
use Rattle.plates.specs.Prepare.{IsPrepared, Prepares}
use Rattle.trellises.proofs.AcceptedIsPrepared.{accepted-code, accepted-length}
use Rattle.weights.proofs.WeightsDetermined.{count-weights-determined}
use Rattle.weights.proofs.WeightsMean.{counts-add-up, least-weight, none-exactly}
use Rattle.weights.specs.Number.{NumberOf, total}
use Rattle.weights.specs.Weights.{CountsWeights, Filled, LeastWeight, NumberOfWeight, weight_conditions, working_need}
use Rattle.words.specs.Choice.{count}

-- ---- refusals, in order: 5, 22, 8

module _ (plate : Plate) (counts working : List ℕ) where
  pub weights-numbers : Numbered (weight_conditions plate counts working) (5 ∷ 22 ∷ 8 ∷ [])
  weights-numbers = (its-number, (its-number, (its-number, tt)))

  -- the working room: 130 * 2^m counts
  pub working-need-is : working_need plate ≡ 130 * 2 ^ widest plate
  working-need-is = refl

  module _ (counts' working' : List ℕ) (r : Result (Option ℕ) Refusal) (p : CountsWeights plate counts working counts' working' r) where
    -- refused exactly under them
    pub weights-refuse-exactly : RefusesExactly Err (weight_conditions plate counts working) r
    weights-refuse-exactly q = (
      (λ e. (subst (CountsWeights plate counts working counts' working') e p).0),
      λ h. (count-weights-determined plate counts working r (Err q) p (h, refl, refl)).0,
    )

    -- a refused call changes nothing lent
    pub weights-refused-unchanged : (q : Refusal) → r ≡ Err q → (counts' ≡ counts) × (working' ≡ working)
    weights-refused-unchanged q e = let x = subst (CountsWeights plate counts working counts' working') e p in (x.1, x.2)

    module _ (not : (q : Refusal) → r ≡ Err q → ⊥) where
      filled : Filled plate counts working counts' working'
      filled = go r refl p
        where
          go : (s : Result (Option ℕ) Refusal) → r ≡ s → CountsWeights plate counts working counts' working' s → Filled plate counts working counts' working'
          go (Err q) e x = absurd (not q e)
          go (Ok (Some w)) e x = x.2
          go (Ok None) e x = x.2

      -- else the 65 lent numbers are the numbers of codewords of each weight, zero beyond n; what stands behind them is as it was
      pub weights-counted : (w : ℕ) → w < 65 → NumberOfWeight plate w (get_or counts' w 0)
      weights-counted = filled.here

      pub weights-zero-beyond : (w : ℕ) → plate.n < w → w < 65 → get_or counts' w 0 ≡ 0
      weights-zero-beyond = filled.beyond

      pub weights-behind : (length counts' ≡ length counts) × ((i : ℕ) → 65 ≤ i → get_or counts' i 0 ≡ get_or counts i 0)
      weights-behind = (filled.size, filled.behind)

      -- the working room that it needs is zero, and the rest as it was
      pub weights-zeroes-working : working' ≡ replicate (working_need plate) 0 ++ drop (working_need plate) working
      weights-zeroes-working = filled.zeroed

      -- all counts add to 2^k
      pub weights-add-up : total 65 (λ w. get_or counts' w 0) ≡ 2 ^ plate.k
      weights-add-up = counts-add-up plate counts working counts' working' r p not

      -- "none" is said exactly where k is 0
      pub none-where-k-is-zero : (r ≡ Ok None) ↔ (plate.k ≡ 0)
      none-where-k-is-zero = none-exactly plate counts working counts' working' r p not

    -- the smallest weight above zero: some codeword has it, and none above zero has a smaller one
    pub least-is-smallest : (w : ℕ) → r ≡ Ok (Some w) → LeastWeight plate w
    least-is-smallest w e = (subst (CountsWeights plate counts working counts' working') e p).1

    -- by the counts: above zero at it, and zero at each smaller one above 0
    pub least-by-counts : IsPrepared plate → (w : ℕ) → r ≡ Ok (Some w)
        → (0 < w) × (w ≤ plate.n) × (0 < get_or counts' w 0) × ((v : ℕ) → 0 < v → v < w → get_or counts' v 0 ≡ 0)
    least-by-counts given w e =
        least-weight plate counts working counts' working' given w (subst (CountsWeights plate counts working counts' working') e p)

-- ---- of the code of a matrix, where preparing it with a mask accepts: the mask adds nothing to the weights

module _ (n : ℕ) (kind : Kind) (rows : List ℕ) (mask : ℕ) (r : Prepared) (p : Prepares n kind rows mask r) (e : r.verdict ≡ Ok tt) where
  -- c is the number of codewords with w ones
  pub weights-of-matrix : (w c : ℕ) → NumberOfWeight r.plate w c → NumberOf (λ x. InCode kind n rows x × (ones x ≡ w)) (2 ^ n) c
  weights-of-matrix w c k = record {
    test = k.test;
    right = λ x h. Iff.trans (k.right x (subst (λ (m : ℕ). x < 2 ^ m) same_length h)) (
      (λ o. ((accepted-code n kind rows mask r p e x).1 o.codeword, o.weight)),
      λ o. record { codeword = (accepted-code n kind rows mask r p e x).0 o.0; weight = o.1 },
    );
    number = subst (λ (m : ℕ). count (2 ^ m) k.test ≡ c) (accepted-length n kind rows mask r p e) k.number;
  }
    where
      same_length : n ≡ r.plate.n
      same_length = sym (accepted-length n kind rows mask r p e)

-- a plate with another mask has the same weights
pub weights-without-mask : (plate : Plate) (mask w c : ℕ) → NumberOfWeight (with_mask mask plate) w c → NumberOfWeight plate w c
weights-without-mask plate mask w c k = record {
  test = k.test;
  right = λ x h. (
    (λ t. let o = (k.right x h).0 t in record { codeword = o.codeword; weight = o.weight }),
    λ o. (k.right x h).1 (record { codeword = o.codeword; weight = o.weight }),
  );
  number = k.number;
}
