-- How the replies of weights and of the largest profile entry cross; that both calls are determined.
use Rattle.std.proofs.Common.{Option, Some, None}
use lib.ListN.{length, set}
use mathlib.Core.List.{List}
use mathlib.Core.Logic.{inl, inr}
use mathlib.Core.Path.{ap, ap₂, refl, sym, ◌∙◌, ◌≡◌}
use native.Mathlib.Omega.{arith}
use Prim.Native.Nat.{◌<◌, ℕ}
use Rattle.decoding.proofs.PlateSizes.{entry-widest}
use Rattle.decoding.specs.Needs.{widest_entry}
use Rattle.exports.proofs.CallsDetermined.{SameCell, calls-determined}
use Rattle.exports.specs.Calls.{Crossing, done}
use Rattle.std.specs.Prelude.{Err, Ok, Result}
use Rattle.exports.specs.Flat.{plate_of}
use Rattle.exports.specs.Promises.{HasCell, PlateLong}
use Rattle.exports.specs.Weighing.{CallsWeights, CallsWidest, TellsWidest, WeighsTo, Weighing, WeightCells, weighed_as, weight_cells, widest_conditions}
use Rattle.plates.proofs.Refusing.{Single, never_both, refuses-once}
use Rattle.plates.proofs.SoundIsPrepared.{sound}
use Rattle.plates.specs.declared.Plate.{Plate}
use Rattle.plates.specs.declared.Refusal.{Refusal}
use Rattle.plates.specs.declared.Refusal.TheVariants.{NotPrepared}
use Rattle.plates.specs.Prepare.{IsPrepared}
use Rattle.plates.specs.Refusals.{number}
use Rattle.weights.proofs.WeightsDetermined.{count-weights-determined}
use Rattle.weights.specs.Weights.{CountsWeights}

-- ---- weights

module _ (words : List ℕ) (lent : WeightCells) (counts working : List ℕ) (reply : Result (Option ℕ) Refusal) (shape : PlateLong words × HasCell lent.least)
    (weighs : CountsWeights (plate_of words) lent.counts lent.working counts working reply) where
  -- a code and cells that the reply crosses as
  crossed : {out : Crossing WeightCells} → out ≡ weighed_as lent counts working reply → CallsWeights words lent out.code out.cells
  crossed e =
      record { by_shape = inr (shape, record { reply = record { reply = reply; counts = counts; working = working }; promised = weighs; crosses = e }) }

  -- the smallest weight is in its cell
  pub weights-least : {w : ℕ} → reply ≡ Ok (Some w) → CallsWeights words lent done (weight_cells counts working (set lent.least 0 w))
  weights-least e = crossed (sym (ap (weighed_as lent counts working) e))

  -- 0 is, where there is none
  pub weights-none : reply ≡ Ok None → CallsWeights words lent done (weight_cells counts working (set lent.least 0 0))
  weights-none e = crossed (sym (ap (weighed_as lent counts working) e))

  -- the cell is as it was
  pub weights-refused : {q : Refusal} {r : ℕ} → reply ≡ Err q → r ≡ number q → CallsWeights words lent r (weight_cells counts working lent.least)
  weights-refused e f =
      crossed (ap (λ (x : ℕ). record { code = x; cells = weight_cells counts working lent.least }) f ∙ sym (ap (weighed_as lent counts working) e))

pub weights-call-determined : (words : List ℕ) (lent a b : WeightCells) (r s : ℕ) → CallsWeights words lent r a → CallsWeights words lent s b
    → ◌≡◌ {A = Crossing WeightCells} (record { code = r; cells = a }) (record { code = s; cells = b })
weights-call-determined words lent a b r s = calls-determined one
  where
    one : (x y : Weighing) → WeighsTo (plate_of words) lent x → WeighsTo (plate_of words) lent y → x ≡ y
    one x y p q =
        let same = count-weights-determined (plate_of words) lent.counts lent.working x.reply y.reply p q in
        ap₂ (λ (u : Result (Option ℕ) Refusal) (c : List ℕ). record { reply = u; counts = c; working = x.working }) same.0 same.1
        ∙ ap (λ (w : List ℕ). record { reply = y.reply; counts = y.counts; working = w }) same.2

-- ---- the largest profile entry

module _ {plate : Plate} where
  -- the plate is not prepared
  pub width-refused : (IsPrepared plate → ⊥) → TellsWidest plate (Err NotPrepared)
  width-refused n = inl (n, refl)

  -- it is: its profile has entries up to n
  pub profile-long : IsPrepared plate → plate.n < length plate.profile
  profile-long p = omega (arith, (sound p).short, (sound p).entries)

  -- and the largest of them is m
  pub width-found : {m : ℕ} → IsPrepared plate → m ≡ widest_entry plate.profile plate.n → TellsWidest plate (Ok m)
  width-found p e = (((λ q b. b.0 p), tt), e ∙ entry-widest plate p)

width-determined : (plate : Plate) (r s : Result ℕ Refusal) → TellsWidest plate r → TellsWidest plate s → r ≡ s
width-determined plate (Ok m) (Ok n) a b = ap (λ (x : ℕ). Ok x) (a.1 ∙ sym b.1)
width-determined plate (Ok m) (Err q) a b = absurd (never_both (widest_conditions plate) a.0 q b)
width-determined plate (Err p) (Ok n) a b = absurd (never_both (widest_conditions plate) b.0 p a)
width-determined plate (Err p) (Err q) a b = ap (λ (x : Refusal). Err x) (refuses-once (widest_conditions plate) single p q a b)
  where
    single : Single (widest_conditions plate)
    single = ((λ p q x y. x.1 ∙ sym y.1), tt)

pub widest-call-determined : (words cell : List ℕ) (r s : ℕ) (a b : List ℕ) → CallsWidest words cell r a → CallsWidest words cell s b → SameCell r s a b
widest-call-determined words cell r s a b = calls-determined (width-determined (plate_of words))
