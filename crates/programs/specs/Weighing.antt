-- What is printed of the weights of an input's plate, and how such a run ends.
use Rattle.std.specs.Prelude.{List, [], ◌∷◌, ◌≡◌, ℕ, Result, Ok, Err}
use Rattle.outlines.specs.declared.opening.Which.TheVariants.{Own}
use Rattle.outlines.specs.Opening.{Opened}
use Rattle.outlines.specs.WeightLines.{PrintsWeights, short_working}
use Rattle.plates.specs.declared.Plate.{Plate}
use Rattle.plates.specs.declared.Prepared.{Prepared}
use Rattle.plates.specs.declared.Refusal.{Refusal}
use Rattle.plates.specs.Refusals.{Refuses}
use Rattle.programs.specs.declared.endings.Ending.{Ending}
use Rattle.programs.specs.declared.endings.Ending.TheVariants.{Listed, Refused, Unwritten}
use Rattle.weights.specs.Weights.{whole_space}

-- how a run ends that hands over the text of an input's weights, and nothing more
abbrev pub WeighedAs : List ℕ → Ending → Type 0
WeighedAs input (Listed sent) = (sent.lines ≡ 1) × ((text : List ℕ) × PrintsWeights input text)
WeighedAs input (Refused q sent) = ⊥
WeighedAs input Unwritten = Unit {0}

pub record Weighed (input : List ℕ) (r : Ending) : Type 0 where
  pub is : WeighedAs input r

-- the input or its matrix is refused; or its plate is, of which k is 64, or whose weights need more working room than so many numbers
abbrev pub PlateRefused : Result (Unit {0}) Refusal → ℕ → Plate → Refusal → Type 0
PlateRefused (Err p) lent plate q = q ≡ p
PlateRefused (Ok _) lent plate q = Refuses (whole_space plate ∷ short_working plate lent ∷ []) q

pub record WeighingRefused (lent : ℕ) (input : List ℕ) (q : Refusal) : Type 0 where
  pub prepared : Prepared
  pub opened : Opened Own input prepared
  pub is : PlateRefused prepared.verdict lent prepared.plate q

-- all of the text was taken at once; or the line of the refusal was; or not all was taken
abbrev pub SaysWeightsAs : ℕ → List ℕ → Ending → Type 0
SaysWeightsAs lent input (Listed sent) = (sent.lines ≡ 1) × ((text : List ℕ) × PrintsWeights input text)
SaysWeightsAs lent input (Refused q sent) = (sent.lines ≡ 1) × WeighingRefused lent input q
SaysWeightsAs lent input Unwritten = Unit {0}

pub record SaysWeights (lent : ℕ) (input : List ℕ) (r : Ending) : Type 0 where
  pub is : SaysWeightsAs lent input r
