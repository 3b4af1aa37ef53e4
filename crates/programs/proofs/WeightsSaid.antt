-- What is handed over of the weights of an input's plate, by what writing them replied.
use Rattle.std.proofs.Common.{Result, Ok, Err}
use Rattle.std.specs.Prelude.{Option, Some}
use Rattle.programs.proofs.LinesPrinted.{one-more}
use lib.ListN.{drop, length, length-replicate, replicate, take}
use lib.Seq.{take-append_seam}
use mathlib.Core.List.{◌++◌, List, [], ◌∷◌}
use mathlib.Core.Logic.{inl, inr}
use mathlib.Core.Path.{◌≡◌, ap, refl, subst, sym, ◌∙◌}
use native.Mathlib.Omega.{arith}
use Prim.Native.Nat.{◌<◌, ℕ}
use Rattle.outlines.specs.WeightLines.{PrintsWeights, WeighsAs, WeighsBy, WeightText, WritesWeights, short_working, weighing_conditions}
use Rattle.plates.specs.declared.Refusal.{Refusal}
use Rattle.plates.specs.Refusals.{Refuses, number}
use Rattle.programs.specs.declared.endings.Ending.{Ending}
use Rattle.programs.specs.declared.endings.Ending.TheVariants.{Listed, Refused, Unwritten}
use Rattle.programs.specs.declared.writer.Sent.{Sent}
use Rattle.programs.specs.Printing.{Hands}
use Rattle.programs.specs.Verbs.{RefusedAs, RefusedEnding}
use Rattle.programs.specs.Weighing.{PlateRefused, SaysWeights, SaysWeightsAs, Weighed, WeighedAs, WeighingRefused}
use Rattle.weights.specs.Weights.{whole_space}

-- ---- the text is handed over

pub weights-taken : {input text : List ℕ} {before after : Sent} {h : Option Sent} → PrintsWeights input text → before.lines ≡ 0 → Hands before h → h ≡ Some after
    → Weighed input (Listed after)
weights-taken {text = text} x z h t = let o = one-more h t in record { is = (omega (arith, o.is, z), (text, x)) }

pub weights-untaken : {input : List ℕ} → Weighed input Unwritten
weights-untaken = record { is = tt }

pub weights-said : {lent : ℕ} {input : List ℕ} {r : Ending} → Weighed input r → SaysWeights lent input r
weights-said {lent} {input} {r} x = record { is = by r x.is }
  where
    by : (r : Ending) → WeighedAs input r → SaysWeightsAs lent input r
    by (Listed sent) y = y
    by (Refused q sent) y = absurd y
    by Unwritten y = tt

-- ---- what writing replied, with so many numbers lent and 2,048 bytes

abbrev bytes : List ℕ
bytes = replicate 2048 0

front : (text room : List ℕ) {size : ℕ} {room' : List ℕ} → size ≡ length text → room' ≡ text ++ drop (length text) room → take size room' ≡ text
front text room e f = rw (e, f) (take-append_seam text (drop (length text) room))

-- it was written
module _ {lent input working room : List ℕ} {w : Result ℕ Refusal} (t : WritesWeights input lent bytes w working room) where
  pub weights-there : {size : ℕ} → w ≡ Ok size → PrintsWeights input (take size room)
  weights-there {size} e = by t.prepared.verdict refl t.is
    where
      by : (v : Result (Unit {0}) Refusal) → t.prepared.verdict ≡ v → WeighsBy v t.prepared.plate lent bytes w working room → PrintsWeights input (take size room)
      by (Err q) f y = let g : ◌≡◌ {A = Result ℕ Refusal} (Err q) (Ok size) = sym y.0 ∙ e in let z : ◌≡◌ {A = ℕ} 0 1 = cc in absurd (omega arith)
      by (Ok _) f y =
          let x = subst (WeighsAs t.prepared.plate lent bytes working room) e y.is in
          let there : take size room ≡ x.1.text = front x.1.text bytes x.1.size_is x.1.room_is in
          record { prepared = t.prepared; opened = t.opened; accepted = f; is = subst (WeightText t.prepared.plate) (sym there) x.1.is_text }

-- the line of a refusal
refusal-said : {lent : ℕ} {input : List ℕ} {q : Refusal} {r : Ending} → WeighingRefused lent input q → RefusedEnding q r → SaysWeights lent input r
refusal-said {lent} {input} {q} {r} x z = record { is = by r z.is }
  where
    by : (r : Ending) → RefusedAs q r → SaysWeightsAs lent input r
    by (Listed sent) y = absurd y
    by (Refused p sent) y = (y.1, subst (WeighingRefused lent input) (sym y.0) x)
    by Unwritten y = tt

module _ (lent : ℕ) {input working room : List ℕ} {w : Result ℕ Refusal} (t : WritesWeights input (replicate lent 0) bytes w working room) where
  -- it was refused, and not for want of bytes
  pub weights-refused : {q : Refusal} → w ≡ Err q → WeighingRefused lent input q
  weights-refused {q} e = record { prepared = t.prepared; opened = t.opened; is = by t.prepared.verdict t.is }
    where
      enough : length bytes < 2048 → ⊥
      enough h = omega (arith, h, length-replicate {A = ℕ} 2048 0)

      of-plate : Refuses (weighing_conditions t.prepared.plate (replicate lent 0) bytes) q
          → Refuses (whole_space t.prepared.plate ∷ short_working t.prepared.plate lent ∷ []) q
      of-plate (inl h) = inl h
      of-plate (inr (n, inl h)) = inr (n, inl (omega (arith, h.0, length-replicate {A = ℕ} lent 0), h.1))
      of-plate (inr (n, inr (m, inl h))) = absurd (enough h.0)
      of-plate (inr (n, inr (m, inr h))) = absurd h.1

      by : (v : Result (Unit {0}) Refusal) → WeighsBy v t.prepared.plate (replicate lent 0) bytes w working room → PlateRefused v lent t.prepared.plate q
      by (Err p) y = let g : Err p ≡ Err q = sym y.0 ∙ e in let k : p ≡ q = cc in sym k
      by (Ok _) y = of-plate (subst (WeighsAs t.prepared.plate (replicate lent 0) bytes working room) e y.is).0

  pub weights-refusal-said : {q : Refusal} {r : Ending} → w ≡ Err q → RefusedEnding q r → SaysWeights lent input r
  weights-refusal-said e z = refusal-said (weights-refused e) z

-- ---- a refusal that is not 8 is one whatever the working room

module _ {lent : ℕ} {input : List ℕ} {q : Refusal} (x : WeighingRefused lent input q) where
  not_eight : (more : ℕ) → (number q ≡ 8 → ⊥) → WeighingRefused more input q
  not_eight more n = record { prepared = x.prepared; opened = x.opened; is = by x.prepared.verdict x.is }
    where
      of-plate : Refuses (whole_space x.prepared.plate ∷ short_working x.prepared.plate lent ∷ []) q
          → Refuses (whole_space x.prepared.plate ∷ short_working x.prepared.plate more ∷ []) q
      of-plate (inl h) = inl h
      of-plate (inr (m, inl h)) = absurd (n (ap number h.1))
      of-plate (inr (m, inr h)) = absurd h.1

      by : (v : Result (Unit {0}) Refusal) → PlateRefused v lent x.prepared.plate q → PlateRefused v more x.prepared.plate q
      by (Err p) y = y
      by (Ok _) y = of-plate y

  pub again-said : {more : ℕ} {n : ℕ} {r : Ending} → n ≡ number q → (n ≡ 8 → ⊥) → RefusedEnding q r → SaysWeights more input r
  again-said {more} e n z = refusal-said (not_eight more (λ f. n (e ∙ f))) z
