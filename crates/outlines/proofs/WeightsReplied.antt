-- What writing the weights replies, by the plate of the input and by what counting replied.
use Rattle.std.proofs.Common.{Result, Ok, Err, Option, Some, None}
use Rattle.std.specs.Prelude.{is_none, unwrap_or}
use lib.ListN.{length, length-replicate, replicate, take}
use lib.Seq.{get_or-take, length-take-le}
use mathlib.Core.Bool.{Bool, false, true}
use mathlib.Core.List.{List}
use mathlib.Core.Logic.{inl, inr, ◌⊎◌}
use mathlib.Core.Path.{◌≡◌, refl, subst, sym}
use mir.Syntax.{w64}
use mir.Val.{Fits}
use native.Mathlib.Omega.{arith}
use Prim.Native.Nat.{◌+◌, ◌<◌, ℕ, ◌≤◌}
use Rattle.outlines.proofs.WeightsPut.{text-length, text-size, text-stands}
use Rattle.outlines.specs.declared.opening.Which.TheVariants.{Own}
use Rattle.outlines.specs.Opening.{Opened}
use Rattle.outlines.specs.Putting.{Puts}
use Rattle.outlines.specs.WeightLines.{Weighs, WeighsBy, WeightText, WritesWeights, weighing_conditions, weights_text}
use Rattle.plates.proofs.SoundIsPrepared.{sound}
use Rattle.plates.specs.declared.Plate.{Plate}
use Rattle.plates.specs.declared.Prepared.{Prepared}
use Rattle.plates.specs.declared.Refusal.{Refusal}
use Rattle.plates.specs.declared.Refusal.TheVariants as R
use Rattle.plates.specs.Prepare.{IsPrepared}
use Rattle.plates.specs.Refusals.{Passes, Refuses}
use Rattle.weights.specs.Weights.{CountsWeights, Filled, LeastIs, TellsNeed, weight_conditions, working_need}

-- the counts before counting
abbrev zeros : List ℕ
zeros = replicate 65 0

-- ---- a plate, by what counting replied

module _ {plate : Plate} (given : IsPrepared plate) where
  -- the counts of the weights 0 to n
  pub counts-fit : Fits w64 (plate.n + 1)
  counts-fit = record { fits = omega (arith, (sound given).short) }

  pub counts_there : {size : ℕ} → size ≡ 65 → plate.n + 1 ≤ size
  counts_there e = omega (arith, e, (sound given).short)

  pub counts-taken : (counts : List ℕ) → length counts ≡ 65 → plate.n + 1 ≡ length (take (plate.n + 1) counts)
  counts-taken counts e = sym (length-take-le (plate.n + 1) counts (counts_there e))

  module _ (working counts working' : List ℕ) where
    -- refused: with 65 counts lent, and a prepared plate, it is 22, or 8 for the working room
    pub weighing-refused : {room : List ℕ} {counted : Result (Option ℕ) Refusal} {q : Refusal} → counted ≡ Err q
        → CountsWeights plate zeros working counts working' counted → Weighs plate working room (Err q) working' room
    weighing-refused {room} {counted} {q} e x =
        let y = subst (CountsWeights plate zeros working counts working') e x in
        record { is = (by y.0, y.2, refl) }
      where
        short : (length zeros < 65) ⊎ (length working < working_need plate) → length working < working_need plate
        short (inl h) = absurd (omega (arith, h, length-replicate {A = ℕ} 65 0))
        short (inr h) = h

        by : Refuses (weight_conditions plate zeros working) q → Refuses (weighing_conditions plate working room) q
        by (inl h) = absurd (h.0 given)
        by (inr (n, inl h)) = inl h
        by (inr (n, inr (m, inl h))) = inr (m, inl (short h.0, h.1))
        by (inr (n, inr (m, inr h))) = absurd h.1

    -- counted: the text is put
    module _ {room room' : List ℕ} {size : ℕ} (none : Bool) (least : ℕ) (long : 2048 ≤ length room) (passed : Passes (weight_conditions plate zeros working))
        (least_is : LeastIs plate none least) (f : Filled plate zeros working counts working')
        (p : Puts room 0 (weights_text (take (plate.n + 1) counts) none least) room' size) where
      abbrev here : List ℕ
      here = take (plate.n + 1) counts

      there : length here ≡ plate.n + 1
      there = length-take-le (plate.n + 1) counts (omega (arith, f.size, length-replicate {A = ℕ} 65 0, (sound given).short))

      short : length (weights_text here none least) ≤ 2048
      short = text-length here none least (omega (arith, there, (sound given).short))

      is_text : WeightText plate (weights_text here none least)
      is_text = record {
        counts = here;
        size = there;
        numbers = λ w h. rw (get_or-take (plate.n + 1) counts w 0 (omega (arith, h))) (f.here w (omega (arith, h, (sound given).short)));
        none = none;
        least = least;
        least_is = least_is;
        is = refl;
      }

      passes : Passes (weighing_conditions plate working room)
      passes = (passed.1.0, ((λ q h. passed.1.1.0 q (inr h.0, h.1)), ((λ q h. omega (arith, h.0, long)), tt)))

      weighed : Weighs plate working room (Ok size) working' room'
      weighed = record {
        is = (
          passes,
          record {
            text = weights_text here none least;
            is_text = is_text;
            size_is = text-size p short long;
            room_is = text-stands p short long;
            zeroed = f.zeroed;
          },
        );
      }

    weighed-least : {room room' : List ℕ} {size least : ℕ} {counted : Result (Option ℕ) Refusal} → 2048 ≤ length room → counted ≡ Ok (Some least)
        → CountsWeights plate zeros working counts working' counted
        → Puts room 0 (weights_text (take (plate.n + 1) counts) false least) room' size → Weighs plate working room (Ok size) working' room'
    weighed-least long e x p = let y = subst (CountsWeights plate zeros working counts working') e x in weighed false _ long y.0 y.1 y.2 p

    weighed-none : {room room' : List ℕ} {size : ℕ} {counted : Result (Option ℕ) Refusal} → 2048 ≤ length room → counted ≡ Ok None
        → CountsWeights plate zeros working counts working' counted
        → Puts room 0 (weights_text (take (plate.n + 1) counts) true 0) room' size → Weighs plate working room (Ok size) working' room'
    weighed-none long e x p = let y = subst (CountsWeights plate zeros working counts working') e x in weighed true 0 long y.0 y.1 y.2 p

    pub weighed-by : (found : Option ℕ) {room room' : List ℕ} {size : ℕ} {counted : Result (Option ℕ) Refusal} → 2048 ≤ length room → counted ≡ Ok found
        → CountsWeights plate zeros working counts working' counted
        → Puts room 0 (weights_text (take (plate.n + 1) counts) (is_none found) (unwrap_or found 0)) room' size → Weighs plate working room (Ok size) working' room'
    weighed-by (Some least) long e x p = weighed-least long e x p
    weighed-by None long e x p = weighed-none long e x p

-- ---- a plate that is refused before anything is counted

module _ {plate : Plate} {working room : List ℕ} where
  pub whole-refused : plate.k ≡ 64 → Weighs plate working room (Err R.WholeSpace) working room
  whole-refused e = record { is = (inl (e, refl), refl, refl) }

  module _ (given : IsPrepared plate) (m : plate.k ≡ 64 → ⊥) {need : ℕ} (t : TellsNeed plate need) where
    pub working-refused : length working < need → Weighs plate working room (Err R.MetricRoom) working room
    working-refused h = record { is = (inr ((λ q b. m b.0), inl (omega (arith, h, t.prepared_is given), refl)), refl, refl) }

    pub text-refused : need ≤ length working → length room < 2048 → Weighs plate working room (Err R.LineRoom) working room
    text-refused l h =
        let n : (q : Refusal) → (length working < working_need plate) × (q ≡ R.MetricRoom) → ⊥ = λ q b. omega (arith, b.0, l, t.prepared_is given) in
        record { is = (inr ((λ q b. m b.0), inr (n, inl (h, refl))), refl, refl) }

-- ---- an input, by its plate

module _ {input : List ℕ} {prepared : Prepared} (o : Opened Own input prepared) {working room : List ℕ} where
  pub weights-refused : {q : Refusal} → prepared.verdict ≡ Err q → WritesWeights input working room (Err q) working room
  weights-refused {q} e =
      let by : Result (Unit {0}) Refusal → Type 0 = λ v. WeighsBy v prepared.plate working room (Err q) working room in
      record { prepared = prepared; opened = o; is = subst by (sym e) (refl, refl, refl) }

  pub weights-given : {r : Result ℕ Refusal} {working' room' : List ℕ} → prepared.verdict ≡ Ok tt → Weighs prepared.plate working room r working' room'
      → WritesWeights input working room r working' room'
  weights-given {r} {working'} {room'} e w =
      let plate = prepared.plate in
      record { prepared = prepared; opened = o; is = subst (λ (v : Result (Unit {0}) Refusal). WeighsBy v plate working room r working' room') (sym e) w }
