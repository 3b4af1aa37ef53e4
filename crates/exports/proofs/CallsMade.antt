-- How a call of the interface meets its promise: by its shape, or by a reply of the call below.
use Rattle.std.proofs.Common.{Result, Ok, Err}
use lib.ListN.{drop, set}
use mathlib.Core.List.{◌++◌, List}
use mathlib.Core.Logic.{inl, inr}
use mathlib.Core.Path.{ap, ap₂, refl, sym, ◌∙◌, ◌≡◌}
use Prim.Native.Nat.{suc, zero, ℕ}
use Rattle.exports.specs.Calls.{Calls, Crossing, RefusedAt, done, misshapen}
use Rattle.exports.specs.Crossing.{LengthPut, beside, prepared_as}
use Rattle.exports.specs.Flat.{flat}
use Rattle.exports.specs.Promises.{CallsListing, CallsWrite, HasCell, kind_of}
use Rattle.plates.specs.declared.Kind.TheVariants.{H}
use Rattle.plates.specs.declared.Plate.{Plate}
use Rattle.plates.specs.declared.Refusal.{Refusal}
use Rattle.reports.specs.Listing.{WritesListing}
use Rattle.reports.specs.Remaining.{Rooms}

-- the same code with the same cells
pub same_code : {Lent : Type 0} {r s : ℕ} {cells : Lent} → r ≡ s → ◌≡◌ {A = Crossing Lent} (record { code = r; cells = cells }) (record { code = s; cells = cells })
same_code {Lent} {cells = cells} e = ap (λ (x : ℕ). record { code = x; cells = cells }) e

module _ {Reply Lent : Type 0} {shape : Type 0} {before : Lent} {promise : Reply → Type 0} {crossing : Reply → Crossing Lent} where
  -- the shape is not kept
  pub misshaped : (shape → ⊥) → Calls shape before promise crossing (record { code = misshapen; cells = before })
  misshaped h = record { by_shape = inl (h, refl) }

  -- the call below replied
  pub replied : {out : Crossing Lent} → shape → (x y : Reply) → promise x → x ≡ y → out ≡ crossing y → Calls shape before promise crossing out
  replied h x y p e o = record { by_shape = inr (h, record { reply = x; promised = p; crosses = o ∙ ap crossing (sym e) }) }

-- ---- a line written

-- the reply, and the room that the call below left
pub wrote : (writes : List ℕ → Result ℕ Refusal → List ℕ → Type 0) {shape : Type 0} (room room' cell cell' : List ℕ) (r : ℕ) (reply : Result ℕ Refusal)
    → shape → writes room reply room' → LengthPut reply cell r cell' → CallsWrite shape writes room cell r room' cell'
wrote writes room room' cell cell' r reply h w l =
    record { by_shape = inr (h, record { reply = record { reply = reply; room = room' }; promised = w; crosses = l room' }) }

-- the same of a listing, with the working rooms beside
pub wrote-listing : {sheet : List ℕ} (working working' : Rooms) (listing listing' cell cell' : List ℕ) (r : ℕ) (reply : Result ℕ Refusal)
    → HasCell cell → WritesListing sheet working listing working' listing' reply → LengthPut reply cell r cell' → CallsListing sheet working listing cell r working' listing' cell'
wrote-listing working working' listing listing' cell cell' r reply h w l = record {
  by_shape = inr (h, record { reply = record { reply = reply; working = working'; listing = listing' }; promised = w; crosses = ap (beside working') (l listing') });
}

-- ---- prepare

-- any other kind than 0 is H
pub kind-other : (kind : ℕ) → (kind ≡ 0 → ⊥) → H ≡ kind_of kind
kind-other zero n = absurd (n refl)
kind-other (suc kind) n = refl

module _ (run at : List ℕ) (plate : Plate) {verdict : Result (Unit {0}) Refusal} where
  pub crossed-accepted : {run' : List ℕ} → verdict ≡ Ok tt → run' ≡ flat plate ++ drop 132 run
      → ◌≡◌ {A = Crossing (List ℕ × List ℕ)} (record { code = done; cells = (run', set at 0 0) }) (prepared_as run at plate verdict)
  crossed-accepted e laid = ap (λ (l : List ℕ). record { code = done; cells = (l, set at 0 0) }) laid ∙ sym (ap (prepared_as run at plate) e)

  pub crossed-refused : {q : Refusal} {r : ℕ} {at' : List ℕ} → verdict ≡ Err q → RefusedAt q at r at'
      → ◌≡◌ {A = Crossing (List ℕ × List ℕ)} (record { code = r; cells = (run, at') }) (prepared_as run at plate verdict)
  crossed-refused e f = ap₂ (λ (x : ℕ) (l : List ℕ). record { code = x; cells = (run, l) }) f.number_is f.place_is ∙ sym (ap (prepared_as run at plate) e)
