-- How the replies of why_not cross: a reason into its cells, a refusal into the cell of the place.
use Rattle.std.proofs.Common.{Ok, Err}
use lib.IntN.{ℤ}
use lib.ListN.{length, set}
use mathlib.Core.List.{List}
use mathlib.Core.Logic.{inr}
use mathlib.Core.Path.{ap, ap₂, sym, ◌∙◌, ◌≡◌}
use Prim.Native.Nat.{ℕ}
use Rattle.asking.specs.declared.Reason.{Reason}
use Rattle.exports.specs.Calls.{Crossing, RefusedAt, done}
use Rattle.exports.specs.Explaining.{AsksTo, CallsWhyNot, Explaining, ReasonCells, ReasonPut, explained, explained_as, reason_cells}
use Rattle.exports.specs.Flat.{plate_of}
use Rattle.exports.specs.Parting.{PartShape}
use Rattle.plates.specs.declared.Refusal.{Refusal}

module _ (samples : List ℤ) (word : ℕ) (lent : ReasonCells) (x : Explaining) (words : List ℕ)
    (shape : PartShape (length words) (length lent.difference) (length lent.told) (length lent.at))
    (asks : AsksTo (plate_of words) samples word lent x) where
  -- a code and cells that the reply crosses as
  crossed : {out : Crossing ReasonCells} → out ≡ explained lent x → CallsWhyNot words samples word lent out.code out.cells
  crossed e = record { by_shape = inr (shape, record { reply = x; promised = asks; crosses = e }) }

  -- the reason is in its cells
  pub why-not-explained : {reason : Reason} {told' : List ℕ} {difference' : List ℤ} → x.reply ≡ Ok reason
      → ReasonPut reason lent.told lent.difference told' difference'
      → CallsWhyNot words samples word lent done (reason_cells x.metrics x.decisions told' difference' (set lent.at 0 0))
  why-not-explained e laid =
      crossed
      (ap₂ (λ (t : List ℕ) (d : List ℤ). record { code = done; cells = reason_cells x.metrics x.decisions t d (set lent.at 0 0) }) laid.told_is laid.difference_is
      ∙ sym (ap (explained_as lent x.metrics x.decisions) e))

  -- the place is in its cell
  pub why-not-refused : {q : Refusal} {r : ℕ} {at' : List ℕ} → x.reply ≡ Err q → RefusedAt q lent.at r at'
      → CallsWhyNot words samples word lent r (reason_cells x.metrics x.decisions lent.told lent.difference at')
  why-not-refused e f =
      crossed
      (ap₂ (λ (c : ℕ) (p : List ℕ). record { code = c; cells = reason_cells x.metrics x.decisions lent.told lent.difference p }) f.number_is f.place_is
      ∙ sym (ap (explained_as lent x.metrics x.decisions) e))
