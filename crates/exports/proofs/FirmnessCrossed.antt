-- How the replies of firmness cross: a reading into its cells, a refusal into the cell of the place.
use Rattle.std.proofs.Common.{Ok, Err}
use lib.IntN.{pos, ℤ}
use lib.ListN.{length, set}
use mathlib.Core.List.{List}
use mathlib.Core.Logic.{inr}
use mathlib.Core.Path.{ap, ap₂, subst, sym, ◌∙◌, ◌≡◌}
use native.Mathlib.Omega.{arith}
use Prim.Native.Nat.{ℕ}
use Rattle.decoding.specs.declared.firmness.Flag.{Flag}
use Rattle.decoding.specs.declared.firmness.Reading.{Reading}
use Rattle.decoding.specs.declared.firmness.Reading.TheVariants.{Fixed, Open}
use Rattle.decoding.specs.Firmness.{TellsFirmness, Means, is_fixed, value}
use Rattle.exports.specs.Calls.{Crossing, RefusedAt, done}
use Rattle.exports.specs.Flat.{plate_of}
use Rattle.exports.specs.Judging.{CallsFirmness, FirmnessCells, FirmnessShape, FixedFits, Judging, JudgesTo, ReadingPut, firmness_cells, judged, judged_as}
use Rattle.plates.specs.declared.Plate.{Plate}
use Rattle.plates.specs.declared.Refusal.{Refusal}
use Rattle.plates.specs.Prepare.{IsWord, rows_of}
use Rattle.words.proofs.Sums.{in-zero}
use Rattle.words.proofs.Word.{bit-lt, xor_self}
use Rattle.words.specs.Sum.{IsSum}
use Rattle.words.specs.Word.{bit}

-- a fixed bit is a digit: that of the mask, which is a word of the plate
fixed-fits : (plate : Plate) (samples : List ℤ) (position : ℕ) (r : Reading) → Means (IsWord plate) samples position (is_fixed r) (value r)
    → FixedFits r
fixed-fits plate samples position (Fixed b) h =
    let own : IsWord plate plate.mask = subst (IsSum (rows_of plate)) (sym (xor_self plate.mask)) (in-zero (rows_of plate)) in
    let e : pos (bit plate.mask position) ≡ pos b = h plate.mask own in
    let f : bit plate.mask position ≡ b = cc in
    omega (arith, f, bit-lt position plate.mask)
fixed-fits plate samples position (Open margin) h = tt

-- the reading of a flag that is found fits its cells
pub reading-fits : (plate : Plate) (samples : List ℤ) (position : ℕ) (lent : FirmnessCells) (j : Judging) → JudgesTo plate samples position lent j → (flag : Flag) → j.reply ≡ Ok flag
    → FixedFits flag.reading
reading-fits plate samples position lent j p flag e =
    fixed-fits plate samples position flag.reading (subst (TellsFirmness plate samples position lent.metrics lent.decisions j.metrics j.decisions) e p).1.reading

module _ (samples : List ℤ) (position : ℕ) (lent : FirmnessCells) (j : Judging) (words : List ℕ)
    (shape : FirmnessShape (length words) (length lent.fixed) (length lent.value) (length lent.at))
    (judges : JudgesTo (plate_of words) samples position lent j) where
  -- a code and cells that the reply crosses as
  crossed : {out : Crossing FirmnessCells} → out ≡ judged lent j → CallsFirmness words samples position lent out.code out.cells
  crossed e = record { by_shape = inr (shape, record { reply = j; promised = judges; crosses = e }) }

  -- the reading is in its cells
  pub firmness-found : {flag : Flag} {fixed' : List ℕ} {values' : List ℤ} → j.reply ≡ Ok flag
      → ReadingPut flag.reading 0 lent.fixed lent.value fixed' values'
      → CallsFirmness words samples position lent done (firmness_cells j.metrics j.decisions fixed' values' (set lent.at 0 0))
  firmness-found e laid =
      crossed
      (ap₂ (λ (f : List ℕ) (v : List ℤ). record { code = done; cells = firmness_cells j.metrics j.decisions f v (set lent.at 0 0) }) laid.fixed_is laid.value_is
      ∙ sym (ap (judged_as lent j.metrics j.decisions) e))

  -- the place is in its cell
  pub firmness-refused : {q : Refusal} {r : ℕ} {at' : List ℕ} → j.reply ≡ Err q → RefusedAt q lent.at r at'
      → CallsFirmness words samples position lent r (firmness_cells j.metrics j.decisions lent.fixed lent.value at')
  firmness-refused e f =
      crossed
      (ap₂ (λ (x : ℕ) (p : List ℕ). record { code = x; cells = firmness_cells j.metrics j.decisions lent.fixed lent.value p }) f.number_is f.place_is
      ∙ sym (ap (judged_as lent j.metrics j.decisions) e))
