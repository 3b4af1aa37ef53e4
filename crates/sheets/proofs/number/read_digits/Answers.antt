-- `number::read_digits` meets its contract. The invariant: the digits from i on, after the value so far, are all of them.
use lib.ListN.{get_or, length}
use mathlib.Core.Path.{◌∙◌, ◌≡◌, refl, sym}
use native.Mathlib.Numerals.{add-one}
use native.Mathlib.Omega.{arith}
use Rattle.sheets.proofs.Digits.{between, digits-bad, digits-done, digits-on, grow, grown}
use Rattle.sheets.proofs.number.read_digits.Goals as goal

pub loop-x-init : goal.loop-x-init
loop-x-init c = (omega arith, omega arith, refl)

pub returns-then-not-within : goal.returns-then-not-within
returns-then-not-within c =
    let e = digits-bad c.args.f.now c.loop-x.x-index c.loop-x.value (omega arith) (sym c.within.ensures ∙ c.if-not-within.true) in
    record { is = sym e ∙ c.loop-x.invariant.2; below = tt }

pub overflow_mul-value : goal.overflow_mul-value
overflow_mul-value c =
    omega (arith, grown 10 c.loop-x.value 0 c.loop-x.x-index 5 (omega arith) c.loop-x.invariant.1 (omega arith) (omega arith))

pub digit-requires : goal.digit-requires
digit-requires c = (between 48 57 _ (sym c.within.ensures ∙ c.if-not-within.false)).0

pub overflow_add-value : goal.overflow_add-value
overflow_add-value c =
    let d = between 48 57 (get_or c.args.f.now c.loop-x.x-index 0) (sym c.within.ensures ∙ c.if-not-within.false) in
    omega (arith, grown 10 c.loop-x.value c.digit.result c.loop-x.x-index 5 (omega arith) c.loop-x.invariant.1 (omega arith) (omega arith))

pub loop-x-preserved : goal.loop-x-preserved
loop-x-preserved c =
    let t = sym c.within.ensures ∙ c.if-not-within.false in
    let d = between 48 57 (get_or c.args.f.now c.loop-x.x-index 0) t in
    let e = digits-on c.args.f.now c.loop-x.x-index c.loop-x.value (omega arith) t in
    let g = c.digit.ensures in (
      omega arith,
      rw add-one (grow 10 c.loop-x.value c.digit.result c.loop-x.x-index c.loop-x.invariant.1 (omega arith)),
      rw g (sym e ∙ c.loop-x.invariant.2),
    )

pub returns : goal.returns
returns c =
    let e : c.loop-x.x-index ≡ length c.args.f.now = omega arith in
    record {
      is = sym (digits-done c.args.f.now c.loop-x.x-index c.loop-x.value (omega arith)) ∙ c.loop-x.invariant.2;
      below = rw e at c.loop-x.invariant.1;
    }
