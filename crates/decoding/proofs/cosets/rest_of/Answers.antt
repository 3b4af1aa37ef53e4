-- `decoding::cosets::rest_of` meets its contract. The loop's invariant: taking off the rows from j on leaves the rest of the word. The measure is
-- what is left of the rows.
use lib.ListN.{drop, drop_of_length-le}
use mathlib.Core.List.{List, []}
use mathlib.Core.Path.{◌≡◌, ◌∙◌, ap, refl, sym}
use native.Mathlib.Numerals.{add-one}
use native.Mathlib.Omega.{arith}
use Prim.Native.Nat.{ℕ, suc}
use Rattle.decoding.specs.Cosets.{taken_off}
use Rattle.decoding.proofs.RestOfWords.{off_next}
use Rattle.decoding.proofs.cosets.rest_of.Goals as goal

pub loop-row-init : goal.loop-row-init
loop-row-init c = (omega arith, refl)

pub loop-row-preserved : goal.loop-row-preserved
loop-row-preserved c = (
  omega (arith, c.loop-row-test.true),
  ap (λ (x : ℕ). taken_off (drop x c.args.rows.now) c.less_row-rest.result) (add-one c.loop-row.row-index)
      ∙ ap (taken_off (drop (suc c.loop-row.row-index) c.args.rows.now)) c.less_row-rest.ensures
      ∙ sym (off_next c.args.rows.now c.loop-row.row-index c.loop-row.rest c.loop-row-test.true) ∙ c.loop-row.invariant.1,
)

pub returns : goal.returns
returns c =
    let l = c.loop-row in
    let none : drop l.row-index c.args.rows.now ≡ [] = drop_of_length-le c.args.rows.now {i = l.row-index} (omega (arith, c.loop-row-test.false)) in
    ap (λ (rows : List ℕ). taken_off rows l.rest) (sym none) ∙ l.invariant.1
