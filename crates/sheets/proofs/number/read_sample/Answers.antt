-- `number::read_sample` meets its contract.
use Rattle.std.proofs.Common.{Some}
use borrow.Author.Tests.{eq-eqb, ne_eqb}
use lib.ListN.{length}
use mathlib.Core.List.{List}
use Prim.Native.Nat.{ℕ}
use mathlib.Core.Path.{◌∙◌, ap, sym}
use mir.Facts.{to_z-of_z}
use mir.Syntax.{w16}
use Rattle.sheets.proofs.Bytes.{tail_all}
use Rattle.sheets.specs.Numbers.{negated, number_of, plain}
use Rattle.sheets.proofs.number.read_sample.Goals as goal

pub returns-then-f-eq0 : goal.returns-then-f-eq0
returns-then-f-eq0 c = simp (eq-eqb _ _ c.if-f-eq0.true)

pub returns-then-f-eq45 : goal.returns-then-f-eq45
returns-then-f-eq45 c =
    let f = c.args.f.now in
    rw (ne_eqb _ _ c.if-f-eq0.false, eq-eqb _ _ c.if-f-eq45.true)
    (c.after_minus.ensures ∙ ap (λ (g : List ℕ). negated (number_of 4 g)) (tail_all f 1))

pub returns-in_default : goal.returns-in_default
returns-in_default c =
    let e = ne_eqb (length c.args.f.now) 0 c.if-f-eq0.false in
    rw (e, ne_eqb _ _ c.if-f-eq45.false) (rw e at (ap plain (sym c.in_default.is ∙ c.read_number.ensures.is)))

pub as_signed-requires : goal.as_signed-requires
as_signed-requires c = rw c.in-Some.is at c.read_number.ensures.below

pub returns : goal.returns
returns c =
    let e = ne_eqb (length c.args.f.now) 0 c.if-f-eq0.false in
    rw (e, ne_eqb _ _ c.if-f-eq45.false)
    (ap Some (to_z-of_z {w = w16} (record { sfits = c.as_signed.type_inv }) ∙ c.as_signed.ensures)
    ∙ rw e at (ap plain (sym c.in-Some.is ∙ c.read_number.ensures.is)))
