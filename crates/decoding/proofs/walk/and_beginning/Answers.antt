-- `decoding::walk::and_beginning` meets its contract.
use borrow.Author.Tests.{eq-eqb, ne_eqb}
use mathlib.Core.Bool.{Bool, cond}
use mathlib.Core.Path.{◌∙◌, ap, sym}
use native.Mathlib.Numerals.{add-one}
use Prim.Native.Nat.{suc}
use Rattle.decoding.proofs.walk.and_beginning.Goals as goal

pub returns-then-row-eq0 : goal.returns-then-row-eq0
returns-then-row-eq0 c =
    sym (ap (λ (b : Bool). cond b c.args.rows (suc c.args.rows)) (eq-eqb c.args.row 0 c.if-row-eq0.true))

pub returns-else-row-eq0 : goal.returns-else-row-eq0
returns-else-row-eq0 c =
    add-one c.args.rows
    ∙ sym (ap (λ (b : Bool). cond b c.args.rows (suc c.args.rows)) (ne_eqb c.args.row 0 c.if-row-eq0.false))
