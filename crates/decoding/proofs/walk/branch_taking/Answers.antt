-- `decoding::walk::branch_taking` meets its contract.
use borrow.Author.Tests.{eq-eqb, ne_eqb}
use lib.Pow.{pow_mono}
use mathlib.Core.Bool.{Bool, cond}
use mathlib.Core.Path.{◌∙◌, ap, sym}
use native.Mathlib.Omega.{arith}
use Prim.Native.Nat.{ℕ, ◌+◌, ◌^◌}
use Rattle.decoding.proofs.walk.branch_taking.Goals as goal

pub overflow_add-also : goal.overflow_add-also
overflow_add-also c = record { fits = omega (arith, c.power.ensures, c.requires.0, pow_mono c.requires.1) }

pub returns-then-row-eq0 : goal.returns-then-row-eq0
returns-then-row-eq0 c =
    sym (ap (λ (b : Bool). cond b c.args.state (c.args.state + 2 ^ c.args.count)) (eq-eqb c.args.row 0 c.if-row-eq0.true))

pub returns-else-row-eq0 : goal.returns-else-row-eq0
returns-else-row-eq0 c =
    ap (λ (x : ℕ). c.args.state + x) c.power.ensures
    ∙ sym (ap (λ (b : Bool). cond b c.args.state (c.args.state + 2 ^ c.args.count)) (ne_eqb c.args.row 0 c.if-row-eq0.false))
