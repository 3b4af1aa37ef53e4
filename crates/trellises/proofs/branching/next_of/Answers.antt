-- `trellises::branching::next_of` meets its contract.
use Rattle.std.proofs.Common.{Some}
use borrow.Author.Tests.{eq-eqb, ne_eqb}
use lib.Pow.{pow_mono}
use mathlib.Core.Path.{◌∙◌, ap, sym}
use native.Mathlib.Omega.{arith}
use Prim.Native.Nat.{ℕ, ◌+◌}
use Rattle.trellises.specs.Numbers.{bit_of, leads_to}
use Rattle.trellises.proofs.branching.next_of.Goals as goal

pub returns-then-parity_with-bit : goal.returns-then-parity_with-bit
returns-then-parity_with-bit c =
    let a = c.args in
    rw (eq-eqb (bit_of a.section a.state) a.bit (sym c.parity_with.ensures ∙ c.if-parity_with-bit.true)) (ap Some c.next_state.ensures)

pub overflow_add-state : goal.overflow_add-state
overflow_add-state c =
    let p = c.requires in
    record { fits = omega (arith, (c.weight_of-weight.ensures.below (omega (arith, c.requires.live_bound))), p.state_bound, pow_mono p.live_bound) }

pub returns-then-section : goal.returns-then-section
returns-then-section c =
    let a = c.args in
    rw (ne_eqb (bit_of a.section a.state) a.bit (λ e. c.if-parity_with-bit.false (c.parity_with.ensures ∙ e)), c.if-section.true)
    (ap Some (c.next_state-then-section.ensures ∙ ap (λ (w : ℕ). leads_to a.section (a.state + w)) (c.weight_of-weight.ensures.below (omega (arith, c.requires.live_bound)))))

pub returns : goal.returns
returns c =
    let a = c.args in
    rw (ne_eqb (bit_of a.section a.state) a.bit (λ e. c.if-parity_with-bit.false (c.parity_with.ensures ∙ e)), c.if-section.false)
