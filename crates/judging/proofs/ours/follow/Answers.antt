-- `ours::follow` meets its contract.
use lib.Pow.{pow_mono}
use mathlib.Core.Path.{◌∙◌, sym}
use native.Mathlib.Omega.{arith}
use Prim.Native.Nat.{◌+◌, ◌-◌}
use Rattle.judging.proofs.Follows.{follows-none, follows-other, follows-own, follows-stop, leads-at-most}
use Rattle.judging.proofs.ours.follow.Goals as goal

pub returns-then-y-eq0 : goal.returns-then-y-eq0
returns-then-y-eq0 c = follows-none c.args.section c.args.y _ c.if-y-eq0.true

pub overflow_add-result : goal.overflow_add-result
overflow_add-result c =
    record { fits = omega (arith, c.next_state.ensures, leads-at-most c.args.section (c.args.y - 1), c.requires.y_bound, pow_mono c.requires.small.live) }

pub returns-then-parity_with-bit : goal.returns-then-parity_with-bit
returns-then-parity_with-bit c =
    follows-own c.args.section c.args.y c.args.bit c.next_state.result c.if-y-eq0.false (sym c.parity_with.ensures ∙ c.if-parity_with-bit.true) c.next_state.ensures

pub overflow_add-state : goal.overflow_add-state
overflow_add-state c =
    record { fits = omega (arith, (c.weight_of-weight.ensures.below (omega (arith, c.requires.small.live))), c.requires.y_bound, pow_mono c.requires.small.live) }

pub overflow_add-result-then-section : goal.overflow_add-result-then-section
overflow_add-result-then-section c =
    record { fits = omega (arith, c.next_state-then-section.ensures, (c.weight_of-weight.ensures.below (omega (arith, c.requires.small.live))), leads-at-most c.args.section (c.args.y - 1 + c.weight_of-weight.result), c.requires.y_bound, pow_mono c.requires.small.live) }

pub returns-then-section : goal.returns-then-section
returns-then-section c =
    follows-other c.args.section c.args.y c.args.bit c.next_state-then-section.result c.weight_of-weight.result c.if-y-eq0.false (λ e. c.if-parity_with-bit.false (c.parity_with.ensures ∙ e)) c.if-section.true (c.weight_of-weight.ensures.below (omega (arith, c.requires.small.live))) c.next_state-then-section.ensures

pub returns : goal.returns
returns c =
    follows-stop c.args.section c.args.y c.args.bit c.if-y-eq0.false (λ e. c.if-parity_with-bit.false (c.parity_with.ensures ∙ e)) c.if-section.false
