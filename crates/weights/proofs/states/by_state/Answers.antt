-- `weights::states::by_state` meets its contract.
use lib.Pow.{pow_mono}
use mathlib.Core.Path.{refl, subst, sym}
use native.Mathlib.Omega.{arith}
use Prim.Native.Nat.{◌<◌, ◌^◌, ℕ}
use Rattle.weights.proofs.BranchWays.{both-are, first_fits, one-is, other_fits}
use Rattle.weights.proofs.states.by_state.Goals as goal

pub by_branch-first-requires : goal.by_branch-first-requires
by_branch-first-requires c = first_fits c.requires

pub overflow_add-other : goal.overflow_add-other
overflow_add-other c = omega (arith, (c.weight_of.ensures.below (omega (arith, c.requires.section.narrow))), c.requires.state, pow_mono c.requires.section.narrow)

pub by_branch-requires : goal.by_branch-requires
by_branch-requires c = other_fits c.requires _ c.weight_of.result (c.weight_of.ensures.below (omega (arith, c.requires.section.narrow))) refl c.if-section.true

pub overflow_add-result : goal.overflow_add-result
overflow_add-result c =
    let both = both-are c.requires c.if-section.true (c.weight_of.ensures.below (omega (arith, c.requires.section.narrow))) refl c.by_branch-first.ensures c.by_branch.ensures in
    record { fits = subst (λ (m : ℕ). m < 2 ^ 64) (sym both) c.requires.most }

pub returns-then-section : goal.returns-then-section
returns-then-section c =
    both-are c.requires c.if-section.true (c.weight_of.ensures.below (omega (arith, c.requires.section.narrow))) refl c.by_branch-first.ensures c.by_branch.ensures

pub returns : goal.returns
returns c = one-is c.requires c.if-section.false c.by_branch-first.ensures
