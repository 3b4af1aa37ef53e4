-- `surplus::surplus_of` meets its contract. The loop's invariant: the depths before t have their surplus.
use native.Mathlib.Omega.{arith}
use mathlib.Core.Path.{refl}
use Rattle.judging.proofs.StatesTold.{section-small}
use Rattle.judging.proofs.SurplusSteps.{branches-enough, filling-end, filling-on, filling-start, states-enough}
use Rattle.judging.proofs.surplus.surplus_of.Goals as goal

pub loop-t-init : goal.loop-t-init
loop-t-init c = λ p. filling-start p

pub count_first-firsts-requires : goal.count_first-firsts-requires
count_first-firsts-requires c =
    let k = c.requires.asks.ready.holds in
    (k.size, k.few)

pub over-requires : goal.over-requires
over-requires c =
    let l = c.loop-t in
    let h = c.loop-t-test.true in
    let small = section-small c.requires.asks.ready.plate l.t h c.section_of-section.result c.section_of-section.ensures in
    omega (arith, c.weight_of-own.ensures.below (omega (arith, small.live)), c.count_first-firsts.ensures, states-enough c.requires l.t h c.section_of-section.result c.section_of-section.ensures)

pub bounds-states-t : goal.bounds-states-t
bounds-states-t c =
    let l = c.loop-t in
    let h = c.loop-t-test.true in
    omega (arith, h, c.requires.asks.ready.holds.short, (l.invariant c.requires).depths)

pub count_used-used-requires : goal.count_used-used-requires
count_used-used-requires c =
    let k = c.requires.asks.ready.holds in
    (k.size, k.few)

pub branch_number-number-requires : goal.branch_number-number-requires
branch_number-number-requires c =
    let l = c.loop-t in
    let h = c.loop-t-test.true in
    section-small c.requires.asks.ready.plate l.t h c.section_of-section.result c.section_of-section.ensures

pub over-requires-in-loop-t : goal.over-requires-in-loop-t
over-requires-in-loop-t c =
    let l = c.loop-t in
    let h = c.loop-t-test.true in
    omega (arith, c.branch_number-number.ensures, c.count_used-used.ensures, branches-enough c.requires l.t h c.section_of-section.result c.section_of-section.ensures)

pub bounds-branches-t : goal.bounds-branches-t
bounds-branches-t c =
    let l = c.loop-t in
    let h = c.loop-t-test.true in
    omega (arith, h, c.requires.asks.ready.holds.short, (l.invariant c.requires).sections)

pub loop-t-preserved : goal.loop-t-preserved
loop-t-preserved c =
    let l = c.loop-t in
    let h = c.loop-t-test.true in
    let small = section-small c.requires.asks.ready.plate l.t h c.section_of-section.result c.section_of-section.ensures in
    λ p. filling-on p l.t l.states l.branches (l.invariant p) h c.section_of-section.result c.section_of-section.ensures c.weight_of-own.result
    c.count_first-firsts.result c.branch_number-number.result c.count_used-used.result c.over.result c.over-in-loop-t.result
    (c.weight_of-own.ensures.below (omega (arith, small.live))) c.count_first-firsts.ensures c.over.ensures c.branch_number-number.ensures c.count_used-used.ensures c.over-in-loop-t.ensures

pub returns : goal.returns
returns c =
    let l = c.loop-t in
    (refl, filling-end c.requires l.t l.states l.branches (l.invariant c.requires) (omega (arith, c.loop-t-test.false, (l.invariant c.requires).within)))
