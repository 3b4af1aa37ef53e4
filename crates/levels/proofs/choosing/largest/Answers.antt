-- `levels::choosing::largest` meets its contract. The loop's invariant: the level of the value is less than span above the level. The measure is the span.
use native.Mathlib.Omega.{arith}
use Rattle.levels.proofs.Narrowing.{within_end, within-half, within-start}
use Rattle.levels.proofs.choosing.largest.Goals as goal

pub loop-span-init : goal.loop-span-init
loop-span-init c = (omega arith, within-start c.args.setting c.args.value c.requires.0 c.requires.1)

pub raised-level-requires : goal.raised-level-requires
raised-level-requires c =
    let good = c.requires.0 in
    let l = c.loop-span in
    (omega (arith, good.most, l.invariant.1.permitted), omega (arith, l.invariant.0))

pub loop-span-smaller : goal.loop-span-smaller
loop-span-smaller c = omega (arith, c.loop-span-test.true)

pub loop-span-preserved : goal.loop-span-preserved
loop-span-preserved c =
    let l = c.loop-span in
    (omega (arith, l.invariant.0), within-half c.args.setting c.args.value c.requires.0 l.level l.span _ _ (omega arith) c.raised-level.ensures l.invariant.1)

pub returns : goal.returns
returns c =
    let l = c.loop-span in
    within_end c.args.setting c.args.value c.requires.0 l.level l.span c.loop-span-test.false l.invariant.1
