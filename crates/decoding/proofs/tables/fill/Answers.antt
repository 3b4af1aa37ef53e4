-- `tables::fill` meets its contract. The first i bits are entered.
use mir.Facts.{to_z-of_z}
use mir.Syntax.{w32}
use mir.Val.{of_z, to_z}
use native.Mathlib.Omega.{arith}
use Rattle.decoding.proofs.Entries.{digit-is, filled-all, filled_more, filled_none}
use Rattle.words.proofs.Word.{bit-lt}
use Rattle.decoding.proofs.tables.fill.Goals as goal

pub loop-i-init : goal.loop-i-init
loop-i-init c =
    filled_none c.args.word (to_z w32 (of_z w32 c.args.gain)) c.args.signs.now c.args.ties.now c.requires.signs_size c.requires.ties_size

pub enter-requires : goal.enter-requires
enter-requires c =
    rw (to_z-of_z c.ranges.gain) (record {
      signs_size = c.loop-i.invariant.sign.size;
      ties_size = c.loop-i.invariant.tie.size;
      place = c.loop-i-test.true;
      digit = omega (arith, (digit-is c.args.word c.loop-i.i _ c.digit-bit.result (c.requires.masks.weight c.loop-i.i c.loop-i-test.true) c.digit-bit.ensures), bit-lt c.loop-i.i c.args.word);
      gain = c.requires.gain;
    })

pub loop-i-smaller : goal.loop-i-smaller
loop-i-smaller c = omega (arith, c.loop-i-test.true)

pub loop-i-preserved : goal.loop-i-preserved
loop-i-preserved c =
    filled_more c.args.word (to_z w32 (of_z w32 c.args.gain)) c.loop-i.i c.digit-bit.result c.loop-i.signs c.loop-i.ties
    c.loop-i.invariant c.loop-i-test.true
    (digit-is c.args.word c.loop-i.i _ c.digit-bit.result (c.requires.masks.weight c.loop-i.i c.loop-i-test.true) c.digit-bit.ensures) _ _ c.enter.ensures

pub returns : goal.returns
returns c =
    rw (to_z-of_z c.ranges.gain) at
    (filled-all c.args.word (to_z w32 (of_z w32 c.args.gain)) _ _ _ c.loop-i.invariant c.loop-i-test.false)
