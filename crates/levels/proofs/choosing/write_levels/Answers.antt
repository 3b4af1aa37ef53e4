-- `levels::choosing::write_levels` meets its contract. The loop's invariant: the room has the levels before i.
use lib.ListN.{length-set}
use mathlib.Core.Path.{ap, subst, sym, ◌∙◌}
use mir.Facts.{to_z-of_z}
use mir.Syntax.{w16}
use native.Mathlib.Omega.{arith}
use Rattle.levels.specs.declared.Sample.{Sample}
use Rattle.levels.specs.Choosing.{LevelOfSample, sample_of}
use Rattle.levels.specs.Testing.{IsNumber}
use Rattle.levels.proofs.RoomWritten.{one_more}
use Rattle.levels.proofs.choosing.write_levels.Goals as goal

pub loop-i-init : goal.loop-i-init
loop-i-init c = (omega arith, c.requires.as_long, λ j h. absurd (omega arith))

pub level_of_sample-requires : goal.level_of_sample-requires
level_of_sample-requires c =
    let l = c.loop-i in
    let same = c.sample_of.ensures ∙ ap (sample_of _) c.bit_at.ensures in
    (c.requires.good, subst IsNumber (sym same) (c.requires.numbers l.i c.loop-i-test.true))

pub loop-i-preserved : goal.loop-i-preserved
loop-i-preserved c =
    let l = c.loop-i in
    let taken = c.loop-i-test.true in
    let same = c.sample_of.ensures ∙ ap (sample_of _) c.bit_at.ensures in (
      omega (arith, taken),
      length-set l.room l.i _ ∙ l.invariant.1,
      one_more c.args.setting c.args.values.now c.args.erased l.room l.i _ (omega (arith, taken, l.invariant.1)) l.invariant.2
          (rw (to_z-of_z {w = w16} (record { sfits = c.level_of_sample.type_inv })) (subst (λ (x : Sample). LevelOfSample c.args.setting x c.level_of_sample.result) same c.level_of_sample.ensures)),
    )

pub shape_of-room : goal.shape_of-room
shape_of-room c = c.loop-i.invariant.1 ∙ sym c.requires.as_long

pub returns : goal.returns
returns c =
    let l = c.loop-i in
    record { as_long = l.invariant.1; each = λ i h. l.invariant.2 i (omega (arith, h, c.loop-i-test.false)) }
