-- `levels::level_of` meets its contract: each refusal, and the level.
use mathlib.Core.Logic.{inl, inr}
use mathlib.Core.Path.{refl}
use mir.Facts.{to_z-of_z}
use mir.Syntax.{w16}
use Rattle.levels.proofs.Calls.{good-passed, sample-passes}
use Rattle.levels.proofs.Tests.{found, not_found}
use Rattle.levels.proofs.level_of.Goals as goal

pub returns-then-not-is_good : goal.returns-then-not-is_good
returns-then-not-is_good c = inl (c.is_good.ensures.no_is c.if-not-is_good.true, refl)

pub returns-then-is_not_a_number : goal.returns-then-is_not_a_number
returns-then-is_not_a_number c =
    let good = c.is_good.ensures.yes_is c.if-not-is_good.false in
    inr (good-passed good, inl (found c.is_not_a_number.ensures c.if-is_not_a_number.true, refl))

pub level_of_sample-requires : goal.level_of_sample-requires
level_of_sample-requires c =
    let good = c.is_good.ensures.yes_is c.if-not-is_good.false in
    (good, not_found c.is_not_a_number.ensures c.if-is_not_a_number.false)

pub returns : goal.returns
returns c =
    let good = c.is_good.ensures.yes_is c.if-not-is_good.false in
    let number = not_found c.is_not_a_number.ensures c.if-is_not_a_number.false in
    rw (to_z-of_z {w = w16} (record { sfits = c.level_of_sample.type_inv })) (sample-passes good c.args.sample number, c.level_of_sample.ensures)
