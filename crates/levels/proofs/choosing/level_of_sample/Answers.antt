-- `levels::choosing::level_of_sample` meets its contract.
use mathlib.Core.Path.{refl, subst, sym}
use mir.Facts.{to_z-of_z}
use mir.Syntax.{w16}
use Rattle.levels.specs.declared.Sample.{Sample}
use Rattle.levels.specs.Choosing.{LevelOfSample}
use Rattle.levels.specs.Testing.{IsNumber}
use Rattle.levels.proofs.choosing.level_of_sample.Goals as goal

pub level_of_value-requires : goal.level_of_value-requires
level_of_value-requires c = (c.requires.0, subst IsNumber c.in-Heard.is c.requires.1)

pub returns-in-Heard : goal.returns-in-Heard
returns-in-Heard c =
    rw (to_z-of_z {w = w16} (record { sfits = c.level_of_value.type_inv })) (subst (λ (x : Sample). LevelOfSample c.args.setting x c.level_of_value.result) (sym c.in-Heard.is) c.level_of_value.ensures)

pub returns-in-Erased : goal.returns-in-Erased
returns-in-Erased c = subst (λ (x : Sample). LevelOfSample c.args.setting x _) (sym c.in-Erased.is) refl
