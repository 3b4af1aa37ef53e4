-- `plates::tested::ending_at` meets its contract: a test as a number is 1 or 0.
use mathlib.Core.Bool.{Bool, false, true}
use mathlib.Core.Path.{refl, ◌≡◌}
use mir.Val.{bool_byte}
use Rattle.words.specs.Choice.{more}
use Rattle.plates.proofs.tested.ending_at.Goals as goal

as_number : (b : Bool) → bool_byte b ≡ more b 0
as_number true = refl
as_number false = refl

pub returns : goal.returns
returns c = as_number _
