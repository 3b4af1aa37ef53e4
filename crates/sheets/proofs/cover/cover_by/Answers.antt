-- `cover::cover_by` meets its contract.
use Rattle.std.proofs.Common.{Err}
use mathlib.Core.List.{List}
use mathlib.Core.Path.{◌≡◌, refl}
use Prim.Native.Nat.{ℕ}
use Rattle.sheets.specs.Covers.{cover_by}
use Rattle.sheets.specs.declared.line.Fault.TheVariants.{Turn}
use Rattle.sheets.specs.declared.word.Word.{Word}
use Rattle.sheets.specs.declared.word.Word.TheVariants.{Cover, Mask, Row, Block, Heard, End, Other}
use Rattle.sheets.proofs.cover.cover_by.Goals as goal

not-cover : (w : Word) (fs : List (List ℕ)) → (w ≡ Cover → ⊥) → cover_by w fs ≡ Err Turn
not-cover Cover fs h = absurd (h refl)
not-cover Mask fs h = refl
not-cover Row fs h = refl
not-cover Block fs h = refl
not-cover Heard fs h = refl
not-cover End fs h = refl
not-cover Other fs h = refl

pub returns-in_default : goal.returns-in_default
returns-in_default c = rw (not-cover c.args.word _ c.in_default.not-Cover)

pub returns : goal.returns
returns c = rw c.in-Cover.is c.cover_rest.ensures
