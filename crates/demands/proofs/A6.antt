-- A6, stack on the controller: preparing reduces in one working copy of the row table, the plate's own. Stack is no matter of this logic; it is
-- measured in the machine code (tests/stack, at most 2,048 bytes). What the request says of replies is proved: the promise is the one it was
-- (plates/specs/Prepare: `Prepares`), and it fixes the reply.
use mathlib.Core.List.{List}
use mathlib.Core.Path.{◌≡◌}
use Prim.Native.Nat.{ℕ}
use Rattle.plates.proofs.PrepareDetermined.{prepare-determined}
use Rattle.plates.specs.declared.Kind.{Kind}
use Rattle.plates.specs.declared.Prepared.{Prepared}
use Rattle.plates.specs.Prepare.{Prepares}

-- replies and promises stay: any two ways to prepare that keep the promise reply alike
pub replies-stay : (n : ℕ) (kind : Kind) (rows : List ℕ) (mask : ℕ) (r s : Prepared) → Prepares n kind rows mask r → Prepares n kind rows mask s → r ≡ s
replies-stay = prepare-determined
