-- `patterns::pattern` meets its contract: both tables are right at each entry.
use mathlib.Core.Path.{refl}
use native.Mathlib.Omega.{arith}
use Prim.Native.Nat.{◌%◌, ◌/◌}
use Rattle.decoding.proofs.Parities.{pattern-is}
use Rattle.decoding.proofs.TablesChecked.{high_is, low-is}
use Rattle.decoding.proofs.patterns.pattern.Goals as goal

pub returns : goal.returns
returns c =
    let column = c.args.column in
    pattern-is refl refl (low-is (column % 8) (omega arith)) (high_is (column / 8 % 8) (omega arith))
