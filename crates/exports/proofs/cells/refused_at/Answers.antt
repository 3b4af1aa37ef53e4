-- `exports::cells::refused_at` meets its contract.
use mathlib.Core.Path.{ap}
use lib.ListN.{set}
use Prim.Native.Nat.{ℕ}
use Rattle.exports.proofs.cells.refused_at.Goals as goal

pub returns : goal.returns
returns c =
    record { number_is = c.refusal_number.ensures; place_is = ap (λ (x : ℕ). set c.args.at.now 0 x) c.refusal_place.ensures }
