-- `exports::reasons::put_reason` meets its contract.
use lib.IntN.{ℤ}
use lib.ListN.{set}
use mathlib.Core.Path.{◌∙◌, ap, ap₂}
use mir.Facts.{to_z-of_z}
use mir.Syntax.{w32}
use Prim.Native.Nat.{ℕ}
use Rattle.exports.proofs.reasons.put_reason.Goals as goal

pub returns : goal.returns
returns c =
    record {
      told_is = ap₂ (λ (n p : ℕ). set (set c.args.told.now 0 n) 1 p) c.number_of.ensures c.position_of.ensures;
      difference_is = ap (λ (d : ℤ). set c.args.difference.now 0 d) (to_z-of_z {w = w32} (record { sfits = c.difference_of-apart.type_inv }) ∙ c.difference_of-apart.ensures);
    }
