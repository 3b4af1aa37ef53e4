-- `tables::enter` meets its contract.
use lib.IntN.{ℤ}
use lib.ListN.{set}
use mathlib.Core.Path.{ap₂}
use mir.Facts.{to_z-of_z}
use native.Mathlib.Omega.{arith}
use Prim.Native.Nat.{◌+◌, ◌-◌}
use Rattle.decoding.proofs.Preference.{sign-copy, tie-copy}
use Rattle.decoding.proofs.tables.enter.Goals as goal

pub returns : goal.returns
returns c =
    record {
      sign = ap₂ (λ (a b : ℤ). set (set c.args.signs.now c.args.i a) (c.args.i + 32) b) (sign-copy c.args.bit c.args.gain c.sign_of-sign.result c.requires.gain (rw (to_z-of_z c.ranges.gain) at c.sign_of-sign.ensures)) (sign-copy (1 - c.args.bit) c.args.gain c.sign_of-other.result c.requires.gain (rw (to_z-of_z c.ranges.gain) at c.sign_of-other.ensures));
      tie = ap₂ (λ (a b : ℤ). set (set c.args.ties.now c.args.i a) (c.args.i + 32) b) (tie-copy c.args.bit c.tie_of-tie.result c.requires.digit c.tie_of-tie.ensures) (tie-copy (1 - c.args.bit) c.tie_of-last.result (omega arith) c.tie_of-last.ensures);
    }
