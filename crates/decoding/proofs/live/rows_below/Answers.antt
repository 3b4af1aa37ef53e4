-- `decoding::live::rows_below` meets its contract.
use lib.Count.{ones-le}
use mathlib.Core.Path.{ap, sym}
use native.Mathlib.Omega.{arith}
use lib.Pow.{pow_pos}
use Prim.Native.Nat.{◌-◌}
use Rattle.trellises.proofs.AmongRows.{shifted_one}
use Rattle.decoding.specs.LiveRows.{ending_by}
use Rattle.decoding.proofs.MarkCounts.{below-few, below-is}
use Rattle.decoding.proofs.live.rows_below.Goals as goal

pub overflow_cast-result : goal.overflow_cast-result
overflow_cast-result c = record { fits = omega (arith, ones-le 64 c.args.active c.ranges.active.fits) }

pub returns-then-following-eq0 : goal.returns-then-following-eq0
returns-then-following-eq0 c = sym (ap (ending_by c.args.active) c.if-following-eq0.true)

pub overflow_sub-below-2 : goal.overflow_sub-below-2
overflow_sub-below-2 c =
    omega (arith, shifted_one (c.args.following - 1) (omega (arith, c.requires)), pow_pos (c.args.following - 1))

pub overflow_cast-result-2 : goal.overflow_cast-result-2
overflow_cast-result-2 c =
    record {
      fits = omega (
        arith,
        below-is c.args.active c.args.following c.if-following-eq0.false c.requires,
        below-few c.args.active c.args.following c.if-following-eq0.false c.requires,
      );
    }

pub returns : goal.returns
returns c = below-is c.args.active c.args.following c.if-following-eq0.false c.requires
