-- `blocks::used` meets its contract.
use Rattle.std.proofs.Common.{arith, le-ltb, lt-ltb}
use Rattle.reports.proofs.blocks.used.Goals as goal

pub returns-then-count-gt64 : goal.returns-then-count-gt64
returns-then-count-gt64 c =
    record {
      value = rw (lt-ltb 64 c.args.count c.if-count-gt64.true);
      upper_bound = omega arith;
    }

pub returns-else-count-gt64 : goal.returns-else-count-gt64
returns-else-count-gt64 c =
    record {
      value = rw (le-ltb 64 c.args.count c.if-count-gt64.false);
      upper_bound = omega arith;
    }
