-- `placing::listed_at` meets its contract.
use native.Mathlib.Omega.{arith}
use Rattle.sheets.proofs.placing.listed_at.Goals as goal

pub returns-in-First : goal.returns-in-First
returns-in-First c =
    record {
      value = rw c.in-First.is;
      upper_bound = omega arith;
    }

pub returns-in-Last : goal.returns-in-Last
returns-in-Last c =
    record {
      value = rw c.in-Last.is;
      upper_bound = omega arith;
    }
