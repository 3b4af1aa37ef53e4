-- `verdicts::verdict` meets its contract.
use native.Mathlib.Omega.{arith}
use Rattle.judging.proofs.JudgingCalls.{start-apart, start-asks, start-same}
use Rattle.judging.proofs.verdicts.verdict.Goals as goal

pub tell-start-requires : goal.tell-start-requires
tell-start-requires c =
    record {
      asking = start-asks c.requires;
      state_bound = omega arith;
    }

pub returns-then-start-eq1 : goal.returns-then-start-eq1
returns-then-start-eq1 c = start-same c.requires c.tell-start.result c.tell-start.ensures c.if-start-eq1.true

pub walk-requires : goal.walk-requires
walk-requires c =
    let p = c.requires in
    record { ready = p.ready; told = p.told; apart = start-apart p c.tell-start.result c.tell-start.ensures c.if-start-eq1.false }
