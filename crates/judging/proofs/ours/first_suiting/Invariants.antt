-- `ours::first_suiting` meets its contract.
use Prim.Native.Nat.{◌^◌, ◌≤◌, suc}
use Rattle.judging.specs.Ours.{suits}
use Rattle.judging.proofs.Reading.{Searching}
use Rattle.judging.proofs.ours.first_suiting.Given as goal

abbrev pub invariant-loop-a : goal.invariant-loop-a
invariant-loop-a l = (l.a ≤ 2 ^ l.section.live) × Searching (2 ^ l.section.live) (λ a. suits l.section (suc a) l.zero l.one) l.a
