-- `weights::tallies::step` meets its contract. The loop's invariant: the first p numbers are written.
use mathlib.Core.Path.{◌≡◌}
use Prim.Native.Nat.{◌*◌, ◌^◌}
use Rattle.weights.specs.Tallying.{StepFits}
use Rattle.weights.proofs.StepFilling.{Filling}
use Rattle.weights.proofs.tallies.step.Given as goal

abbrev pub invariant-loop-p : goal.invariant-loop-p
invariant-loop-p l = (l.size ≡ 2 ^ l.section.live * 65)
    × (f : StepFits l.initial.working l.from l.to l.section) × Filling l.initial.working l.from l.to l.section f.next l.p l.working
