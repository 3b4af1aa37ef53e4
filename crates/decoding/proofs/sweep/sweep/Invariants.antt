-- `decoding::sweep::sweep` meets its contract. The loop's invariant: the sweep has come to depth t
use Prim.Native.Nat.{◌≤◌}
use Rattle.decoding.specs.Sweeping.{SectionSwept, gains_of}
use Rattle.decoding.proofs.sweep.sweep.Given as goal

abbrev pub invariant-loop-t : goal.invariant-loop-t
invariant-loop-t l = (l.t ≤ l.sizes.n) × SectionSwept l.rows l.sizes (gains_of l.sizes l.samples l.forced) l.t l.initial.metrics l.initial.decisions l.metrics l.decisions l.at
