-- The loop's invariant: the first i positions are read. The measure is what is left of n.
use Prim.Native.Nat.{◌≤◌}
use Rattle.exports.specs.Flat.{plate_of}
use Rattle.exports.specs.Reading.{ReadsOn, firm_rooms}
use Rattle.exports.proofs.reading.put_others.Given as goal

abbrev pub invariant-loop-i : goal.invariant-loop-i
invariant-loop-i l = record {
  within : l.i ≤ l.n;
  reads : ReadsOn (plate_of l.plate) l.samples 1 l.i (firm_rooms l.initial.metrics l.initial.decisions l.initial.fixed l.initial.values)
      (firm_rooms l.metrics l.decisions l.fixed l.values);
}
