-- `tally::count_opposing` meets its contract.
use Rattle.reports.specs.Tally.{opposing}
use Rattle.reports.proofs.TallyCounts.{Counted}
use Rattle.std.proofs.Common.{◌≤◌, length, drop}
use Rattle.reports.proofs.tally.count_opposing.Given as goal

abbrev pub invariant-loop-i : goal.invariant-loop-i
invariant-loop-i l = (length l.samples ≤ 64) × (l.i ≤ length l.samples) × Counted (opposing l.word 0 l.samples) (opposing l.word l.i (drop l.i l.samples)) l.i l.count
