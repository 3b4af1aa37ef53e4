-- `listing::print_lines` meets its contract.
use Prim.Native.Nat.{◌-◌, ◌^◌}
use Rattle.programs.specs.Printing.{Before}
use Rattle.programs.proofs.listing.print_lines.Given as goal

abbrev pub invariant-loop-after : goal.invariant-loop-after
invariant-loop-after g l = Before l.input l.sent.lines l.report

abbrev pub decreases-loop-after : goal.decreases-loop-after
decreases-loop-after g l = 2 ^ 64 - l.sent.lines
