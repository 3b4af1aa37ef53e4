-- `trellises::sections::section_of` meets its contract: the loop goes down over the rows, so those passed are the list's tail.
use lib.ListN.{drop, length}
use mathlib.Core.Path.{◌≡◌}
use Prim.Native.Nat.{◌≤◌}
use Rattle.trellises.specs.SectionOf.{held, section_of}
use Rattle.trellises.proofs.sections.section_of.Given as goal

abbrev pub invariant-loop-j : goal.invariant-loop-j
invariant-loop-j l = (l.j ≤ length l.rows) × (l.section ≡ held (section_of (drop l.j l.rows) l.t))
