-- `listing::list_lines` meets its contract.
use Rattle.std.proofs.Common.{◌≡◌, ◌≤◌, length}
use Rattle.reports.specs.Remaining.{rooms}
use Rattle.reports.proofs.ListingLines.{Stands}
use Rattle.reports.proofs.listing.list_lines.Given as goal

abbrev pub invariant-loop : goal.invariant-loop
invariant-loop l = (l.counter ≤ l.lines) × (length l.metrics ≡ length l.initial.metrics) × (length l.decisions ≡ length l.initial.decisions) × (length l.listing ≡ length l.initial.listing)
    × Stands l.input l.initial.progress.report (rooms l.initial.metrics l.initial.decisions) l.initial.listing l.counter (rooms l.metrics l.decisions) l.listing l.progress
