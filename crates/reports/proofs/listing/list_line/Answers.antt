-- `listing::list_line` meets its contract.
use Rattle.std.proofs.Common.{refl, arith}
use Rattle.reports.proofs.ListingLines.{gives-one, line-added, size_small}
use Rattle.reports.proofs.listing.list_line.Goals as goal

pub overflow_add-result : goal.overflow_add-result
overflow_add-result c =
    let p = c.args.progress in
    let room = c.args.listing.now in
    let one = gives-one _ p _ _ room _ _ _ c.requires refl c.next_line-step.ensures in
    record { fits = omega (arith, size_small _ p _ _ room _ _ _ c.requires refl c.next_line-step.ensures _ one, c.bytes_of.ensures) }

pub returns : goal.returns
returns c =
    let p = c.args.progress in
    let room = c.args.listing.now in
    let one = gives-one _ p _ _ room _ _ _ c.requires refl c.next_line-step.ensures in
    rw c.bytes_of.ensures (line-added _ p _ _ room _ _ _ c.requires refl c.next_line-step.ensures _ one)
