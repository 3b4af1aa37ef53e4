-- `of_sheet` meets its contract.
use Rattle.std.proofs.Common.{sym, length-take-le}
use Rattle.reports.proofs.of_sheet.Goals as goal

pub slice_bounds-prepare-end : goal.slice_bounds-prepare-end
slice_bounds-prepare-end c = sym (length-take-le _ _ c.requires)

pub returns-in-Err : goal.returns-in-Err
returns-in-Err c =
    record { prepared = _; prepares = c.prepare-prepared.ensures; is = rw c.in-Err.is c.refused.ensures }

pub returns : goal.returns
returns c = record { prepared = _; prepares = c.prepare-prepared.ensures; is = rw (c.in_default.is, c.nothing_kept.ensures) }
