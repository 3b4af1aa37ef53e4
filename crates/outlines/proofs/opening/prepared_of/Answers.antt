-- `opening::prepared_of` meets its contract.
use lib.Seq.{length-take-le}
use mathlib.Core.Path.{sym}
use Rattle.outlines.proofs.Openings.{prepared-as}
use Rattle.outlines.proofs.opening.prepared_of.Goals as goal

pub slice_bounds-prepare-end : goal.slice_bounds-prepare-end
slice_bounds-prepare-end c = sym (length-take-le _ _ c.requires)

pub returns : goal.returns
returns c = search prepared-as
