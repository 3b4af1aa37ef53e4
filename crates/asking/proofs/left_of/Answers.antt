-- `asking::left_of` meets its contract.
use lib.Seq.{length-take-le}
use mathlib.Core.Path.{sym}
use native.Mathlib.Omega.{arith}
use Rattle.asking.proofs.left_of.Goals as goal

pub slice_bounds-rest_of-end : goal.slice_bounds-rest_of-end
slice_bounds-rest_of-end c = sym (length-take-le _ _ (omega arith))

pub returns : goal.returns
returns c = c.rest_of.ensures
