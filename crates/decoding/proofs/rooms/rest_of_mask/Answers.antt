-- `decoding::rooms::rest_of_mask` meets its contract.
use lib.ListN.{take}
use lib.Seq.{length-take-le}
use mathlib.Core.Path.{◌∙◌, ap, sym}
use native.Mathlib.Omega.{arith}
use Rattle.decoding.specs.Cosets.{taken_off}
use Rattle.decoding.proofs.RestOfWords.{off_zero}
use Rattle.decoding.proofs.rooms.rest_of_mask.Goals as goal

pub returns-then-mask-eq0 : goal.returns-then-mask-eq0
returns-then-mask-eq0 c =
    let used = take c.args.k c.args.rows.now in
    sym (ap (taken_off used) c.if-mask-eq0.true ∙ off_zero used)

pub slice_bounds-rest_of-end : goal.slice_bounds-rest_of-end
slice_bounds-rest_of-end c = sym (length-take-le _ _ (omega arith))
