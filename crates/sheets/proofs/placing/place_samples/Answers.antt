-- `placing::place_samples` meets its contract.
use lib.IntN.{pos}
use lib.ListN.{replicate}
use lib.Seq.{length-take-le}
use mathlib.Core.Path.{◌∙◌, refl, sym}
use native.Mathlib.Omega.{arith}
use Rattle.sheets.specs.Text.{fields}
use Rattle.sheets.proofs.Laying.{laid-size}
use Rattle.sheets.proofs.SamplePlaces.{placed-long, placed-short}
use Rattle.sheets.proofs.placing.place_samples.Goals as goal

pub returns-then-count-gt64 : goal.returns-then-count-gt64
returns-then-count-gt64 c =
    let a = c.args in
    placed-long a.heard a.order (fields a.line.now) a.count c.requires a.room.now c.if-count-gt64.true

pub slice_bounds-place_listed-end : goal.slice_bounds-place_listed-end
slice_bounds-place_listed-end c =
    let r = c.read_block_line.ensures in
    sym (length-take-le _ _ (rw (r.stored _ (r.is ∙ c.requires), laid-size) (omega (arith, c.if-count-gt64.false))))

pub returns : goal.returns
returns c =
    let r = c.read_block_line.ensures in
    placed-short c.args.heard c.args.order (fields c.args.line.now) c.args.count c.requires c.args.room.now (replicate 64 (pos 0)) _ _ refl
    (omega (arith, c.if-count-gt64.false)) (r.stored _ (r.is ∙ c.requires)) c.place_listed.ensures
