-- `decoding::apart::best_metric_parts` meets its contract: each refusal in its order, and the best metric.
use borrow.Author.Rules.{rules}
use lib.ListN.{length}
use mathlib.Core.List.{[]}
use mathlib.Core.Path.{◌∙◌, ap, subst, sym}
use native.Mathlib.Omega.{arith}
use Prim.Native.Nat.{◌+◌, ◌<◌, ◌≤◌}
use Rattle.plates.specs.Prepare.{lent}
use Rattle.decoding.specs.declared.sweep.Sizes.{Sizes}
use Rattle.decoding.specs.Decode.{metric_need}
use Rattle.decoding.specs.Searching.{MetricSearched}
use Rattle.decoding.specs.Sweeping.{RoomsFit, SizesFit, undecided}
use Rattle.decoding.proofs.ApartCalls.{measured, refused-5, refused-6, refused-7, refused-8, room_fits}
use Rattle.decoding.proofs.PlateSizes.{plate-sizes-fit, sizes-are}
use Rattle.decoding.proofs.apart.best_metric_parts.Goals as goal

pub returns-then-not-parts_prepared : goal.returns-then-not-parts_prepared
returns-then-not-parts_prepared c =
    let plate = lent c.args.plate in
    refused-5 plate c.args.samples.now c.args.metrics.now (c.parts_prepared.ensures.no_is c.if-not-parts_prepared.true)

pub returns-then-samples-plate : goal.returns-then-samples-plate
returns-then-samples-plate c =
    let plate = lent c.args.plate in
    let given = c.parts_prepared.ensures.yes_is c.if-not-parts_prepared.false in
    refused-6 plate c.args.samples.now c.args.metrics.now given c.if-samples-plate.true

pub returns-in-Some : goal.returns-in-Some
returns-in-Some c =
    let plate = lent c.args.plate in
    let given = c.parts_prepared.ensures.yes_is c.if-not-parts_prepared.false in
    refused-7 plate c.args.samples.now c.args.metrics.now given c.if-samples-plate.false c.in-Some.ensures

pub sizes_of-sizes-requires : goal.sizes_of-sizes-requires
sizes_of-sizes-requires c =
    let plate = lent c.args.plate in
    let given = c.parts_prepared.ensures.yes_is c.if-not-parts_prepared.false in
    given

pub overflow_add-metric_need : goal.overflow_add-metric_need
overflow_add-metric_need c =
    let plate = lent c.args.plate in
    let given = c.parts_prepared.ensures.yes_is c.if-not-parts_prepared.false in
    let e = sizes-are plate given c.sizes_of-sizes.result c.sizes_of-sizes.ensures in
    record { fits = omega (arith, ap (λ (z : Sizes). z.half) e, (plate-sizes-fit plate given).half_small) }

pub returns-then-metrics-metric_need : goal.returns-then-metrics-metric_need
returns-then-metrics-metric_need c =
    let plate = lent c.args.plate in
    let given = c.parts_prepared.ensures.yes_is c.if-not-parts_prepared.false in
    let e = sizes-are plate given c.sizes_of-sizes.result c.sizes_of-sizes.ensures in
    let h : length c.args.metrics.now < metric_need plate = omega (arith, c.if-metrics-metric_need.true, ap (λ (z : Sizes). z.half) e) in
    refused-8 plate c.args.samples.now c.args.metrics.now given c.if-samples-plate.false c.in_default.ensures h

pub search_metric-measure-requires : goal.search_metric-measure-requires
search_metric-measure-requires c =
    let plate = lent c.args.plate in
    let given = c.parts_prepared.ensures.yes_is c.if-not-parts_prepared.false in
    let e = sizes-are plate given c.sizes_of-sizes.result c.sizes_of-sizes.ensures in
    let m : metric_need plate ≤ length c.args.metrics.now = omega (arith, c.if-metrics-metric_need.false, ap (λ (z : Sizes). z.half) e) in
    let both = subst (λ (z : Sizes). SizesFit c.args.plate.rows.now z × RoomsFit (undecided z) c.args.samples.now c.args.metrics.now []) (sym e)
    (plate-sizes-fit plate given, room_fits plate c.args.samples.now c.args.metrics.now given c.if-samples-plate.false c.in_default.ensures m) in
    record { sizes_fit = both.0; rooms_fit = both.1 }

pub returns : goal.returns
returns c =
    let plate = lent c.args.plate in
    let given = c.parts_prepared.ensures.yes_is c.if-not-parts_prepared.false in
    let e = sizes-are plate given c.sizes_of-sizes.result c.sizes_of-sizes.ensures in
    let m : metric_need plate ≤ length c.args.metrics.now = omega (arith, c.if-metrics-metric_need.false, ap (λ (z : Sizes). z.half) e) in
    measured plate c.args.samples.now c.args.metrics.now given c.if-samples-plate.false c.in_default.ensures m c.search_metric-measure.new.metrics c.search_metric-measure.result
    (subst (λ (z : Sizes). MetricSearched c.args.plate.rows.now z c.args.samples.now c.args.metrics.now c.search_metric-measure.new.metrics c.search_metric-measure.result) e c.search_metric-measure.ensures)
    _ (ap (λ (z : Sizes). z.half + z.half) e ∙ omega arith) _ (search rules)
