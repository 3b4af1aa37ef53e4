-- `decoding::firmness::firmness_parts` meets its contract: each refusal in its order, and the reading.
use borrow.Author.Rules.{rules}
use lib.ListN.{length}
use mathlib.Core.Path.{◌∙◌, ap, subst, sym}
use native.Mathlib.Omega.{arith}
use Prim.Native.Nat.{ℕ, ◌+◌, ◌*◌, ◌^◌, ◌<◌, ◌≤◌}
use Rattle.plates.specs.Prepare.{lent}
use Rattle.decoding.specs.declared.sweep.Sizes.{Sizes}
use Rattle.decoding.specs.Decode.{decision_need, metric_need}
use Rattle.decoding.specs.Forcing.{ReadAt}
use Rattle.decoding.specs.Sweeping.{RoomsFit, SizesFit}
use Rattle.decoding.proofs.FirmnessCalls.{judged, refused-21, refused-5, refused-6, refused-7, refused-8, refused-9, rooms-fit}
use Rattle.decoding.proofs.PlateSizes.{decision-need-small, plate-sizes-fit, sizes-are}
use Rattle.decoding.proofs.firmness.firmness_parts.Goals as goal

pub returns-then-not-parts_prepared : goal.returns-then-not-parts_prepared
returns-then-not-parts_prepared c =
    let plate = lent c.args.plate in
    refused-5 plate c.args.samples.now c.args.position c.args.metrics.now c.args.decisions.now (c.parts_prepared.ensures.no_is c.if-not-parts_prepared.true)

pub returns-then-samples-plate : goal.returns-then-samples-plate
returns-then-samples-plate c =
    let plate = lent c.args.plate in
    let given = c.parts_prepared.ensures.yes_is c.if-not-parts_prepared.false in
    refused-6 plate c.args.samples.now c.args.position c.args.metrics.now c.args.decisions.now given c.if-samples-plate.true

pub returns-in-Some : goal.returns-in-Some
returns-in-Some c =
    let plate = lent c.args.plate in
    let given = c.parts_prepared.ensures.yes_is c.if-not-parts_prepared.false in
    refused-7 plate c.args.samples.now c.args.position c.args.metrics.now c.args.decisions.now given c.if-samples-plate.false c.in-Some.ensures

pub sizes_of-sizes-requires : goal.sizes_of-sizes-requires
sizes_of-sizes-requires c =
    let plate = lent c.args.plate in
    let given = c.parts_prepared.ensures.yes_is c.if-not-parts_prepared.false in
    given

pub overflow_add-metric_need : goal.overflow_add-metric_need
overflow_add-metric_need c =
    let plate = lent c.args.plate in
    let given = c.parts_prepared.ensures.yes_is c.if-not-parts_prepared.false in
    let e = sizes-are plate given c.sizes_of-sizes.result c.sizes_of-sizes.ensures in
    record { fits = omega (arith, ap (λ (z : Sizes). z.half) e, (plate-sizes-fit plate given).half_small) }

pub overflow_mul-decision_need : goal.overflow_mul-decision_need
overflow_mul-decision_need c =
    let plate = lent c.args.plate in
    let given = c.parts_prepared.ensures.yes_is c.if-not-parts_prepared.false in
    let e = sizes-are plate given c.sizes_of-sizes.result c.sizes_of-sizes.ensures in
    record { fits = subst (λ (x : ℕ). c.args.plate.n * x < 2 ^ 64) (sym (ap (λ (z : Sizes). z.words) e)) (omega (arith, decision-need-small plate given)) }

pub returns-then-plate-position : goal.returns-then-plate-position
returns-then-plate-position c =
    let plate = lent c.args.plate in
    let given = c.parts_prepared.ensures.yes_is c.if-not-parts_prepared.false in
    refused-21 plate c.args.samples.now c.args.position c.args.metrics.now c.args.decisions.now given c.if-samples-plate.false c.in_default.ensures c.if-plate-position.true

pub returns-then-metrics-metric_need : goal.returns-then-metrics-metric_need
returns-then-metrics-metric_need c =
    let plate = lent c.args.plate in
    let given = c.parts_prepared.ensures.yes_is c.if-not-parts_prepared.false in
    let e = sizes-are plate given c.sizes_of-sizes.result c.sizes_of-sizes.ensures in
    let h : length c.args.metrics.now < metric_need plate = omega (arith, c.if-metrics-metric_need.true, ap (λ (z : Sizes). z.half) e) in
    refused-8 plate c.args.samples.now c.args.position c.args.metrics.now c.args.decisions.now given c.if-samples-plate.false c.in_default.ensures (omega arith) h

pub returns-then-decisions-decision_need : goal.returns-then-decisions-decision_need
returns-then-decisions-decision_need c =
    let plate = lent c.args.plate in
    let given = c.parts_prepared.ensures.yes_is c.if-not-parts_prepared.false in
    let e = sizes-are plate given c.sizes_of-sizes.result c.sizes_of-sizes.ensures in
    let m : metric_need plate ≤ length c.args.metrics.now = omega (arith, ap (λ (z : Sizes). z.half) e) in
    let h : length c.args.decisions.now < decision_need plate = subst (λ (x : ℕ). length c.args.decisions.now < c.args.plate.n * x) (ap (λ (z : Sizes). z.words) e) c.if-decisions-decision_need.true in
    refused-9 plate c.args.samples.now c.args.position c.args.metrics.now c.args.decisions.now given c.if-samples-plate.false c.in_default.ensures (omega arith) m h

pub reading_at-reading-requires : goal.reading_at-reading-requires
reading_at-reading-requires c =
    let plate = lent c.args.plate in
    let given = c.parts_prepared.ensures.yes_is c.if-not-parts_prepared.false in
    let e = sizes-are plate given c.sizes_of-sizes.result c.sizes_of-sizes.ensures in
    let m : metric_need plate ≤ length c.args.metrics.now = omega (arith, c.if-metrics-metric_need.false, ap (λ (z : Sizes). z.half) e) in
    let d : decision_need plate ≤ length c.args.decisions.now = subst (λ (x : ℕ). c.args.plate.n * x ≤ length c.args.decisions.now) (ap (λ (z : Sizes). z.words) e) (omega (arith, c.if-decisions-decision_need.false)) in
    let all = subst (λ (z : Sizes). SizesFit c.args.plate.rows.now z × (RoomsFit z c.args.samples.now c.args.metrics.now c.args.decisions.now × (c.args.position < z.n))) (sym e)
    (plate-sizes-fit plate given, (rooms-fit plate c.args.samples.now c.args.position c.args.metrics.now c.args.decisions.now given c.if-samples-plate.false c.in_default.ensures c.if-plate-position.false m d, c.if-plate-position.false)) in
    record { sizes_fit = all.0; rooms_fit = all.1.0; position_lt_n = all.1.1 }

pub returns : goal.returns
returns c =
    let plate = lent c.args.plate in
    let given = c.parts_prepared.ensures.yes_is c.if-not-parts_prepared.false in
    let e = sizes-are plate given c.sizes_of-sizes.result c.sizes_of-sizes.ensures in
    let m : metric_need plate ≤ length c.args.metrics.now = omega (arith, c.if-metrics-metric_need.false, ap (λ (z : Sizes). z.half) e) in
    let d : decision_need plate ≤ length c.args.decisions.now = subst (λ (x : ℕ). c.args.plate.n * x ≤ length c.args.decisions.now) (ap (λ (z : Sizes). z.words) e) (omega (arith, c.if-decisions-decision_need.false)) in
    judged plate c.args.samples.now c.args.position c.args.metrics.now c.args.decisions.now given c.if-samples-plate.false c.in_default.ensures c.if-plate-position.false m d c.reading_at-reading.new.metrics c.reading_at-reading.new.decisions c.reading_at-reading.result
    (subst (λ (z : Sizes). ReadAt c.args.plate.rows.now z c.args.samples.now c.args.position c.args.metrics.now c.args.decisions.now c.reading_at-reading.new.metrics c.reading_at-reading.new.decisions c.reading_at-reading.result) e c.reading_at-reading.ensures) _ _
    (ap (λ (z : Sizes). z.half + z.half) e ∙ omega arith) (ap (λ (z : Sizes). c.args.plate.n * z.words) e) _ (search rules) _ (search rules)
