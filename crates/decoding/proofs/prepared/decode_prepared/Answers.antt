-- `decoding::prepared::decode_prepared` meets its contract: each refusal in its order, and the answer.
use borrow.Author.Rules.{rules}
use lib.ListN.{length}
use mathlib.Core.Path.{◌∙◌, ap, subst, sym}
use native.Mathlib.Omega.{arith}
use Prim.Native.Nat.{ℕ, ◌+◌, ◌*◌, ◌^◌, ◌<◌, ◌≤◌}
use Rattle.plates.specs.Prepare.{lent}
use Rattle.decoding.specs.declared.sweep.Sizes.{Sizes}
use Rattle.decoding.specs.Decode.{decision_need, metric_need}
use Rattle.decoding.specs.LiveRows.{PlateRows}
use Rattle.decoding.specs.Searching.{Searched}
use Rattle.decoding.specs.Sweeping.{RoomsFit, SizesFit}
use Rattle.decoding.proofs.DecodeCalls.{decoded, refused-6, refused-7, refused-8, refused-9, rooms-fit}
use Rattle.decoding.proofs.PlateSizes.{decision-need-small, plate-sizes-fit, sizes-are}
use Rattle.decoding.proofs.prepared.decode_prepared.Goals as goal

pub returns-then-samples-plate : goal.returns-then-samples-plate
returns-then-samples-plate c =
    let plate = lent c.args.plate in
    let given = c.requires in
    refused-6 plate c.args.samples.now c.args.metrics.now c.args.decisions.now given c.if-samples-plate.true

pub returns-in-Some : goal.returns-in-Some
returns-in-Some c =
    let plate = lent c.args.plate in
    let given = c.requires in
    refused-7 plate c.args.samples.now c.args.metrics.now c.args.decisions.now given (c.if-samples-plate.false) c.in-Some.ensures

pub sizes_of-sizes-requires : goal.sizes_of-sizes-requires
sizes_of-sizes-requires c =
    let plate = lent c.args.plate in
    let given = c.requires in
    given

pub overflow_add-metric_need : goal.overflow_add-metric_need
overflow_add-metric_need c =
    let plate = lent c.args.plate in
    let given = c.requires in
    let e = sizes-are plate given c.sizes_of-sizes.result c.sizes_of-sizes.ensures in
    record { fits = omega (arith, ap (λ (z : Sizes). z.half) e, (plate-sizes-fit plate given).half_small) }

pub overflow_mul-decision_need : goal.overflow_mul-decision_need
overflow_mul-decision_need c =
    let plate = lent c.args.plate in
    let given = c.requires in
    let e = sizes-are plate given c.sizes_of-sizes.result c.sizes_of-sizes.ensures in
    record { fits = subst (λ (x : ℕ). c.args.plate.n * x < 2 ^ 64) (sym (ap (λ (z : Sizes). z.words) e)) (omega (arith, decision-need-small plate given)) }

pub returns-then-metrics-metric_need : goal.returns-then-metrics-metric_need
returns-then-metrics-metric_need c =
    let plate = lent c.args.plate in
    let given = c.requires in
    let e = sizes-are plate given c.sizes_of-sizes.result c.sizes_of-sizes.ensures in
    let h : length c.args.metrics.now < metric_need plate = omega (arith, c.if-metrics-metric_need.true, ap (λ (z : Sizes). z.half) e) in
    refused-8 plate c.args.samples.now c.args.metrics.now c.args.decisions.now given (c.if-samples-plate.false) c.in_default.ensures h

pub returns-then-decisions-decision_need : goal.returns-then-decisions-decision_need
returns-then-decisions-decision_need c =
    let plate = lent c.args.plate in
    let given = c.requires in
    let e = sizes-are plate given c.sizes_of-sizes.result c.sizes_of-sizes.ensures in
    let m : metric_need plate ≤ length c.args.metrics.now = omega (arith, ap (λ (z : Sizes). z.half) e) in
    let h : length c.args.decisions.now < decision_need plate = subst (λ (x : ℕ). length c.args.decisions.now < c.args.plate.n * x) (ap (λ (z : Sizes). z.words) e) c.if-decisions-decision_need.true in
    refused-9 plate c.args.samples.now c.args.metrics.now c.args.decisions.now given (c.if-samples-plate.false) c.in_default.ensures m h

pub ending_rows-ends-requires : goal.ending_rows-ends-requires
ending_rows-ends-requires c =
    let plate = lent c.args.plate in
    let e = sizes-are plate c.requires c.sizes_of-sizes.result c.sizes_of-sizes.ensures in
    subst (λ (z : Sizes). PlateRows c.args.plate.rows.now z.k) (sym e) (plate-sizes-fit plate c.requires).plate

pub search-answer-requires : goal.search-answer-requires
search-answer-requires c =
    let plate = lent c.args.plate in
    let given = c.requires in
    let e = sizes-are plate given c.sizes_of-sizes.result c.sizes_of-sizes.ensures in
    let m : metric_need plate ≤ length c.args.metrics.now = omega (arith, c.if-metrics-metric_need.false, ap (λ (z : Sizes). z.half) e) in
    let d : decision_need plate ≤ length c.args.decisions.now = subst (λ (x : ℕ). c.args.plate.n * x ≤ length c.args.decisions.now) (ap (λ (z : Sizes). z.words) e) (omega (arith, c.if-decisions-decision_need.false)) in
    let f = subst (λ (z : Sizes). SizesFit c.args.plate.rows.now z × (RoomsFit z c.args.samples.now c.args.metrics.now c.args.decisions.now × (0 < z.words))) (sym e)
    (plate-sizes-fit plate given, (rooms-fit plate c.args.samples.now c.args.metrics.now c.args.decisions.now given (c.if-samples-plate.false) c.in_default.ensures m d, omega arith)) in
    record { sizes_fit = f.0; ends_are = c.ending_rows-ends.ensures; rooms_fit = f.1.0; words_nonzero = f.1.1 }

pub returns : goal.returns
returns c =
    let plate = lent c.args.plate in
    let given = c.requires in
    let e = sizes-are plate given c.sizes_of-sizes.result c.sizes_of-sizes.ensures in
    let m : metric_need plate ≤ length c.args.metrics.now = omega (arith, c.if-metrics-metric_need.false, ap (λ (z : Sizes). z.half) e) in
    let d : decision_need plate ≤ length c.args.decisions.now = subst (λ (x : ℕ). c.args.plate.n * x ≤ length c.args.decisions.now) (ap (λ (z : Sizes). z.words) e) (omega (arith, c.if-decisions-decision_need.false)) in
    decoded plate c.args.samples.now c.args.metrics.now c.args.decisions.now given (c.if-samples-plate.false) c.in_default.ensures m d c.search-answer.new.metrics c.search-answer.new.decisions c.search-answer.result
    (subst (λ (z : Sizes). Searched c.args.plate.rows.now z c.args.samples.now c.args.metrics.now c.args.decisions.now c.search-answer.new.metrics c.search-answer.new.decisions c.search-answer.result) e c.search-answer.ensures) _ _
    (ap (λ (z : Sizes). z.half + z.half) e ∙ omega arith) (ap (λ (z : Sizes). c.args.plate.n * z.words) e) _ (search rules) _ (search rules)
