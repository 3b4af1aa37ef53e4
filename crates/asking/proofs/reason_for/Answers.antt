-- `asking::reason_for` meets its contract: each reason in its turn.
use mathlib.Core.Bool.{false, true}
use Rattle.plates.specs.Prepare.{lent}
use Rattle.decoding.proofs.PlateSizes.{rows-there}
use Rattle.asking.proofs.Stopping.{nothing_left, stopped}
use Rattle.asking.proofs.Reasons.{samples-fit, scores-less, sub-fits, sub_is, test-is, ties-and-loses}
use Rattle.asking.proofs.reason_for.Goals as goal

pub left_of-rest-requires : goal.left_of-rest-requires
left_of-rest-requires c =
    let plate = lent c.args.plate in
    rows-there plate c.requires.given

pub returns-then-rest-ne0 : goal.returns-then-rest-ne0
returns-then-rest-ne0 c =
    stopped c.requires.given c.args.word c.left_of-rest.result c.left_of-rest.ensures c.if-rest-ne0.true c.stop_of.result c.stop_of.ensures

pub metric_of-metric-requires : goal.metric_of-metric-requires
metric_of-metric-requires c =
    let plate = lent c.args.plate in
    samples-fit plate c.args.samples.now c.args.answer c.requires

pub overflow_sub-difference : goal.overflow_sub-difference
overflow_sub-difference c =
    let plate = lent c.args.plate in
    sub-fits plate c.args.samples.now c.args.answer c.requires c.args.word c.metric_of-metric.result c.metric_of-metric.ensures

pub returns-then-metric-best : goal.returns-then-metric-best
returns-then-metric-best c =
    let plate = lent c.args.plate in
    let r = c.left_of-rest in
    let m = c.metric_of-metric in
    let codeword = nothing_left c.requires.given c.args.word r.result r.ensures c.if-rest-ne0.false in
    scores-less plate c.args.samples.now c.args.answer c.requires c.args.word codeword (test-is plate c.args.samples.now c.args.answer c.requires c.args.word m.result m.ensures true c.if-metric-best.true) _ (sub_is plate c.args.samples.now c.args.answer c.requires c.args.word m.result m.ensures)

pub returns : goal.returns
returns c =
    let plate = lent c.args.plate in
    let r = c.left_of-rest in
    let m = c.metric_of-metric in
    let codeword = nothing_left c.requires.given c.args.word r.result r.ensures c.if-rest-ne0.false in
    ties-and-loses plate c.args.samples.now c.args.answer c.requires c.args.word codeword c.if-word-answer.false (test-is plate c.args.samples.now c.args.answer c.requires c.args.word m.result m.ensures false c.if-metric-best.false) c.first_one.result c.first_one.ensures
