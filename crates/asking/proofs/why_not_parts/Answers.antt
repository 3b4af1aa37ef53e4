-- `asking::why_not_parts` meets its contract: decoding's refusals, or the reason against decoding's answer.
use Rattle.std.proofs.lemmas.Result.{err_from_is_err_and}
use Rattle.plates.specs.Prepare.{lent}
use Rattle.asking.proofs.Replies.{asked_of, explained, refused}
use Rattle.asking.proofs.why_not_parts.Goals as goal

pub reason_for-requires : goal.reason_for-requires
reason_for-requires c =
    let a = c.args in
    let plate = lent a.plate in
    let d = c.decode_parts in
    asked_of plate a.samples.now a.word a.metrics.now a.decisions.now _ _ d.result d.ensures _ c.in_ok-answer.was

pub returns : goal.returns
returns c =
    let a = c.args in
    let plate = lent a.plate in
    let d = c.decode_parts in
    explained plate a.samples.now a.word a.metrics.now a.decisions.now _ _ d.result d.ensures _ c.in_ok-answer.was
    c.reason_for.result c.reason_for.ensures

pub returns-in_err-answer : goal.returns-in_err-answer
returns-in_err-answer c =
    let a = c.args in
    let plate = lent a.plate in
    let d = c.decode_parts in
    let p = err_from_is_err_and c.from_residual.result c.from_residual.ensures.1 in
    rw (p.1, p.2) (refused plate a.samples.now a.word a.metrics.now a.decisions.now _ _ d.result d.ensures _ c.in_err-answer.was)
