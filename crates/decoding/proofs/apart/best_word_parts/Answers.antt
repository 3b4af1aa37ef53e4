-- `decoding::apart::best_word_parts` meets its contract: the answer of decoding without its metric, or its refusal.
use Rattle.std.proofs.lemmas.Result.{err_from_is_err_and}
use Rattle.plates.specs.Prepare.{lent}
use Rattle.decoding.proofs.ApartCalls.{chosen, refused}
use Rattle.decoding.proofs.apart.best_word_parts.Goals as goal

pub returns : goal.returns
returns c =
    let plate = lent c.args.plate in
    let d = c.decode_parts in
    chosen plate c.args.samples.now c.args.metrics.now c.args.decisions.now _ _ d.result d.ensures _ c.in_ok-answer.was

pub returns-in_err-answer : goal.returns-in_err-answer
returns-in_err-answer c =
    let plate = lent c.args.plate in
    let d = c.decode_parts in
    let p = err_from_is_err_and c.from_residual.result c.from_residual.ensures.1 in
    rw (p.1, p.2) (refused plate c.args.samples.now c.args.metrics.now c.args.decisions.now _ _ d.result d.ensures _ c.in_err-answer.was)
