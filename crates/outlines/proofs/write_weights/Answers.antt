-- `write_weights` meets its contract.
use Rattle.std.proofs.lemmas.Result.{err_from_is_err_and}
use Rattle.outlines.proofs.Replying.{opened-prepared}
use Rattle.outlines.proofs.WeightsReplied.{weights-given, weights-refused}
use Rattle.outlines.proofs.write_weights.Goals as goal

pub put_plate-requires : goal.put_plate-requires
put_plate-requires c = opened-prepared c.opened-prepared.ensures c.in_ok-prepared.was

pub returns-in_err-prepared : goal.returns-in_err-prepared
returns-in_err-prepared c = let p = err_from_is_err_and c.from_residual.result c.from_residual.ensures.1 in rw (p.1, p.2) (weights-refused c.opened-prepared.ensures c.in_err-prepared.was)

pub returns : goal.returns
returns c = weights-given c.opened-prepared.ensures c.in_ok-prepared.was c.put_plate.ensures
