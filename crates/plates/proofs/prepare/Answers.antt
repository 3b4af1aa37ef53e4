-- `plates::prepare` meets its contract: the refusals in order, and the plate.
use mathlib.Core.Logic.{inl, inr}
use native.Mathlib.Omega.{arith}
use Rattle.plates.proofs.Replies.{accept, none-beyond, not_beyond, refuse-beyond, refuse-length, refuse-mask, refuse-rows, refuse-wide}
use Rattle.plates.proofs.prepare.Goals as goal

pub returns-then-n-eq0 : goal.returns-then-n-eq0
returns-then-n-eq0 c = refuse-length (inl c.if-n-eq0.true) c.refused.ensures

pub returns-then-n-gt64 : goal.returns-then-n-gt64
returns-then-n-gt64 c = refuse-length (inr c.if-n-gt64.true) c.refused-then-n-gt64.ensures

pub returns-then-rows-gt64 : goal.returns-then-rows-gt64
returns-then-rows-gt64 c = refuse-rows (omega arith) (omega arith) c.if-rows-gt64.true c.refused-then-rows-gt64.ensures

pub returns-in-Some : goal.returns-in-Some
returns-in-Some c =
    refuse-beyond (omega arith) (omega arith) (omega arith) c.in-Some.ensures c.refused-in-Some.ensures

pub plate_of_matrix-requires : goal.plate_of_matrix-requires
plate_of_matrix-requires c =
    record {
      n_bound = omega arith;
      rows_len_bound = omega arith;
      by_index = none-beyond _ c.in_default.ensures;
    }

pub returns-then-reach : goal.returns-then-reach
returns-then-reach c =
    refuse-mask (omega arith) (omega arith) (omega arith)
    (none-beyond _ c.in_default.ensures) (c.reaches-reach.ensures.yes_is c.if-reach.true) c.refused-then-reach.ensures

pub returns-in-Some-wide : goal.returns-in-Some-wide
returns-in-Some-wide c =
    refuse-wide (omega arith) (omega arith) (omega arith)
    (none-beyond _ c.in_default.ensures) (not_beyond (c.reaches-reach.ensures.no_is c.if-reach.false))
    c.plate_of_matrix.ensures c.in-Some-wide.ensures c.refused-in-Some-wide.ensures

pub returns : goal.returns
returns c =
    accept (omega arith) (omega arith) (omega arith)
    (none-beyond _ c.in_default.ensures) (not_beyond (c.reaches-reach.ensures.no_is c.if-reach.false))
    c.plate_of_matrix.ensures c.in_default-wide.ensures
