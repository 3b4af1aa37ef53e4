-- `weights::count_weights_parts` meets its contract: each refusal in its order, and the numbers.
use native.Mathlib.Omega.{arith}
use Rattle.plates.specs.Prepare.{lent}
use Rattle.weights.proofs.WeightCalls.{Ready, counts-still, least-told, made-ready, tally-asks, working-count}
use Rattle.weights.proofs.WeightCalls.{entries-small, need-fits, profile-long, rooms-refused, rows-count, unprepared, whole-space}
use Rattle.weights.proofs.count_weights_parts.Goals as goal
use Rattle.weights.proofs.count_weights_parts.Goals.{Else-short}

-- what is known where nothing is refused
ready : (c : Else-short) → let a = c.args in
    Ready (lent a.plate) c.half_of-half.result a.counts.now a.working.now
ready c = made-ready c.parts_prepared.ensures c.if-not-parts_prepared.false c.half_of-half.ensures _ _ c.are_short-short.ensures
    (omega arith) c.if-short.false

pub returns-then-not-parts_prepared : goal.returns-then-not-parts_prepared
returns-then-not-parts_prepared c = unprepared c.parts_prepared.ensures _ _ c.if-not-parts_prepared.true

pub half_of-half-requires : goal.half_of-half-requires
half_of-half-requires c =
    (profile-long c.parts_prepared.ensures c.if-not-parts_prepared.false, entries-small c.parts_prepared.ensures c.if-not-parts_prepared.false)

pub overflow_add-need : goal.overflow_add-need
overflow_add-need c = need-fits c.parts_prepared.ensures c.if-not-parts_prepared.false c.half_of-half.ensures

pub returns-then-plate-eq64 : goal.returns-then-plate-eq64
returns-then-plate-eq64 c = whole-space c.parts_prepared.ensures c.if-not-parts_prepared.false _ _ c.if-plate-eq64.true

pub returns-then-short : goal.returns-then-short
returns-then-short c =
    rooms-refused c.parts_prepared.ensures c.if-not-parts_prepared.false c.half_of-half.ensures _ _ c.are_short-short.ensures
    (omega arith) c.if-short.true

pub slice_bounds-tally-end : goal.slice_bounds-tally-end
slice_bounds-tally-end c = rows-count c.parts_prepared.ensures c.if-not-parts_prepared.false

pub slice_bounds-tally-end-2 : goal.slice_bounds-tally-end-2
slice_bounds-tally-end-2 c = (ready (goal.at.slice_bounds-tally-end-2 c).Else-short).working_there

pub slice_bounds-tally-end-3 : goal.slice_bounds-tally-end-3
slice_bounds-tally-end-3 c = working-count (ready (goal.at.slice_bounds-tally-end-3 c).Else-short)

pub tally-requires : goal.tally-requires
tally-requires c =
    let r = ready (goal.at.tally-requires c).Else-short in
    record {
      tally_fits = tally-asks r;
      in_bounds = r.counts_there;
    }

pub find_least-requires : goal.find_least-requires
find_least-requires c = counts-still (ready (goal.at.find_least-requires c).Else-short) c.tally.ensures.counted c.tally.ensures.working_after

pub returns : goal.returns
returns c =
    least-told (ready (goal.at.returns c).Else-short) c.tally.ensures.counted c.tally.ensures.working_after c.find_least.result c.find_least.ensures
