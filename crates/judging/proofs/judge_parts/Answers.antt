-- `judge_parts` meets its contract: each refusal in its order, and the judgement.
use lib.ListN.{drop, length, replicate, take}
use lib.Seq.{length-take-le}
use mathlib.Core.List.{List, ◌++◌}
use mathlib.Core.Path.{ap, sym, ◌∙◌, ◌≡◌}
use native.Mathlib.Omega.{arith}
use Prim.Native.Nat.{ℕ, ◌*◌, ◌+◌}
use Rattle.plates.proofs.SoundIsPrepared.{sound}
use Rattle.plates.specs.declared.Refusal.TheVariants.{BranchFault, BranchTwice, MetricRoom, NotPrepared, TooManyLines}
use Rattle.plates.specs.Prepare.{lent}
use Rattle.judging.proofs.Refusing.{all-clean, judged-reply, of-this-plate, refused-26, refused-27, refused-28, refused-5, refused-8, refused-reply}
use Rattle.judging.proofs.judge_parts.Goals as goal

pub returns-then-not-parts_prepared : goal.returns-then-not-parts_prepared
returns-then-not-parts_prepared c =
    let a = c.args in
    let plate = lent a.plate in
    refused-reply plate a.text.now a.room.now NotPrepared
    (refused-5 plate a.text.now a.room.now (c.parts_prepared.ensures.no_is c.if-not-parts_prepared.true)) c.without_surplus.result
    c.without_surplus.ensures

pub returns-then-count-gt1024 : goal.returns-then-count-gt1024
returns-then-count-gt1024 c =
    let a = c.args in
    let plate = lent a.plate in
    let given = c.parts_prepared.ensures.yes_is c.if-not-parts_prepared.false in
    refused-reply plate a.text.now a.room.now TooManyLines
    (refused-28 plate a.text.now a.room.now given (omega (arith, c.count_lines-count.ensures)))
    c.without_surplus-then-count-gt1024.result c.without_surplus-then-count-gt1024.ensures

pub returns-in-Some : goal.returns-in-Some
returns-in-Some c =
    let a = c.args in
    let plate = lent a.plate in
    let given = c.parts_prepared.ensures.yes_is c.if-not-parts_prepared.false in
    refused-reply plate a.text.now a.room.now (BranchFault (c.in-Some.line + 1))
    (refused-26 plate a.text.now a.room.now given (omega (arith, c.count_lines-count.ensures)) c.in-Some.line c.in-Some.ensures)
    c.without_surplus-in-Some.result c.without_surplus-in-Some.ensures

pub returns-in-Some-repeated : goal.returns-in-Some-repeated
returns-in-Some-repeated c =
    let a = c.args in
    let plate = lent a.plate in
    let given = c.parts_prepared.ensures.yes_is c.if-not-parts_prepared.false in
    refused-reply plate a.text.now a.room.now (BranchTwice (c.in-Some-repeated.line + 1))
    (refused-27 plate a.text.now a.room.now given (omega (arith, c.count_lines-count.ensures)) c.in_default.ensures c.in-Some-repeated.line c.in-Some-repeated.ensures)
    c.without_surplus-in-Some-repeated.result c.without_surplus-in-Some-repeated.ensures

pub returns-then-room-need : goal.returns-then-room-need
returns-then-room-need c =
    let a = c.args in
    let plate = lent a.plate in
    let given = c.parts_prepared.ensures.yes_is c.if-not-parts_prepared.false in
    refused-reply plate a.text.now a.room.now MetricRoom
    (refused-8 plate a.text.now a.room.now given (omega (arith, c.count_lines-count.ensures)) c.in_default.ensures c.in_default-repeated.ensures (omega (arith, c.if-room-need.true, c.count_lines-count.ensures)))
    c.without_surplus-then-room-need.result c.without_surplus-then-room-need.ensures

pub slice_bounds-judged-end : goal.slice_bounds-judged-end
slice_bounds-judged-end c =
    let a = c.args in
    let given = c.parts_prepared.ensures.yes_is c.if-not-parts_prepared.false in
    sym (length-take-le a.plate.k a.plate.rows.now (omega (arith, (sound given).few, (sound given).table)))

pub slice_bounds-judged-end-3 : goal.slice_bounds-judged-end-3
slice_bounds-judged-end-3 c = sym (length-take-le (4 * c.count_lines-count.result) c.args.room.now (omega (arith, c.if-room-need.false)))

pub judged-requires : goal.judged-requires
judged-requires c =
    let a = c.args in
    let plate = lent a.plate in
    let given = c.parts_prepared.ensures.yes_is c.if-not-parts_prepared.false in
    record {
      plate = of-this-plate plate a.text.now a.room.now given (omega (arith, c.count_lines-count.ensures)) c.in_default.ensures c.in_default-repeated.ensures;
      clean = all-clean plate a.text.now a.room.now given (omega (arith, c.count_lines-count.ensures)) c.in_default.ensures c.in_default-repeated.ensures;
      count = c.count_lines-count.ensures;
      size = length-take-le (4 * c.count_lines-count.result) a.room.now (omega (arith, c.if-room-need.false))
          ∙ ap (λ (k : ℕ). 4 * k) c.count_lines-count.ensures;
    }

pub returns : goal.returns
returns c =
    let a = c.args in
    let plate = lent a.plate in
    let given = c.parts_prepared.ensures.yes_is c.if-not-parts_prepared.false in
    let k : ℕ = 4 * c.count_lines-count.result in
    let full : length (take k a.room.now) ≡ k = length-take-le k a.room.now (omega (arith, c.if-room-need.false)) in
    judged-reply plate a.text.now a.room.now given (omega (arith, c.count_lines-count.ensures)) c.in_default.ensures c.in_default-repeated.ensures (omega (arith, c.if-room-need.false, c.count_lines-count.ensures))
    c.judged.result c.judged.ensures.judged_to _
    (ap (λ (ys : List ℕ). ys ++ drop k a.room.now) (c.judged.ensures.room_after ∙ ap (λ (m : ℕ). replicate m 0) full)
    ∙ ap (λ (m : ℕ). replicate (4 * m) 0 ++ drop (4 * m) a.room.now) c.count_lines-count.ensures)
