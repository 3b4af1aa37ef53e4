-- `trellises::branch_parts` meets its contract: refusals 5 and 12, or the reply by the section's numbers.
use Rattle.trellises.proofs.BranchLaws.{refused-five, depth-over, bit-over, used-count, live-few, live_small, state-over, state-there, answered}
use Rattle.trellises.proofs.branch_parts.Goals as goal

pub returns-then-not-parts_prepared : goal.returns-then-not-parts_prepared
returns-then-not-parts_prepared c = search refused-five

pub returns-then-plate-depth : goal.returns-then-plate-depth
returns-then-plate-depth c = search depth-over

pub returns-then-bit-gt1 : goal.returns-then-bit-gt1
returns-then-bit-gt1 c = search bit-over

pub slice_bounds-section_of-end : goal.slice_bounds-section_of-end
slice_bounds-section_of-end c = used-count c.parts_prepared.ensures c.if-not-parts_prepared.false

pub returns-then-weight_of-state : goal.returns-then-weight_of-state
returns-then-weight_of-state c =
    let small = live_small c.parts_prepared.ensures c.if-not-parts_prepared.false c.if-plate-depth.false c.section_of-section.ensures in
    state-over c.parts_prepared.ensures c.if-not-parts_prepared.false c.if-plate-depth.false c.section_of-section.ensures
    (c.weight_of.ensures.below small) c.if-weight_of-state.true

pub next_of-requires : goal.next_of-requires
next_of-requires c =
    record {
      live_bound = search live-few;
      state_bound =
          let small = live_small c.parts_prepared.ensures c.if-not-parts_prepared.false c.if-plate-depth.false c.section_of-section.ensures in
          state-there c.parts_prepared.ensures c.if-not-parts_prepared.false c.if-plate-depth.false c.section_of-section.ensures
          (c.weight_of.ensures.below small) c.if-weight_of-state.false;
    }

pub returns : goal.returns
returns c =
    let small = live_small c.parts_prepared.ensures c.if-not-parts_prepared.false c.if-plate-depth.false c.section_of-section.ensures in
    answered c.parts_prepared.ensures c.if-not-parts_prepared.false c.if-plate-depth.false c.section_of-section.ensures
    (c.weight_of.ensures.below small) c.if-weight_of-state.false c.if-bit-gt1.false c.bit_at.ensures c.next_of.ensures
