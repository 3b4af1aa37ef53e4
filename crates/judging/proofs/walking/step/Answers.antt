-- `walking::step` meets its contract.
use native.Mathlib.Omega.{arith}
use lib.Bits.{bit_xor}
use mathlib.Core.Path.{◌∙◌, ap, sym}
use Prim.Native.Nat.{ℕ}
use Rattle.judging.specs.Ours.{follows}
use Rattle.judging.proofs.WalkSteps.{step-follow, step_line, step-one, step-zero}
use Rattle.judging.proofs.walking.step.Goals as goal

pub line_from-first-requires : goal.line_from-first-requires
line_from-first-requires c =
    let both = step_line c.requires (omega arith) in
    record {
      room_len = both.0;
      within = both.1;
    }

pub told_number-told-requires : goal.told_number-told-requires
told_number-told-requires c = λ j e. omega (arith, c.line_from-first.ensures.there j e, c.requires.asking.ready.holds.size)

pub follow-zero-requires : goal.follow-zero-requires
follow-zero-requires c =
    let both = step-follow c.requires c.section_of-section.ensures in
    record {
      small = both.0;
      y_bound = both.1;
    }

pub lead_number-lead-requires : goal.lead_number-lead-requires
lead_number-lead-requires c =
    let h = c.requires.asking.ready.holds in
    let l = c.line_from-first.ensures in
    record {
      in_room = λ j e. omega (arith, l.there j e, h.size);
      small = λ j e. h.leads j (l.there j e);
    }

pub returns-then-told-zero : goal.returns-then-told-zero
returns-then-told-zero c =
    step-zero _ _ _ _ _ _ _ _ c.requires c.section_of-section.result c.section_of-section.ensures c.line_from-first.result
    c.follow-zero.result c.line_from-first.ensures (c.follow-zero.ensures ∙ ap (follows c.section_of-section.result c.args.y) c.bit_at-flip.ensures)
    (λ q. c.if-told-zero.true (c.told_number-told.ensures ∙ q)) c.lead_number-lead.result c.lead_number-lead.ensures

pub line_from-second-requires : goal.line_from-second-requires
line_from-second-requires c =
    let both = step_line c.requires (omega arith) in
    record {
      room_len = both.0;
      within = both.1;
    }

pub lead_number-lead-requires-2 : goal.lead_number-lead-requires-2
lead_number-lead-requires-2 c =
    let h = c.requires.asking.ready.holds in
    let l = c.line_from-second.ensures in
    record {
      in_room = λ j e. omega (arith, l.there j e, h.size);
      small = λ j e. h.leads j (l.there j e);
    }

pub follow-one-requires : goal.follow-one-requires
follow-one-requires c =
    let both = step-follow c.requires c.section_of-section.ensures in
    record {
      small = both.0;
      y_bound = both.1;
    }

pub returns : goal.returns
returns c =
    let flip = c.bit_at-flip.ensures in
    step-one _ _ _ _ _ _ _ _ c.requires c.section_of-section.result c.section_of-section.ensures c.line_from-first.result
    c.follow-zero.result c.line_from-first.ensures (c.follow-zero.ensures ∙ ap (follows c.section_of-section.result c.args.y) flip)
    (sym c.told_number-told.ensures ∙ c.if-told-zero.false) c.line_from-second.result c.follow-one.result c.lead_number-lead-2.result
    c.line_from-second.ensures (c.follow-one.ensures ∙ ap (λ (b : ℕ). follows c.section_of-section.result c.args.y (bit_xor 1 b)) flip) c.lead_number-lead-2.ensures
