-- `telling::tell` meets its contract.
use native.Mathlib.Omega.{arith}
use mathlib.Core.Path.{subst}
use native.Mathlib.Numerals.{add-one}
use Prim.Native.Nat.{ℕ, ◌+◌, ◌-◌, ◌<◌}
use Rattle.judging.specs.Ours.{ours}
use Rattle.judging.specs.Ways.{Tells}
use Rattle.judging.proofs.StatesTold.{end-told, line-asks, line-asks-other, other-told, section-small, state-told-by}
use Rattle.judging.specs.Room.{theirs}
use Rattle.judging.proofs.telling.tell.Goals as goal

pub returns-then-state-eq0 : goal.returns-then-state-eq0
returns-then-state-eq0 c =
    end-told c.requires.asking.ready.plate (theirs c.args.n c.args.lines c.args.room.now) c.args.t c.args.state c.if-t-n.true c.if-state-eq0.true

pub returns-then-t-n : goal.returns-then-t-n
returns-then-t-n c =
    other-told c.requires.asking.ready.plate (theirs c.args.n c.args.lines c.args.room.now) c.args.t c.args.state c.if-t-n.true c.if-state-eq0.false

pub line_from-first-requires : goal.line_from-first-requires
line_from-first-requires c =
    let p = c.requires in
    let both = line-asks p.asking c.if-t-n.false p.state_bound c.bit_at-flip.ensures in
    record {
      room_len = both.0;
      within = both.1;
    }

pub told_number-zero-requires : goal.told_number-zero-requires
told_number-zero-requires c = λ j e. omega (arith, c.line_from-first.ensures.there j e, c.requires.asking.ready.holds.size)

pub line_from-second-requires : goal.line_from-second-requires
line_from-second-requires c =
    let p = c.requires in
    let both = line-asks-other p.asking c.if-t-n.false p.state_bound c.bit_at-flip.ensures in
    record {
      room_len = both.0;
      within = both.1;
    }

pub told_number-one-requires : goal.told_number-one-requires
told_number-one-requires c = λ j e. omega (arith, c.line_from-second.ensures.there j e, c.requires.asking.ready.holds.size)

pub class_of-requires : goal.class_of-requires
class_of-requires c =
    section-small c.requires.asking.ready.plate c.args.t (omega (arith, c.requires.asking.within, c.if-t-n.false)) c.section_of-section.result c.section_of-section.ensures

pub returns : goal.returns
returns c =
    let flip = c.bit_at-flip.ensures in
    let h : c.args.t < c.args.n = omega (arith, c.requires.asking.within, c.if-t-n.false) in
    subst (λ (u : ℕ). Tells (theirs c.args.n c.args.lines c.args.room.now) (ours c.args.rows.now c.args.mask) (c.args.n - c.args.t) c.args.t u
    c.class_of.result) (add-one c.args.state)
    (state-told-by c.requires.asking.ready.plate c.args.room.now c.args.lines c.requires.asking.ready.holds c.args.t h (c.requires.asking.told h) flip
    (c.args.state + 1) _ _ _ _ c.class_of.result (omega (arith, c.requires.state_bound)) c.line_from-first.ensures c.line_from-second.ensures
    c.told_number-zero.ensures c.told_number-one.ensures c.section_of-section.result c.section_of-section.ensures c.class_of.ensures)
