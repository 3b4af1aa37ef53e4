-- `decoding::sweep::sweep_section` meets its contract, by the laws of proofs/SweepSection.
use lib.IntN.{ℤ, nat_abs, pos}
use lib.ListN.{get_or, length-set}
use mathlib.Core.List.{List}
use mathlib.Core.Path.{◌≡◌, ◌∙◌, subst, sym}
use mir.Facts.{to_z-of_z}
use mir.Syntax.{w32}
use mir.Val.{SFits}
use native.Mathlib.Omega.{arith}
use Prim.Native.Nat.{◌≤◌}
use Rattle.decoding.specs.Stepping.{gain_limit}
use Rattle.decoding.specs.Sweeping.{forced_to, gains_of}
use Rattle.decoding.proofs.MetricBounds.{gain-fits}
use Rattle.decoding.proofs.SweepSection.{begin-small, from_low, section-done, step_fits}
use Rattle.decoding.proofs.TurnedSamples.{turned-length, turned-size}
use Rattle.decoding.proofs.sweep.sweep_section.Goals as goal

pub pass_back-passed-requires : goal.pass_back-passed-requires
pass_back-passed-requires c =
    record {
      plate_rows = c.requires.fit.plate;
      ends_are = c.requires.ends_are;
      t_bound = (omega (arith, c.requires.depth, c.requires.fit.short), c.requires.swept.live);
    }

pub overflow_sub-taken : goal.overflow_sub-taken
overflow_sub-taken c =
    from_low c.args.rows.now c.args.sizes (gains_of c.args.sizes c.args.samples.now c.args.forced) c.args.metrics.now c.args.decisions.now c.args.t c.requires.fit c.requires.rooms c.requires.depth c.args.at c.requires.swept

pub overflow_mul-begin : goal.overflow_mul-begin
overflow_mul-begin c =
    record { fits = omega (arith, begin-small c.args.rows.now c.args.sizes (gains_of c.args.sizes c.args.samples.now c.args.forced) c.args.metrics.now c.args.decisions.now c.args.t c.requires.fit c.requires.rooms c.requires.depth c.args.at c.requires.swept) }

pub overflow_add-end : goal.overflow_add-end
overflow_add-end c =
    record { fits = omega (arith, begin-small c.args.rows.now c.args.sizes (gains_of c.args.sizes c.args.samples.now c.args.forced) c.args.metrics.now c.args.decisions.now c.args.t c.requires.fit c.requires.rooms c.requires.depth c.args.at c.requires.swept, c.requires.fit.words_small) }

pub offset_bounds-decisions-begin : goal.offset_bounds-decisions-begin
offset_bounds-decisions-begin c =
    record { fits = omega (arith, begin-small c.args.rows.now c.args.sizes (gains_of c.args.sizes c.args.samples.now c.args.forced) c.args.metrics.now c.args.decisions.now c.args.t c.requires.fit c.requires.rooms c.requires.depth c.args.at c.requires.swept) }

pub gain_at-requires : goal.gain_at-requires
gain_at-requires c =
    let ys : List ℤ = forced_to c.args.samples.now c.args.forced in
    let same = length-set c.args.samples.now c.args.forced.position c.args.forced.gain in
    let within = c.requires.rooms.within c.args.t (omega (arith, c.requires.depth, c.requires.rooms.size)) in
    record {
      t_in_bounds = omega (arith, c.requires.depth, c.requires.rooms.size, turned-length c.args.sizes.rest ys, same);
      pos_bound = omega (arith, within, turned-size c.args.sizes.rest ys c.args.t);
    }

pub step-counts-requires : goal.step-counts-requires
step-counts-requires c =
    let y : ℤ = get_or (gains_of c.args.sizes c.args.samples.now c.args.forced) c.args.t (pos 0) in
    let h : nat_abs y ≤ gain_limit = c.requires.rooms.within c.args.t (omega (arith, c.requires.depth, c.requires.rooms.size)) in
    let e : c.gain_at.result ≡ y = c.gain_at.ensures in
    step_fits c.args.rows.now c.args.sizes (gains_of c.args.sizes c.args.samples.now c.args.forced) c.args.metrics.now c.args.decisions.now c.args.t c.requires.fit c.requires.rooms c.requires.depth c.args.at c.requires.swept
    _ c.pass_back-passed.ensures.section _ (to_z-of_z (subst (SFits w32) (sym e) (gain-fits h)) ∙ e)

pub shape_of-metrics : goal.shape_of-metrics
shape_of-metrics c = c.step-counts.ensures.size

pub shape_of-decisions : goal.shape_of-decisions
shape_of-decisions c =
    let y : ℤ = get_or (gains_of c.args.sizes c.args.samples.now c.args.forced) c.args.t (pos 0) in
    let h : nat_abs y ≤ gain_limit = c.requires.rooms.within c.args.t (omega (arith, c.requires.depth, c.requires.rooms.size)) in
    let g = c.gain_at in
    let e : g.result ≡ y = g.ensures in
    let p = c.pass_back-passed.ensures in
    (section-done c.args.rows.now c.args.sizes (gains_of c.args.sizes c.args.samples.now c.args.forced) c.args.metrics.now c.args.decisions.now c.args.t c.requires.fit c.requires.rooms c.requires.depth c.args.at c.requires.swept
    _ p.section _ (to_z-of_z (subst (SFits w32) (sym e) (gain-fits h)) ∙ e)
    c.step-counts.new.metrics c.step-counts.new.decisions c.step-counts.result c.step-counts.ensures _ p.live).kept.decisions_size

pub returns : goal.returns
returns c =
    let y : ℤ = get_or (gains_of c.args.sizes c.args.samples.now c.args.forced) c.args.t (pos 0) in
    let h : nat_abs y ≤ gain_limit = c.requires.rooms.within c.args.t (omega (arith, c.requires.depth, c.requires.rooms.size)) in
    let g = c.gain_at in
    let e : g.result ≡ y = g.ensures in
    let p = c.pass_back-passed.ensures in
    section-done c.args.rows.now c.args.sizes (gains_of c.args.sizes c.args.samples.now c.args.forced) c.args.metrics.now c.args.decisions.now c.args.t c.requires.fit c.requires.rooms c.requires.depth c.args.at c.requires.swept
    _ p.section _ (to_z-of_z (subst (SFits w32) (sym e) (gain-fits h)) ∙ e)
    c.step-counts.new.metrics c.step-counts.new.decisions c.step-counts.result c.step-counts.ensures _ p.live
