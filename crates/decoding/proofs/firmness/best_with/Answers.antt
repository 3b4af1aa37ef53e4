-- `decoding::firmness::best_with` meets its contract, by the laws of proofs/ForcedSweep.
use lib.IntN.{pos}
use mathlib.Core.Path.{◌∙◌}
use mir.Facts.{to_z-of_z}
use mir.Syntax.{w16}
use native.Mathlib.Omega.{arith}
use Rattle.decoding.proofs.ForcedSweep.{best-forced, from-few, from-there, gain-small, less-fits, own-copy, position-there, rooms-forced, total-fits}
use Rattle.decoding.proofs.Preference.{sign-copy}
use Rattle.decoding.specs.Forcing.{forcing}
use Rattle.decoding.proofs.firmness.best_with.Goals as goal

pub bounds-samples-position : goal.bounds-samples-position
bounds-samples-position c =
    position-there c.args.rows.now c.args.sizes c.args.samples.now c.args.metrics.now c.args.decisions.now c.requires.sizes_fit c.requires.rooms_fit c.args.position c.args.bit c.requires.position_lt_n

pub sign_of-own-requires : goal.sign_of-own-requires
sign_of-own-requires c =
    gain-small c.args.rows.now c.args.sizes c.args.samples.now c.args.metrics.now c.args.decisions.now c.requires.sizes_fit c.requires.rooms_fit c.args.position c.args.bit c.requires.position_lt_n _ (c.gain.ensures ∙ to_z-of_z {w = w16} (record { sfits = c.gain-arg-1.given }))

pub sweep-at-requires : goal.sweep-at-requires
sweep-at-requires c =
    record {
      sizes_fit = c.requires.sizes_fit;
      ends_are = c.requires.ends_are;
      rooms_fit = rooms-forced c.args.rows.now c.args.sizes c.args.samples.now c.args.metrics.now c.args.decisions.now c.requires.sizes_fit c.requires.rooms_fit c.args.position c.args.bit c.requires.position_lt_n _ (sign-copy c.args.bit (pos forcing) _ (omega arith) c.sign_of.ensures);
    }

pub offset_bounds-metrics-at : goal.offset_bounds-metrics-at
offset_bounds-metrics-at c =
    record { fits = omega (arith, from-few c.args.rows.now c.args.sizes c.args.samples.now c.args.metrics.now c.args.decisions.now c.requires.sizes_fit c.requires.rooms_fit c.args.position c.args.bit c.requires.position_lt_n _ (sign-copy c.args.bit (pos forcing) _ (omega arith) c.sign_of.ensures) c.args.ends.now c.requires.ends_are _ _ _ c.sweep-at.ensures, c.requires.sizes_fit.half_small) }

pub slice_copy_out-result : goal.slice_copy_out-result
slice_copy_out-result c =
    from-there c.args.rows.now c.args.sizes c.args.samples.now c.args.metrics.now c.args.decisions.now c.requires.sizes_fit c.requires.rooms_fit c.args.position c.args.bit c.requires.position_lt_n _ (sign-copy c.args.bit (pos forcing) _ (omega arith) c.sign_of.ensures) c.args.ends.now c.requires.ends_are _ _ _ c.sweep-at.ensures

pub overflow_sub-result : goal.overflow_sub-result
overflow_sub-result c =
    less-fits c.args.rows.now c.args.sizes c.args.samples.now c.args.metrics.now c.args.decisions.now c.requires.sizes_fit c.requires.rooms_fit c.args.position c.args.bit c.requires.position_lt_n _ (sign-copy c.args.bit (pos forcing) _ (omega arith) c.sign_of.ensures) c.args.ends.now c.requires.ends_are _ _ _ c.sweep-at.ensures

pub overflow_add-result : goal.overflow_add-result
overflow_add-result c =
    total-fits c.args.rows.now c.args.sizes c.args.samples.now c.args.metrics.now c.args.decisions.now c.requires.sizes_fit c.requires.rooms_fit c.args.position c.args.bit c.requires.position_lt_n _ (sign-copy c.args.bit (pos forcing) _ (omega arith) c.sign_of.ensures) c.args.ends.now c.requires.ends_are _ _ _ c.sweep-at.ensures _ (own-copy c.args.rows.now c.args.sizes c.args.samples.now c.args.metrics.now c.args.decisions.now c.requires.sizes_fit c.requires.rooms_fit c.args.position c.args.bit c.requires.position_lt_n _ _ (c.gain.ensures ∙ to_z-of_z {w = w16} (record { sfits = c.gain-arg-1.given })) c.sign_of-own.ensures)

pub shape_of-metrics : goal.shape_of-metrics
shape_of-metrics c = c.sweep-at.ensures.kept.metrics_size

pub shape_of-decisions : goal.shape_of-decisions
shape_of-decisions c = c.sweep-at.ensures.kept.decisions_size

pub returns : goal.returns
returns c =
    best-forced c.args.rows.now c.args.sizes c.args.samples.now c.args.metrics.now c.args.decisions.now c.requires.sizes_fit c.requires.rooms_fit c.args.position c.args.bit c.requires.position_lt_n _ (sign-copy c.args.bit (pos forcing) _ (omega arith) c.sign_of.ensures) c.args.ends.now c.requires.ends_are _ _ _ c.sweep-at.ensures _ (own-copy c.args.rows.now c.args.sizes c.args.samples.now c.args.metrics.now c.args.decisions.now c.requires.sizes_fit c.requires.rooms_fit c.args.position c.args.bit c.requires.position_lt_n _ _ (c.gain.ensures ∙ to_z-of_z {w = w16} (record { sfits = c.gain-arg-1.given })) c.sign_of-own.ensures)
