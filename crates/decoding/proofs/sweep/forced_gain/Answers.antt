-- `decoding::sweep::forced_gain` meets its contract: the forced gain at its position, and the sample elsewhere.
use lib.IntN.{pos}
use lib.ListN.{get_or}
use lib.Seq.{get_or-set_other, get_or-set_same}
use mathlib.Core.Path.{◌∙◌, ap, sym}
use mir.Facts.{sfits_widen, to_z-of_z}
use mir.Syntax.{w16, w32}
use native.Mathlib.Omega.{arith}
use Prim.Native.Nat.{ℕ}
use Rattle.decoding.specs.Sweeping.{forced_to}
use Rattle.decoding.proofs.sweep.forced_gain.Goals as goal

pub returns-then-t-forced : goal.returns-then-t-forced
returns-then-t-forced c =
    let f = c.args.forced in
    to_z-of_z {w = w32} {z = f.gain} (record { sfits = c.struct_told-1.given.1.0.1 })
    ∙ sym (get_or-set_same c.args.samples.now f.position f.gain (pos 0) (omega (arith, c.if-t-forced.true, c.requires)))
    ∙ ap (λ (i : ℕ). get_or (forced_to c.args.samples.now f) i (pos 0)) (sym c.if-t-forced.true)

pub returns : goal.returns
returns c =
    let f = c.args.forced in
    let e = to_z-of_z {w = w16} {z = get_or c.args.samples.now c.args.t (pos 0)} (record { sfits = c.gain-arg-1.given }) in
    rw (c.gain.ensures, e) (to_z-of_z {w = w32} (sfits_widen {w = w16} tt (record { sfits = c.gain-arg-1.given }))
    ∙ sym (get_or-set_other c.args.samples.now f.position c.args.t f.gain (pos 0) c.if-t-forced.false))
