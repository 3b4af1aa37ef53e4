-- `block::read_samples` meets its contract.
use mathlib.Core.Path.{◌∙◌, sym}
use mir.Facts.{to_z-of_z}
use mir.Syntax.{w16}
use native.Mathlib.Omega.{arith}
use Rattle.sheets.proofs.Sampling.{sample-bad, sample-end, sample-on, sample-start}
use Rattle.sheets.proofs.block.read_samples.Goals as goal

pub loop-at-init : goal.loop-at-init
loop-at-init c = sample-start _ _ _ _ c.requires.from_in_bounds

pub returns-in_default : goal.returns-in_default
returns-in_default c =
    let u = c.until-end in
    sample-bad c.loop-at.invariant u.result (omega arith) u.ensures (sym c.read_sample-sample.ensures ∙ c.in_default.is)

pub loop-at-preserved : goal.loop-at-preserved
loop-at-preserved c =
    let u = c.until-end in
    let v = c.in-Some.value in
    let g = sym c.read_sample-sample.ensures ∙ c.in-Some.is in
    rw (c.put.ensures, to_z-of_z {w = w16} {z = v} (record { sfits = c.in-Some.known_told-1-own.given.0.1 }))
    (sample-on c.loop-at.invariant u.result (omega arith) u.ensures v g)

pub returns : goal.returns
returns c = sample-end c.loop-at.invariant (omega arith)
