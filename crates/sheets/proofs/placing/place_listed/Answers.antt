-- `placing::place_listed` meets its contract.
use lib.IntN.{pos}
use mathlib.Core.Path.{sym}
use mir.Facts.{to_z-of_z}
use mir.Syntax.{w16}
use native.Mathlib.Omega.{arith}
use Rattle.sheets.proofs.SamplePlaces.{placing-end, placing-on, placing-start}
use Rattle.sheets.proofs.Turns.{in-order-entry, in-order-length}
use Rattle.sheets.proofs.placing.place_listed.Goals as goal

pub loop-k-init : goal.loop-k-init
loop-k-init c = placing-start _ _

pub loop-k-preserved : goal.loop-k-preserved
loop-k-preserved c =
    let a = c.args in
    rw (c.put.ensures, to_z-of_z {w = w16} (record { sfits = c.value-1.given }))
    (placing-on c.loop-k.invariant _ (rw (in-order-length a.order a.listed.now) (omega arith))
    (rw c.listed_at-from.ensures.value (sym (in-order-entry a.order a.listed.now c.loop-k.k (pos 0) (omega arith)))))

pub returns : goal.returns
returns c =
    let a = c.args in
    placing-end c.loop-k.invariant (rw (in-order-length a.order a.listed.now) (omega arith))
