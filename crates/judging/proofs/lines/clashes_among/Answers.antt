-- `lines::clashes_among` meets its contract. The loop's invariant: what is left of the search says what the whole says.
use mathlib.Core.Path.{ap, sym, ◌∙◌, ◌≡◌}
use native.Mathlib.Omega.{arith}
use Prim.Native.Nat.{◌-◌, suc}
use Rattle.judging.specs.Listing.{clash}
use Rattle.sheets.specs.declared.listed.Branch.{Branch}
use Rattle.judging.proofs.Reading.{clashing-found, clashing-none, clashing-on, clashing-start}
use Rattle.judging.proofs.lines.clashes_among.Goals as goal

pub loop-left-init : goal.loop-left-init
loop-left-init c = clashing-start _ _ _ _ c.requires

pub returns-then-clashing : goal.returns-then-clashing
returns-then-clashing c =
    let l = c.loop-left in
    let b = c.args.branch in
    clashing-found _ _ _ _ l.at l._left l.invariant c.loop-left-test.true c.read_entry-entry.result c.read_entry-entry.ensures (ap (λ (x : Branch). clash x b) (sym c.branch_in-other.ensures) ∙ sym c.clashing.ensures ∙ c.if-clashing.true)

pub loop-left-preserved : goal.loop-left-preserved
loop-left-preserved c =
    let l = c.loop-left in
    let b = c.args.branch in
    let e : l._left ≡ suc (l._left - 1) = omega (arith, c.loop-left-test.true) in
    clashing-on _ _ _ _ l.at l._left l.invariant c.loop-left-test.true c.read_entry-entry.result c.read_entry-entry.ensures (ap (λ (x : Branch). clash x b) (sym c.branch_in-other.ensures) ∙ sym c.clashing.ensures ∙ c.if-clashing.false) (l._left - 1) e

pub returns : goal.returns
returns c =
    let l = c.loop-left in
    clashing-none _ _ _ _ l.at l._left l.invariant (omega (arith, c.loop-left-test.false))
