-- `decoding::walk::read_off` meets its contract. The loop's invariant: the walk has come to depth t. The measure is what is left of n.
use lib.Bits.{bit_xor}
use lib.ListN.{take}
use mathlib.Core.Path.{◌≡◌, ap, subst, sym}
use native.Mathlib.Numerals.{add-one}
use native.Mathlib.Omega.{arith}
use Prim.Native.Nat.{ℕ}
use Rattle.decoding.specs.Sweeping.{Walked}
use Rattle.decoding.specs.Turning.{turned_by}
use Rattle.decoding.proofs.WalkEnds.{before-walk, walk_end, walk_start}
use Rattle.decoding.proofs.walk.read_off.Goals as goal

pub loop-t-init : goal.loop-t-init
loop-t-init c =
    (omega arith, walk_start c.args.rows.now c.args.sizes c.args.ends.now (turned_by c.args.sizes.rest c.args.samples.now) c.args.decisions.now c.requires)

pub walk_section-at-requires : goal.walk_section-at-requires
walk_section-at-requires c =
    let l = c.loop-t in
    before-walk c.args.rows.now c.args.sizes c.args.ends.now (turned_by c.args.sizes.rest c.args.samples.now) c.args.decisions.now c.requires l.t c.loop-t-test.true l.at l.invariant.1

pub loop-t-preserved : goal.loop-t-preserved
loop-t-preserved c =
    let l = c.loop-t in
    (omega (arith, c.loop-t-test.true), subst (λ (x : ℕ). Walked (take c.args.sizes.k c.args.rows.now) (turned_by c.args.sizes.rest c.args.samples.now) x c.walk_section-at.result) (sym (add-one l.t)) c.walk_section-at.ensures)

pub returns : goal.returns
returns c =
    let l = c.loop-t in
    let e : l.t ≡ c.args.sizes.n = omega (arith, c.loop-t-test.false, l.invariant.0) in
    ap (λ (x : ℕ). bit_xor x c.args.sizes.rest) (walk_end c.args.rows.now c.args.sizes c.args.ends.now (turned_by c.args.sizes.rest c.args.samples.now) c.args.decisions.now c.requires l.at (subst (λ (x : ℕ). Walked (take c.args.sizes.k c.args.rows.now) (turned_by c.args.sizes.rest c.args.samples.now) x l.at) e l.invariant.1))
