-- `lists::ones_of` meets its contract. The invariant: the indices from the index on, after those used, are all of them.
use lib.ListN.{get_or}
use mathlib.Core.Path.{refl, sym, ◌∙◌}
use Prim.Native.Nat.{◌-◌}
use Rattle.alists.proofs.OnesRead.{index-fits, one_more, ones-end, ones-here, ones-other, shifted_one}
use native.Mathlib.Omega.{arith}
use Rattle.alists.proofs.lists.ones_of.Goals as goal

pub loop-x-init : goal.loop-x-init
loop-x-init c = (omega arith, omega arith, refl)

pub returns-then-not-fits_index : goal.returns-then-not-fits_index
returns-then-not-fits_index c =
    let unfit = sym c.fits_index.ensures ∙ c.if-not-fits_index.true in
    record { is = sym c.loop-x.invariant.2 ∙ ones-other c.args.size c.loop-x.used c.args.list.now c.loop-x.x-index (omega arith) unfit }

pub overflow_sub-used : goal.overflow_sub-used
overflow_sub-used c =
    let f = index-fits c.args.size c.loop-x.used (get_or c.args.list.now c.loop-x.x-index 0) (sym c.fits_index.ensures ∙ c.if-not-fits_index.false) in
    omega (arith, f.low)

pub overflow_shl-used : goal.overflow_shl-used
overflow_shl-used c =
    let f = index-fits c.args.size c.loop-x.used (get_or c.args.list.now c.loop-x.x-index 0) (sym c.fits_index.ensures ∙ c.if-not-fits_index.false) in
    omega (arith, f.low, f.high)

pub overflow_add-used : goal.overflow_add-used
overflow_add-used c =
    let x = get_or c.args.list.now c.loop-x.x-index 0 in
    let f = index-fits c.args.size c.loop-x.used x (sym c.fits_index.ensures ∙ c.if-not-fits_index.false) in
    let s = shifted_one (x - 1) (omega (arith, f.low, f.high)) in
    let o = one_more (x - 1) 64 c.loop-x.used (omega (arith, f.low, f.high)) c.loop-x.invariant.1 f.new in
    rw s (omega (arith, o))

pub loop-x-preserved : goal.loop-x-preserved
loop-x-preserved c =
    let x = get_or c.args.list.now c.loop-x.x-index 0 in
    let f = index-fits c.args.size c.loop-x.used x (sym c.fits_index.ensures ∙ c.if-not-fits_index.false) in
    let s = shifted_one (x - 1) (omega (arith, f.low, f.high)) in
    let o = one_more (x - 1) 64 c.loop-x.used (omega (arith, f.low, f.high)) c.loop-x.invariant.1 f.new in
    let e = ones-here c.args.size c.loop-x.used c.args.list.now c.loop-x.x-index (omega arith) (sym c.fits_index.ensures ∙ c.if-not-fits_index.false) in
    (omega arith, rw s o, rw s (sym e ∙ c.loop-x.invariant.2))

pub returns : goal.returns
returns c =
    record { is = sym c.loop-x.invariant.2 ∙ ones-end c.args.size c.loop-x.used c.args.list.now c.loop-x.x-index (omega arith) }
