-- `listings::pieces::prepend_entries` meets its contract: the entries from i on stand before the line feed.
use lib.Seq.{drop-length}
use mathlib.Core.Path.{◌≡◌}
use native.Mathlib.Omega.{arith}
use Rattle.listings.proofs.Backwards.{fields-on}
use Rattle.listings.proofs.pieces.prepend_entries.Goals as goal

pub loop-i-init : goal.loop-i-init
loop-i-init c = (omega arith, λ d end p. rw (drop-length c.args.entries.now) p)

pub bounds-entries-i : goal.bounds-entries-i
bounds-entries-i c = omega arith

pub loop-i-preserved : goal.loop-i-preserved
loop-i-preserved c =
    let l = c.loop-i in
    (omega arith, λ d end p. fields-on _ _ c.loop-i-test.true l.invariant.0 (l.invariant.1 d end p) c.prepend_field-at.ensures)

pub returns : goal.returns
returns c =
    let e : c.loop-i.i ≡ 0 = omega arith in
    rw e at (c.loop-i.invariant.1 _ _ c.line_feed-at.ensures)
