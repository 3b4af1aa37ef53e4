-- `listings::pieces::largest_entry` meets its contract: the largest before an entry, and the largest from it on.
use Rattle.std.proofs.Common.{ap, arith, drop_of_length-le}
use Rattle.listings.specs.Lines.{largest}
use Rattle.listings.proofs.Backwards.{largest-on}
use Rattle.listings.proofs.pieces.largest_entry.Goals as goal

pub loop-entry-preserved : goal.loop-entry-preserved
loop-entry-preserved c =
    let l = c.loop-entry in
    omega (arith, l.invariant, c.max-most.ensures, largest-on c.args.entries.now l.entry-index c.loop-entry-test.true)

pub returns : goal.returns
returns c =
    let l = c.loop-entry in
    omega (arith, l.invariant, ap largest (drop_of_length-le c.args.entries.now {i = l.entry-index} c.loop-entry-test.false))
