-- `exports::weighing::width_of` meets its contract.
use Rattle.exports.proofs.WeightsCrossed.{profile-long, width-found, width-refused}
use Rattle.exports.proofs.weighing.width_of.Goals as goal

pub returns-then-not-parts_prepared : goal.returns-then-not-parts_prepared
returns-then-not-parts_prepared c = width-refused (c.parts_prepared.ensures.no_is c.if-not-parts_prepared.true)

pub widest_entry-requires : goal.widest_entry-requires
widest_entry-requires c = profile-long (c.parts_prepared.ensures.yes_is c.if-not-parts_prepared.false)

pub returns : goal.returns
returns c = width-found (c.parts_prepared.ensures.yes_is c.if-not-parts_prepared.false) c.widest_entry.ensures
