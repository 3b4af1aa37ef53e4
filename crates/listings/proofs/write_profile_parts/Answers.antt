-- `listings::write_profile_parts` meets its contract.
use Rattle.listings.proofs.OfPlate.{count_fits, tested, tested-fit, tested-length, untested}
use Rattle.listings.proofs.write_profile_parts.Goals as goal

pub overflow_add-count : goal.overflow_add-count
overflow_add-count c = count_fits c.parts_prepared.ensures c.if-parts_prepared.true

pub slice_bounds-put_profile-end : goal.slice_bounds-put_profile-end
slice_bounds-put_profile-end c = tested-length c.parts_prepared.ensures c.if-parts_prepared.true

pub put_profile-requires : goal.put_profile-requires
put_profile-requires c = tested-fit c.parts_prepared.ensures c.if-parts_prepared.true

pub returns-then-parts_prepared : goal.returns-then-parts_prepared
returns-then-parts_prepared c = search tested

pub returns : goal.returns
returns c = search untested
