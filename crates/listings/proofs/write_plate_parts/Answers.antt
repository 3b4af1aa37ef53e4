-- `listings::write_plate_parts` meets its contract.
use Rattle.listings.proofs.OfPlate.{count_fits, tested, tested-length, untested}
use Rattle.listings.proofs.write_plate_parts.Goals as goal

pub overflow_add-count : goal.overflow_add-count
overflow_add-count c = count_fits c.parts_prepared.ensures c.if-parts_prepared.true

pub slice_bounds-put_plate-end : goal.slice_bounds-put_plate-end
slice_bounds-put_plate-end c = tested-length c.parts_prepared.ensures c.if-parts_prepared.true

pub returns-then-parts_prepared : goal.returns-then-parts_prepared
returns-then-parts_prepared c = search tested

pub returns : goal.returns
returns c = search untested
