-- `placing::place_listed` meets its contract.
use Rattle.sheets.specs.Turning.{in_order}
use Rattle.sheets.proofs.SamplePlaces.{Placing}
use Rattle.sheets.proofs.placing.place_listed.Given as goal

abbrev pub invariant-loop-k : goal.invariant-loop-k
invariant-loop-k l = Placing (in_order l.order l.listed) l.initial.room l.room l.k
