-- `plates::tested::profile_is` meets its contract. The loop's invariant: the entries before t are the rows' own, and `live` rows are live at t.
use Rattle.plates.proofs.ProfileTested.{ProfiledTo}
use Rattle.plates.proofs.tested.profile_is.Given as goal

abbrev pub invariant-loop-t : goal.invariant-loop-t
invariant-loop-t l = ProfiledTo l.n l.rows l.profile l.t l.live
