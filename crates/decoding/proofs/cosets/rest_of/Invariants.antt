-- `decoding::cosets::rest_of` meets its contract. The loop's invariant: taking off the rows from the next on leaves the rest of the word. The measure is
-- what is left of the rows.
use lib.ListN.{drop, length}
use mathlib.Core.Path.{◌≡◌}
use Prim.Native.Nat.{◌≤◌}
use Rattle.decoding.specs.Cosets.{taken_off}
use Rattle.decoding.proofs.cosets.rest_of.Given as goal

abbrev pub invariant-loop-row : goal.invariant-loop-row
invariant-loop-row l = (l.row-index ≤ length l.rows) × (taken_off (drop l.row-index l.rows) l.rest ≡ taken_off l.rows l.word)
