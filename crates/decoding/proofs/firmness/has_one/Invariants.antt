-- `decoding::firmness::has_one` meets its contract. The loop's invariant: the rows before j have 0 at the position.
use lib.ListN.{get_or}
use mathlib.Core.Path.{◌≡◌}
use Prim.Native.Nat.{ℕ, ◌<◌, ◌≤◌}
use Rattle.words.specs.Word.{bit}
use Rattle.decoding.proofs.firmness.has_one.Given as goal

abbrev pub invariant-loop-j : goal.invariant-loop-j
invariant-loop-j l = (l.j ≤ l.k) × ((i : ℕ) → i < l.j → bit (get_or l.rows i 0) l.position ≡ 0)
