-- `number::read_digits` meets its contract. The invariant: the digits from i on, after the value so far, are all of them.
use lib.ListN.{drop, length}
use mathlib.Core.Path.{◌≡◌}
use Prim.Native.Nat.{◌<◌, ◌^◌, ◌≤◌}
use Rattle.sheets.specs.Numbers.{digits_of}
use Rattle.sheets.proofs.number.read_digits.Given as goal

abbrev pub invariant-loop-x : goal.invariant-loop-x
invariant-loop-x l = (l.x-index ≤ length l.f) × (l.value < 10 ^ l.x-index) × (digits_of l.value (drop l.x-index l.f) ≡ digits_of 0 l.f)
