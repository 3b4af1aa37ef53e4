-- `pieces::put_line` meets its contract: the numbers from i on are still to be put.
use lib.ListN.{drop, get_or, length}
use mathlib.Core.Path.{◌≡◌}
use mathlib.Core.List.{◌++◌, [], ◌∷◌}
use Prim.Native.Nat.{◌+◌}
use Rattle.alists.specs.Text.{decimal, following}
use Rattle.alists.proofs.Putting.{empty-line, first-room, following-end, following-here, going_end, going_on, going-room, going_start, line-whole, rest-room}
use native.Mathlib.Omega.{arith}
use Rattle.alists.proofs.pieces.put_line.Goals as goal

pub put_byte-requires : goal.put_byte-requires
put_byte-requires c =
    let none : length c.args.numbers.now ≡ 0 = grind arith in
    let l = rw (empty-line c.args.numbers.now none) at c.requires.numbers_bound in
    omega (arith, l)

pub returns-then-is_empty : goal.returns-then-is_empty
returns-then-is_empty c =
    let none : length c.args.numbers.now ≡ 0 = grind arith in
    rw (empty-line c.args.numbers.now none) c.put_byte.ensures

pub put_number-next-requires : goal.put_number-next-requires
put_number-next-requires c =
    record {
      value_bound = c.requires.small.below 0;
      value_bound_2 = first-room c.args.at c.args.numbers.now 32768 (grind arith) c.requires.numbers_bound;
    }

pub loop-i-init : goal.loop-i-init
loop-i-init c = (omega arith, grind arith, going_start _ _ _)

pub put_byte-space-requires : goal.put_byte-space-requires
put_byte-space-requires c =
    let digits = decimal (get_or c.args.numbers.now c.loop-i.i 0) in
    let rest = following (drop (c.loop-i.i + 1) c.args.numbers.now) in
    let g = rw (following-here c.args.numbers.now c.loop-i.i (omega arith)) at c.loop-i.invariant.2 in
    let b = rest-room c.args.numbers.now 32768 (omega arith) c.requires.numbers_bound c.put_number-next.ensures in
    let r = going-room (32 ∷ []) (digits ++ rest) 32768 g b in
    omega (arith, r)

pub put_number-next-requires-in-loop-i : goal.put_number-next-requires-in-loop-i
put_number-next-requires-in-loop-i c =
    let digits = decimal (get_or c.args.numbers.now c.loop-i.i 0) in
    let rest = following (drop (c.loop-i.i + 1) c.args.numbers.now) in
    let g = rw (following-here c.args.numbers.now c.loop-i.i (omega arith)) at c.loop-i.invariant.2 in
    let b = rest-room c.args.numbers.now 32768 (omega arith) c.requires.numbers_bound c.put_number-next.ensures in
    let k = going_on (32 ∷ []) (digits ++ rest) g c.put_byte-space.ensures in
    record {
      value_bound = c.requires.small.below c.loop-i.i;
      value_bound_2 = going-room digits rest 32768 k b;
    }

pub loop-i-preserved : goal.loop-i-preserved
loop-i-preserved c =
    let digits = decimal (get_or c.args.numbers.now c.loop-i.i 0) in
    let rest = following (drop (c.loop-i.i + 1) c.args.numbers.now) in
    let g = rw (following-here c.args.numbers.now c.loop-i.i (omega arith)) at c.loop-i.invariant.2 in
    let k = going_on (32 ∷ []) (digits ++ rest) g c.put_byte-space.ensures in
    (omega arith, omega arith, going_on digits rest k c.put_number-next-in-loop-i.ensures)

pub put_byte-requires-2 : goal.put_byte-requires-2
put_byte-requires-2 c =
    let g = rw (following-end c.args.numbers.now c.loop-i.i (omega arith)) at c.loop-i.invariant.2 in
    let l = g.long in
    let b = rest-room c.args.numbers.now 32768 (omega arith) c.requires.numbers_bound c.put_number-next.ensures in
    omega (arith, l, b)

pub returns : goal.returns
returns c =
    let g = rw (following-end c.args.numbers.now c.loop-i.i (omega arith)) at c.loop-i.invariant.2 in
    line-whole c.args.numbers.now (omega arith) c.put_number-next.ensures (going_end (10 ∷ []) g c.put_byte-2.ensures)
