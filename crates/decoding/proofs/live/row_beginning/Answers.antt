-- `decoding::live::row_beginning` meets its contract.
use mathlib.Core.Path.{◌∙◌, sym}
use native.Mathlib.Omega.{arith}
use Prim.Native.Nat.{◌<◌}
use Rattle.decoding.proofs.PassedRows.{next_here, none_here, row_first}
use Rattle.decoding.proofs.live.row_beginning.Goals as goal

pub returns-then-k-next : goal.returns-then-k-next
returns-then-k-next c =
    none_here c.requires.plate_rows c.args.t c.requires.next_value (λ l e. omega (arith, c.if-k-next.true))

pub returns-then-first_one-t : goal.returns-then-first_one-t
returns-then-first_one-t c =
    none_here c.requires.plate_rows c.args.t c.requires.next_value
    (λ l e. c.if-first_one-t.true (row_first c.requires.plate_rows c.args.next l c.first_one.ensures ∙ e))

pub returns : goal.returns
returns c =
    let h : c.args.next < c.args.k = omega (arith, c.if-k-next.false) in
    next_here c.requires.plate_rows c.args.t c.requires.next_value h (sym (row_first c.requires.plate_rows c.args.next h c.first_one.ensures) ∙ c.if-first_one-t.false)
