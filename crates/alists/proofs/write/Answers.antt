-- `write` meets its contract.
use Rattle.alists.proofs.Replies.{as_line, length_over, length-zero, none-beyond, put-fits, put-short, row-beyond, rows-over, without-rows}
use mathlib.Core.Logic.{⊎_elim}
use mathlib.Core.Path.{sym, ◌∙◌}
use native.Mathlib.Omega.{arith}
use Rattle.alists.proofs.write.Goals as goal

pub returns-then-n-eq0 : goal.returns-then-n-eq0
returns-then-n-eq0 c =
    ⊎_elim
    (λ z. length-zero c.args.n c.args.rows.now c.args.room.now z)
    (λ o. length_over c.args.n c.args.rows.now c.args.room.now o.1)
    c.then-n-eq0.either

pub returns-then-rows-gt64 : goal.returns-then-rows-gt64
returns-then-rows-gt64 c =
    rows-over c.args.n c.args.rows.now c.args.room.now c.if-n-eq0.false (omega arith) c.if-rows-gt64.true

pub returns-in-Some : goal.returns-in-Some
returns-in-Some c =
    row-beyond c.args.n c.args.rows.now c.args.room.now c.if-n-eq0.false (omega arith) (omega arith) (sym c.first_beyond.ensures ∙ c.in-Some.is)

pub returns-then-is_empty : goal.returns-then-is_empty
returns-then-is_empty c =
    without-rows c.args.n c.args.rows.now c.args.room.now c.if-n-eq0.false (omega arith) (omega arith)
    (none-beyond c.args.n c.args.rows.now (sym c.first_beyond.ensures ∙ c.in_default.is)) (grind arith)

pub returns-then-room-size : goal.returns-then-room-size
returns-then-room-size c =
    as_line c.args.n c.args.rows.now c.args.room.now c.if-n-eq0.false (omega arith) (omega arith)
    (none-beyond c.args.n c.args.rows.now (sym c.first_beyond.ensures ∙ c.in_default.is)) (grind arith) (put-short c.put_text-size.ensures c.if-room-size.true)

pub returns : goal.returns
returns c =
    as_line c.args.n c.args.rows.now c.args.room.now c.if-n-eq0.false (omega arith) (omega arith)
    (none-beyond c.args.n c.args.rows.now (sym c.first_beyond.ensures ∙ c.in_default.is)) (grind arith)
    (put-fits c.put_text-size.ensures c.if-room-size.false c.put_text.ensures)
