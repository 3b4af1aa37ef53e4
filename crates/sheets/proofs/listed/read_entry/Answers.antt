-- `listed::read_entry` meets its contract.
use native.Mathlib.Omega.{arith}
use Rattle.sheets.proofs.Entries.{ended-entry, past-entry, unended-entry}
use Rattle.sheets.proofs.listed.read_entry.Goals as goal

pub returns-then-text-at : goal.returns-then-text-at
returns-then-text-at c = past-entry _ c.args.text.now c.args.at c.if-text-at.true

pub returns-then-end-text : goal.returns-then-end-text
returns-then-end-text c =
    let a = c.args in
    let u = c.until-end in
    unended-entry a.n a.text.now a.at u.result (omega arith) u.ensures c.if-end-text.true

pub returns : goal.returns
returns c =
    let a = c.args in
    let u = c.until-end in
    ended-entry a.n a.text.now a.at u.result (omega arith) u.ensures c.if-end-text.false c.read_branch-line.result c.read_branch-line.ensures
