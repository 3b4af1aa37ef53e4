-- `line::line_by` meets its contract.
use Rattle.sheets.proofs.line.line_by.Goals as goal

pub returns-then-late_row : goal.returns-then-late_row
returns-then-late_row c = rw (c.in-Row.is, ← c.late_row.ensures, c.if-late_row.true)

pub returns-then-late_block : goal.returns-then-late_block
returns-then-late_block c = rw (c.in-Block.is, ← c.late_block.ensures, c.if-late_block.true)

pub returns-then-late_heard : goal.returns-then-late_heard
returns-then-late_heard c = rw (c.in-Heard.is, ← c.late_heard.ensures, c.if-late_heard.true)

pub returns-in-Cover : goal.returns-in-Cover
returns-in-Cover c = rw c.in-Cover.is

pub returns-in-Mask : goal.returns-in-Mask
returns-in-Mask c = rw c.in-Mask.is

pub returns-else-late_block : goal.returns-else-late_block
returns-else-late_block c = rw (c.in-Block.is, ← c.late_block.ensures, c.if-late_block.false) c.block_rest.ensures

pub returns-else-late_heard : goal.returns-else-late_heard
returns-else-late_heard c = rw (c.in-Heard.is, ← c.late_heard.ensures, c.if-late_heard.false) c.heard_rest.ensures

pub returns-in-End : goal.returns-in-End
returns-in-End c = rw c.in-End.is c.end_rest.ensures

pub returns-in-Other : goal.returns-in-Other
returns-in-Other c = rw c.in-Other.is
