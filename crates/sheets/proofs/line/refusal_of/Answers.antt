-- `line::refusal_of` meets its contract: each fault by itself.
use Rattle.sheets.proofs.line.refusal_of.Goals as goal

pub returns-in-Count : goal.returns-in-Count
returns-in-Count c = rw c.in-Count.is

pub returns-in-Value : goal.returns-in-Value
returns-in-Value c = rw c.in-Value.is

pub returns-in-Row : goal.returns-in-Row
returns-in-Row c = rw c.in-Row.is

pub returns-in-Missing : goal.returns-in-Missing
returns-in-Missing c = rw c.in-Missing.is

pub returns-in-Turn : goal.returns-in-Turn
returns-in-Turn c = rw c.in-Turn.is
