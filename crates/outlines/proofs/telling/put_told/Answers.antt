-- `telling::put_told` meets its contract.
use Rattle.outlines.proofs.Comparisons.{first-put, lengths-put, mirrored-put, same-put, second-put}
use Rattle.outlines.proofs.telling.put_told.Goals as goal

pub returns-in-Same : goal.returns-in-Same
returns-in-Same c = search same-put

pub returns-in-Mirrored : goal.returns-in-Mirrored
returns-in-Mirrored c = search mirrored-put

pub returns-in-Lengths : goal.returns-in-Lengths
returns-in-Lengths c = search lengths-put

pub returns-in-First : goal.returns-in-First
returns-in-First c = search first-put

pub returns-in-Second : goal.returns-in-Second
returns-in-Second c = search second-put
