-- `coding::read_back_parts` meets its contract: each refusal, and the information.
use Rattle.coding.proofs.CodingCalls.{informed, no_word, read-back-refused, rows-headed}
use Rattle.coding.proofs.read_back_parts.Goals as goal

pub returns-then-not-parts_prepared : goal.returns-then-not-parts_prepared
returns-then-not-parts_prepared c = search read-back-refused

pub take_rows-reading-requires : goal.take_rows-reading-requires
take_rows-reading-requires c = rows-headed c.parts_prepared.ensures c.if-not-parts_prepared.false

pub returns-then-reading-ne0 : goal.returns-then-reading-ne0
returns-then-reading-ne0 c = search no_word

pub returns : goal.returns
returns c = search informed
