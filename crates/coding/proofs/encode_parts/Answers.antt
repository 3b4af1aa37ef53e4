-- `coding::encode_parts` meets its contract: each refusal, and the word.
use Rattle.coding.proofs.CodingCalls.{encode-refused, encoded, over-refused, rows_few, rows_long}
use Rattle.coding.proofs.encode_parts.Goals as goal

pub returns-then-not-parts_prepared : goal.returns-then-not-parts_prepared
returns-then-not-parts_prepared c = search encode-refused

pub returns-then-reaches : goal.returns-then-reaches
returns-then-reaches c = search over-refused

pub sum_rows-requires : goal.sum_rows-requires
sum_rows-requires c =
    (rows_long c.parts_prepared.ensures c.if-not-parts_prepared.false, rows_few c.parts_prepared.ensures c.if-not-parts_prepared.false)

pub returns : goal.returns
returns c = search encoded
