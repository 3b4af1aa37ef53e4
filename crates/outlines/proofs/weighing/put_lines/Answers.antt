-- `weighing::put_lines` meets its contract.
use Rattle.outlines.proofs.WeightsPut.{text-whole}
use Rattle.outlines.proofs.weighing.put_lines.Goals as goal

pub returns : goal.returns
returns c = search text-whole
