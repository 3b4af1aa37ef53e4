-- `comparing::comes_first` meets its contract.
use Rattle.outlines.proofs.Settling.{comes-first}
use Rattle.outlines.proofs.comparing.comes_first.Goals as goal

pub returns : goal.returns
returns c = search comes-first
