-- `refusing::make_refused` meets its contract.
use Rattle.programs.proofs.TextsSaid.{refused-made}
use Rattle.programs.proofs.refusing.make_refused.Goals as goal

pub returns : goal.returns
returns c = search refused-made
