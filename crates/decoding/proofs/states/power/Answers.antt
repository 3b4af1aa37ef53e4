-- `states::power` meets its contract.
use Rattle.decoding.proofs.Targets.{shifted_one}
use Rattle.decoding.proofs.states.power.Goals as goal

pub returns : goal.returns
returns c = shifted_one c.args.k c.requires
