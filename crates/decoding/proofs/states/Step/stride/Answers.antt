-- `states::Step::stride` meets its contract.
use native.Mathlib.Omega.{arith}
use Rattle.decoding.proofs.Targets.{place-lt, stride-is}
use Rattle.decoding.proofs.states.Step.stride.Goals as goal

pub target-requires : goal.target-requires
target-requires c = omega (arith, c.place.ensures, place-lt c.args.self.section c.requires)

pub returns : goal.returns
returns c = stride-is c.args.self.section c.requires _ _ _ c.place.ensures c.power.ensures c.target.ensures
