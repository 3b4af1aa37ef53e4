-- `states::Step::source` meets its contract.
use native.Mathlib.Omega.{arith}
use Rattle.decoding.proofs.Targets.{place-lt, source_is}
use Rattle.decoding.proofs.states.Step.source.Goals as goal

pub target-requires : goal.target-requires
target-requires c = omega (arith, c.place.ensures, place-lt c.args.self.section c.requires.section)

pub overflow_add-result : goal.overflow_add-result
overflow_add-result c =
    omega (arith, source_is c.args.self.section c.requires.section c.args.x _ _ c.requires.branch c.place.ensures c.target.ensures, c.requires.place)

pub returns : goal.returns
returns c =
    omega (arith, source_is c.args.self.section c.requires.section c.args.x _ _ c.requires.branch c.place.ensures c.target.ensures)
