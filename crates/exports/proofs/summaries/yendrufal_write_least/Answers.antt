-- `exports::summaries::yendrufal_write_least` meets its promise.
use borrow.Author.Rules.{rules}
use native.Mathlib.Omega.{arith}
use Rattle.exports.proofs.CallsMade.{misshaped, wrote}
use Rattle.listings.specs.Writing.{WritesLeast}
use Rattle.exports.proofs.summaries.yendrufal_write_least.Goals as goal

pub returns-then-written-lt1 : goal.returns-then-written-lt1
returns-then-written-lt1 c = misshaped (λ s. omega (arith, s))

pub returns : goal.returns
returns c =
    wrote (WritesLeast c.args.weight) _ _ _ _ _ c.write_least.result (search rules) c.write_least.ensures
    c.written_length.ensures
