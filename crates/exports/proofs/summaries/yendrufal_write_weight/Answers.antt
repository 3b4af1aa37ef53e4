-- `exports::summaries::yendrufal_write_weight` meets its promise.
use borrow.Author.Rules.{rules}
use native.Mathlib.Omega.{arith}
use Rattle.exports.proofs.CallsMade.{misshaped, wrote}
use Rattle.listings.specs.Writing.{WritesWeight}
use Rattle.exports.proofs.summaries.yendrufal_write_weight.Goals as goal

pub returns-then-written-lt1 : goal.returns-then-written-lt1
returns-then-written-lt1 c = misshaped (λ s. omega (arith, s))

pub returns : goal.returns
returns c =
    wrote (WritesWeight c.args.weight c.args.count) _ _ _ _ _ c.write_weight.result (search rules) c.write_weight.ensures
    c.written_length.ensures
