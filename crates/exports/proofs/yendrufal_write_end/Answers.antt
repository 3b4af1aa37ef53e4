-- `exports::yendrufal_write_end` meets its promise.
use borrow.Author.Rules.{rules}
use Rattle.exports.proofs.CallsMade.{misshaped, wrote}
use native.Mathlib.Omega.{arith}
use Rattle.listings.specs.Writing.{WritesEnd}
use Rattle.exports.proofs.yendrufal_write_end.Goals as goal

pub returns-then-written-lt1 : goal.returns-then-written-lt1
returns-then-written-lt1 c = misshaped (λ s. omega (arith, s))

pub returns : goal.returns
returns c =
    wrote (WritesEnd c.args.count) _ _ _ _ _ c.write_end.result (search rules) c.write_end.ensures c.written_length.ensures
