-- `exports::yendrufal_write_refused` meets its promise.
use borrow.Author.Rules.{rules}
use Rattle.exports.proofs.CallsMade.{misshaped, wrote}
use native.Mathlib.Omega.{arith}
use Rattle.listings.specs.Writing.{WritesRefused}
use Rattle.exports.proofs.yendrufal_write_refused.Goals as goal

pub returns-then-written-lt1 : goal.returns-then-written-lt1
returns-then-written-lt1 c = misshaped (λ s. omega (arith, s))

pub returns : goal.returns
returns c =
    wrote (WritesRefused c.args.number c.args.place c.args.field) _ _ _ _ _ c.write_refused.result (search rules) c.write_refused.ensures c.written_length.ensures
