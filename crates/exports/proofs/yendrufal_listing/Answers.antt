-- `exports::yendrufal_listing` meets its promise.
use borrow.Author.Rules.{rules}
use native.Mathlib.Omega.{arith}
use Rattle.exports.proofs.CallsMade.{misshaped, wrote-listing}
use Rattle.exports.proofs.yendrufal_listing.Goals as goal

pub returns-then-written-lt1 : goal.returns-then-written-lt1
returns-then-written-lt1 c = misshaped (λ s. omega (arith, s))

pub returns : goal.returns
returns c =
    wrote-listing _ _ _ _ _ _ _ c.write_listing.result (search rules) c.write_listing.ensures c.written_length.ensures
