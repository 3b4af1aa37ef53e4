-- `exports::summaries::yendrufal_write_tally` meets its promise.
use borrow.Author.Rules.{rules}
use native.Mathlib.Omega.{arith}
use Rattle.exports.proofs.CallsMade.{misshaped, wrote}
use Rattle.exports.specs.Summaries.{tally_of}
use Rattle.listings.specs.Writing.{WritesTally}
use Rattle.exports.proofs.summaries.yendrufal_write_tally.Goals as goal

pub returns-then-written-lt1 : goal.returns-then-written-lt1
returns-then-written-lt1 c = misshaped (λ s. omega (arith, s))

pub returns : goal.returns
returns c =
    wrote (WritesTally (tally_of c.args.decoded c.args.refused c.args.repeated c.args.late c.args.missing
    c.args.opposing c.args.zeros c.args.above c.args.below)) _ _ _ _ _ c.write_tally.result (search rules) c.write_tally.ensures
    c.written_length.ensures
