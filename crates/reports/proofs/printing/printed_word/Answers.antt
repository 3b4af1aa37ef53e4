-- `printing::printed_word` meets its contract.
use Rattle.std.proofs.Common.{arith, ap, min, ◌≡◌, ◌∙◌, ℕ}
use Rattle.words.specs.Reversed.{reversed}
use Rattle.reports.proofs.PrintedWords.{printed-last}
use Rattle.reports.proofs.printing.printed_word.Goals as goal

pub returns-in-First : goal.returns-in-First
returns-in-First c = rw c.in-First.is

pub returns-in-Last : goal.returns-in-Last
returns-in-Last c =
    let short : min c.args.n 64 ≡ c.args.n = omega (arith, c.requires) in
    rw c.in-Last.is (c.reversed.ensures ∙ ap (λ (k : ℕ). reversed k c.args.word) short ∙ printed-last c.args.n c.args.word)
