-- `exports::verdicts::put_judgement` meets its contract.
use borrow.Author.Rules.{rules}
use lib.ListN.{set}
use mathlib.Core.Path.{ap₂}
use Prim.Native.Nat.{ℕ}
use Rattle.exports.proofs.CellsCopied.{laid-sized}
use Rattle.exports.proofs.verdicts.put_judgement.Goals as goal

pub returns : goal.returns
returns c =
    let a = c.args in
    record {
      verdict_is = ap₂ (λ (n w : ℕ). set (set a.verdict.now 0 n) 1 w) c.number_of.ensures c.word_of.ensures;
      states_are = laid-sized a.states.now a.judgement.states {size = 65} (search rules) c.put_table.ensures;
      branches_are = laid-sized a.branches.now a.judgement.branches {size = 64} (search rules) c.put_table-2.ensures;
    }
