-- `plates::tested::heads_clear` meets its contract. The loop's invariant: the rows that end before t are cleared, and the word has their heads.
use native.Mathlib.Omega.{arith}
use Rattle.plates.proofs.Deciding.{fails, holds}
use Rattle.plates.proofs.HeadsClear.{cleared-all, cleared_more, cleared-none, cleared-stop}
use Rattle.plates.proofs.tested.heads_clear.Goals as goal

pub loop-t-init : goal.loop-t-init
loop-t-init c = cleared-none _ c.requires.standing.spans

pub row_ending-row-requires : goal.row_ending-row-requires
row_ending-row-requires c =
    let p = c.requires in
    record {
      t_bound = omega (arith, p.n_bound);
      rows_len_bound = p.rows_len_bound;
      by_last = p.by_last;
    }

pub returns-then-row-heads-ne0 : goal.returns-then-row-heads-ne0
returns-then-row-heads-ne0 c =
    fails (cleared-stop _ c.requires.standing.spans _ _ c.loop-t.invariant c.row_ending-row.ensures c.if-row-heads-ne0.true)

pub loop-t-preserved : goal.loop-t-preserved
loop-t-preserved c =
    cleared_more _ c.requires.standing.spans _ _ c.loop-t.invariant c.row_ending-row.ensures c.if-row-heads-ne0.false c.head_word-heads.ensures

pub returns : goal.returns
returns c = holds (cleared-all _ _ c.requires.standing _ _ c.loop-t-test.false c.loop-t.invariant)
