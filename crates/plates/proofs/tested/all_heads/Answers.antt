-- `plates::tested::all_heads` meets its contract. The loop's invariant: the word has the heads of the rows passed.
use native.Mathlib.Omega.{arith}
use Prim.Native.Nat.{◌<◌}
use Rattle.plates.proofs.HeadsClear.{heads-next, heads-none, heads-same}
use Rattle.plates.proofs.tested.all_heads.Goals as goal

pub loop-row-init : goal.loop-row-init
loop-row-init c = (omega arith, heads-none _ (λ j. j < 0) (λ j l q. omega arith))

pub loop-row-preserved : goal.loop-row-preserved
loop-row-preserved c =
    (omega arith, heads-next _ c.requires c.loop-row-test.true c.head_word-heads.ensures c.loop-row.invariant.1)

pub returns : goal.returns
returns c =
    heads-same (λ j. j < c.loop-row.row-index) _ c.loop-row.invariant.1 (λ j l q. l) (λ j l q. omega (arith, c.loop-row-test.false))
