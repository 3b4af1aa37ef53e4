-- `plates::reduce::part_rows` meets its contract: row after row.
use mathlib.Core.Logic.{inr}
use native.Mathlib.Omega.{arith}
use Rattle.plates.proofs.Gaining.{gained-end, gained-none, gained-on, gained-row, test-tells}
use Rattle.plates.proofs.reduce.part_rows.Goals as goal

pub loop-i-init : goal.loop-i-init
loop-i-init c = (omega arith, gained-none)

pub loop-i-preserved : goal.loop-i-preserved
loop-i-preserved c = (
  omega arith,
  gained-on (inr c.loop-i-test.true) (omega arith) c.loop-i.invariant.1
      (rw c.gain_row.ensures (gained-row _ _ _ _ (omega (arith, c.loop-i.invariant.1.size)) (λ e. omega arith) (test-tells _ c.ends_at-ends.ensures))),
)

pub returns : goal.returns
returns c = gained-end c.loop-i.invariant.0 c.loop-i-test.false c.loop-i.invariant.1
