-- `plates::rows::even_rows` meets its contract: row after row.
use mathlib.Core.Logic.{inl}
use native.Mathlib.Omega.{arith}
use Rattle.plates.proofs.Gaining.{gained-end, gained-none, gained-on, gained-row, odd-tells}
use Rattle.plates.proofs.rows.even_rows.Goals as goal

pub loop-i-init : goal.loop-i-init
loop-i-init c = (omega arith, omega arith, gained-none)

pub loop-i-preserved : goal.loop-i-preserved
loop-i-preserved c = (
  omega arith,
  omega arith,
  gained-on (inl (omega arith)) (omega arith) c.loop-i.invariant.2
      (rw c.gain_row.ensures (gained-row _ _ _ _ (omega (arith, c.loop-i.invariant.2.size)) (λ e. omega arith) (odd-tells c.parity_with-parity.ensures))),
)

pub returns : goal.returns
returns c = gained-end c.loop-i.invariant.1 c.loop-i-test.false c.loop-i.invariant.2
