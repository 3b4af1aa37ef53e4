-- `scan::until` meets its contract. The invariant: from i on the first stop is where it is from `at` on.
use native.Mathlib.Omega.{arith}
use Rattle.sheets.proofs.Bytes.{till-done, till-next, till-stop}
use Rattle.sheets.proofs.scan.until.Goals as goal

pub returns-then-text-i : goal.returns-then-text-i
returns-then-text-i c = omega (arith, till-stop c.args.text.now c.loop-i.i c.args.stop (omega arith) c.if-text-i.true)

pub loop-i-preserved : goal.loop-i-preserved
loop-i-preserved c = omega (arith, till-next c.args.text.now c.loop-i.i c.args.stop (omega arith) c.if-text-i.false)

pub returns : goal.returns
returns c = omega (arith, till-done c.args.text.now c.loop-i.i c.args.stop (omega arith))
