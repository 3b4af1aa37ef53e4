-- `exports::sampling::narrowed` meets its contract.
use mathlib.Core.Path.{refl}
use native.Mathlib.Omega.{arith}
use Rattle.exports.proofs.sampling.narrowed.Goals as goal

pub returns-then-top-gt127 : goal.returns-then-top-gt127
returns-then-top-gt127 c = record { within = λ l. absurd (omega (arith, c.if-top-gt127.true)); over = λ l. refl }

pub returns : goal.returns
returns c = record { within = λ l. refl; over = λ l. absurd (omega (arith, c.if-top-gt127.false)) }
