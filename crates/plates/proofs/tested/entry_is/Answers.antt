-- `plates::tested::entry_is` meets its contract.
use borrow.Author.Tests.{lt-leb}
use native.Mathlib.Omega.{arith}
use Rattle.plates.proofs.Deciding.{alike, equal, fails}
use Rattle.plates.proofs.tested.entry_is.Goals as goal

pub returns-then-live-le12 : goal.returns-then-live-le12
returns-then-live-le12 c = alike (λ e. (e, c.if-live-le12.true)) (λ e. e.0) (equal c.args.entry c.args.live)

pub returns-else-live-le12 : goal.returns-else-live-le12
returns-else-live-le12 c = simp (lt-leb _ _ c.if-live-le12.false) (fails (λ e. omega (arith, e.1, c.if-live-le12.false)))
