-- `plates::rows::first_odd` meets its contract: a search.
use mathlib.Core.Path.{sym, ◌∙◌}
use native.Mathlib.Omega.{arith}
use Rattle.plates.proofs.Searching.{search-found, search-on, search-over, search-start}
use Rattle.plates.proofs.rows.first_odd.Goals as goal

pub loop-i-init : goal.loop-i-init
loop-i-init c = search-start c.requires.from_le_to

pub returns-then-parity_with-eq1 : goal.returns-then-parity_with-eq1
returns-then-parity_with-eq1 c =
    search-found c.loop-i.invariant c.loop-i-test.true (record { odd = sym c.parity_with.ensures ∙ c.if-parity_with-eq1.true })

pub loop-i-preserved : goal.loop-i-preserved
loop-i-preserved c =
    search-on c.loop-i.invariant (omega arith) (λ e. c.if-parity_with-eq1.false (c.parity_with.ensures ∙ e.odd))

pub returns : goal.returns
returns c = search-over c.loop-i.invariant c.loop-i-test.false
