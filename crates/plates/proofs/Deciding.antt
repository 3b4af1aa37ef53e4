-- Replies that say whether a fact holds.
use borrow.Author.Tests.{eqb-false, eqb-true, leb-false, leb-true}
use lib.Dec.{eqb, leb}
use mathlib.Core.Bool.{Bool, false, false≢true, true, true≢false}
use mathlib.Core.Path.{◌≡◌}
use native.Mathlib.Omega.{arith}
use Prim.Native.Nat.{ℕ, ◌≤◌}
use Rattle.plates.specs.Tested.{Decides}

pub holds : {P : Type 0} → P → Decides P true
holds p = record { yes_is = λ e. p; no_is = λ e. absurd (true≢false e) }

pub fails : {P : Type 0} → (P → ⊥) → Decides P false
fails n = record { yes_is = λ e. absurd (false≢true e); no_is = λ e. n }

-- a fact that holds where another does, and only there
pub alike : {P Q : Type 0} {r : Bool} → (P → Q) → (Q → P) → Decides P r → Decides Q r
alike f g d = record { yes_is = λ e. f (d.yes_is e); no_is = λ e q. d.no_is e (g q) }

-- two numbers compared
pub at-most : (a b : ℕ) → Decides (a ≤ b) (leb a b)
at-most a b = record { yes_is = leb-true a b; no_is = λ e h. omega (arith, leb-false a b e) }

pub equal : (a b : ℕ) → Decides (a ≡ b) (eqb a b)
equal a b = record { yes_is = eqb-true a b; no_is = eqb-false a b }
