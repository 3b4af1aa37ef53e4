-- `exports::cells::part_shaped` meets its contract.
use borrow.Author.Rules.{rules}
use borrow.Author.Tests.{leb-false}
use mathlib.Core.Path.{◌≡◌}
use native.Mathlib.Omega.{arith}
use Prim.Native.Nat.{ℕ}
use Rattle.exports.proofs.cells.part_shaped.Goals as goal

pub returns-then-plate-lt132 : goal.returns-then-plate-lt132
returns-then-plate-lt132 c =
    record { yes_is = λ e. let z : ◌≡◌ {A = ℕ} 0 1 = cc in absurd (omega arith); no_is = λ e s. omega (arith, s.0) }

pub returns-then-best-lt1 : goal.returns-then-best-lt1
returns-then-best-lt1 c =
    record { yes_is = λ e. let z : ◌≡◌ {A = ℕ} 0 1 = cc in absurd (omega arith); no_is = λ e s. omega (arith, s.1) }

pub returns-then-counts-lt2 : goal.returns-then-counts-lt2
returns-then-counts-lt2 c =
    record { yes_is = λ e. let z : ◌≡◌ {A = ℕ} 0 1 = cc in absurd (omega arith); no_is = λ e s. omega (arith, s.2) }

pub returns : goal.returns
returns c = record { yes_is = search rules; no_is = λ e s. omega (arith, leb-false 1 c.args.at e, s.3) }
