-- `exports::verdicts::judge_shaped` meets its contract.
use borrow.Author.Rules.{rules}
use borrow.Author.Tests.{leb-false}
use mathlib.Core.Path.{◌≡◌}
use native.Mathlib.Omega.{arith}
use Prim.Native.Nat.{ℕ}
use Rattle.exports.proofs.verdicts.judge_shaped.Goals as goal

pub returns-then-plate-lt132 : goal.returns-then-plate-lt132
returns-then-plate-lt132 c =
    record { yes_is = λ e. let z : ◌≡◌ {A = ℕ} 0 1 = cc in absurd (omega arith); no_is = λ e s. omega (arith, s.0) }

pub returns-then-verdict-lt2 : goal.returns-then-verdict-lt2
returns-then-verdict-lt2 c =
    record { yes_is = λ e. let z : ◌≡◌ {A = ℕ} 0 1 = cc in absurd (omega arith); no_is = λ e s. omega (arith, s.1) }

pub returns-then-states-lt65 : goal.returns-then-states-lt65
returns-then-states-lt65 c =
    record { yes_is = λ e. let z : ◌≡◌ {A = ℕ} 0 1 = cc in absurd (omega arith); no_is = λ e s. omega (arith, s.2) }

pub returns-then-branches-lt64 : goal.returns-then-branches-lt64
returns-then-branches-lt64 c =
    record { yes_is = λ e. let z : ◌≡◌ {A = ℕ} 0 1 = cc in absurd (omega arith); no_is = λ e s. omega (arith, s.3) }

pub returns : goal.returns
returns c = record { yes_is = search rules; no_is = λ e s. omega (arith, leb-false 1 c.args.at e, s.4) }
