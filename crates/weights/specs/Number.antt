-- How many numbers have a property.
use Rattle.std.specs.Prelude.{T, Bool, ◌↔◌, ◌≡◌, ◌+◌, ◌<◌, suc, zero, ℕ}
use Rattle.words.specs.Choice.{count}

-- c of the numbers below m have the property P: a test that tells which have it passes c of them
pub record NumberOf (P : ℕ → Type 0) (m c : ℕ) : Type 0 where
  pub test : ℕ → Bool
  pub right : (x : ℕ) → x < m → T (test x) ↔ P x
  pub number : count m test ≡ c

-- F 0 and so on, m of them, added
abbrev pub total : ℕ → (ℕ → ℕ) → ℕ
total zero F = 0
total (suc m) F = F 0 + total m (λ w. F (suc w))
