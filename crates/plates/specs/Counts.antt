-- How many rows have begun, or ended, by a depth.
use Rattle.std.specs.Prelude.{ℕ, ltb, eqb}
use Rattle.words.specs.Choice.{count}

-- how many of f 0 to f (k - 1) are before t
abbrev pub before : ℕ → (ℕ → ℕ) → ℕ → ℕ
before k f t = count k (λ j. ltb (f j) t)

-- how many of them are at t
abbrev pub here : ℕ → (ℕ → ℕ) → ℕ → ℕ
here k f t = count k (λ j. eqb (f j) t)
