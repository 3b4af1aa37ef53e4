-- A word from the far end.
use Rattle.std.specs.Prelude.{ℕ, zero, suc, ◌*◌, ◌+◌}
use Rattle.words.specs.Word.{bit}

-- a word of n positions from the far end: its position i is the word's position n - 1 - i
abbrev pub reversed : ℕ → ℕ → ℕ
reversed zero w = 0
reversed (suc n) w = reversed n w * 2 + bit w n
