-- A block or heard line that was read, by its numbers.
use Rattle.std.specs.Prelude.{ℕ}
use Rattle.sheets.specs.declared.SampleLine.{SampleLine}

-- so many samples, and where the next line begins
abbrev pub sample_line_of : ℕ → ℕ → SampleLine
sample_line_of samples next = record { samples = samples; next = next }
