-- The metric of a word, and the samples that are permitted.
use Rattle.std.specs.Prelude.{ℕ, ◌/◌, ◌%◌, ℤ, pos, ◌+ℤ◌, List, [], ◌∷◌}
use Rattle.decoding.specs.Taking.{signed}

-- the samples permitted are from -2047 to 2047
abbrev pub limit : ℕ
limit = 2047

-- the sample added where the word's bit is 0 and subtracted where it is 1, over all positions
abbrev pub metric_of : List ℤ → ℕ → ℤ
metric_of [] w = pos 0
metric_of (y ∷ ys) w = signed (w % 2) y +ℤ metric_of ys (w / 2)
