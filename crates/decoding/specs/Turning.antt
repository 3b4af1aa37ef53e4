-- Samples whose signs are turned: a word scores with them what the word with those positions turned scores with the samples.
use Rattle.std.specs.Prelude.{ℕ, ◌/◌, ◌%◌, ℤ, List, [], ◌∷◌}
use Rattle.decoding.specs.Taking.{signed}

-- the samples, each with its sign turned where m has a one
abbrev pub turned_by : ℕ → List ℤ → List ℤ
turned_by m [] = []
turned_by m (y ∷ ys) = signed (m % 2) y ∷ turned_by (m / 2) ys
