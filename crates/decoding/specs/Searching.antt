-- What the parts of a decode find: the first sample outside the limit, and the best word.
use Rattle.std.specs.Prelude.{ℕ, ◌+◌, ◌≤◌, ◌<◌, ℤ, pos, nat_abs, length, get_or, take, Bool, true, false, Option, None, Some, List, ◌≡◌}
use Rattle.std.specs.Int.Bits.{bit_xor}
use Rattle.trellises.specs.SectionOf.{section_of}
use Rattle.decoding.specs.declared.Answer.{Answer}
use Rattle.decoding.specs.declared.apart.Measure.{Measure}
use Rattle.decoding.specs.declared.sweep.Sizes.{Sizes}
use Rattle.decoding.specs.Backward.{best, counted, word_from}
use Rattle.decoding.specs.Metric.{limit}
use Rattle.decoding.specs.Sweeping.{Kept}
use Rattle.decoding.specs.Turning.{turned_by}

-- r says whether a sample is outside the limit
pub record IsOver (y : ℤ) (r : Bool) : Type 0 where
  pub yes_is : r ≡ true → limit < nat_abs y
  pub no_is : r ≡ false → nat_abs y ≤ limit

-- position i has the first sample that is outside the limit
pub record IsFirstOver (samples : List ℤ) (i : ℕ) : Type 0 where
  pub there : i < length samples
  pub before : (j : ℕ) → j < i → nat_abs (get_or samples j (pos 0)) ≤ limit
  pub here : limit < nat_abs (get_or samples i (pos 0))

-- r is the first position whose sample is outside the limit, where there is one
abbrev pub FirstOver : List ℤ → Option ℕ → Type 0
FirstOver samples None = (i : ℕ) → i < length samples → nat_abs (get_or samples i (pos 0)) ≤ limit
FirstOver samples (Some i) = IsFirstOver samples i

-- the codeword read off plus rest, the best metric and the counts, with the samples turned by the rest, and the rooms behind the needed
-- places kept
pub record Searched (table : List ℕ) (z : Sizes) (samples metrics : List ℤ) (decisions : List ℕ) (metrics' : List ℤ) (decisions' : List ℕ) (a : Answer) : Type 0 where
  pub word : a.word ≡ bit_xor (word_from (section_of (take z.k table)) (turned_by z.rest samples) 0 0) z.rest
  pub metric : a.metric ≡ best (section_of (take z.k table)) (turned_by z.rest samples) 0 0
  pub counts : a.counts ≡ counted (section_of (take z.k table)) (turned_by z.rest samples) 0
  pub kept : Kept z metrics decisions metrics' decisions'

-- the best metric and the counts without decisions, and the metric room behind the needed places kept
pub record MetricSearched (table : List ℕ) (z : Sizes) (samples metrics metrics' : List ℤ) (m : Measure) : Type 0 where
  pub metric : m.metric ≡ best (section_of (take z.k table)) (turned_by z.rest samples) 0 0
  pub counts : m.counts ≡ counted (section_of (take z.k table)) (turned_by z.rest samples) 0
  pub size : length metrics' ≡ length metrics
  pub rest : (i : ℕ) → z.half + z.half ≤ i → get_or metrics' i (pos 0) ≡ get_or metrics i (pos 0)
