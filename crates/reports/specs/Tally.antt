-- The tally of a shift: each heard line by its counter, its samples and what decoding replies, and the numbers that they add to.
use Rattle.plates.specs.declared.Refusal.{Refusal}
use Rattle.std.specs.Prelude.{Option, Some, None, ℕ, ◌+◌, ◌-◌, ◌%◌, ◌^◌, Bool, true, false, cond, List, [], ◌∷◌, ℤ, pos, ◌+ℤ◌, ◌==◌, int_lt, nat_lt, unsigned_abs, Result, Ok, Err}
use Rattle.words.specs.Word.{bit}
use Rattle.decoding.specs.declared.Answer.{Answer}
use Rattle.listings.specs.declared.Tally.{Tally}
use Rattle.reports.specs.declared.tally.Standing.{Standing}
use Rattle.reports.specs.declared.tally.Standing.TheVariants as S

-- a heard line: its counter, its samples in order of position, and what decoding replies
pub record Heard : Type 0 where
  pub counter : ℕ
  pub samples : List ℤ
  pub reply : Result Answer Refusal

-- ---- where a line stands by its counter

-- the difference of counters modulo 65536, this one's less the reference
abbrev pub advance : ℕ → ℕ → ℕ
advance counter reference = (counter + (65536 - reference)) % 65536

-- 0 is a repeat; over 32767 is out of turn; any other leaves the advance minus one missing
abbrev pub standing_by : ℕ → Standing
standing_by step = cond (step == 0) S.Repeat (cond (nat_lt 32767 step) S.OutOfTurn (S.Onward (step - 1)))

-- a line that is not refused, by the reference before it: the first sets it
abbrev pub standing : Option ℕ → ℕ → Standing
standing None counter = S.First
standing (Some reference) counter = standing_by (advance counter reference)

-- the reference after a line that is not refused
abbrev pub reference_by : Standing → ℕ → Option ℕ → Option ℕ
reference_by S.First counter reference = Some counter
reference_by S.Repeat counter reference = reference
reference_by S.OutOfTurn counter reference = reference
reference_by (S.Onward missing) counter reference = Some counter

-- after each line: a refused one leaves it
abbrev pub reference_of : Option ℕ → ℕ → Result Answer Refusal → Option ℕ
reference_of reference counter (Err q) = reference
reference_of reference counter (Ok a) = reference_by (standing reference counter) counter reference

-- ---- what a line adds

-- the answer opposes a sample: bit 0 and below 0, or bit 1 and above 0
abbrev pub opposes : ℤ → ℕ → Bool
opposes sample b = cond (b == 0) (int_lt sample (pos 0)) (int_lt (pos 0) sample)

-- at how many positions, from one on
abbrev pub opposing : ℕ → ℕ → List ℤ → ℕ
opposing word position [] = 0
opposing word position (sample ∷ samples) = cond (opposes sample (bit word position)) 1 0 + opposing word (position + 1) samples

-- a sample that favours neither bit: not below 0 and not above it
abbrev pub is_zero : ℤ → Bool
is_zero sample = cond (int_lt sample (pos 0)) false (cond (int_lt (pos 0) sample) false true)

-- how many these are
abbrev pub zeros : List ℤ → ℕ
zeros [] = 0
zeros (sample ∷ samples) = cond (is_zero sample) 1 0 + zeros samples

-- a metric above 0, and one below 0, by its size: their sums' difference is the sum of metrics
abbrev pub gained : ℤ → ℕ
gained metric = cond (int_lt metric (pos 0)) 0 (unsigned_abs metric)

abbrev pub lost : ℤ → ℕ
lost metric = cond (int_lt metric (pos 0)) (unsigned_abs metric) 0

-- nothing yet
abbrev pub no_tally : Tally
no_tally = record { decoded = 0; refused = 0; repeated = 0; late = 0; missing = 0; opposing = 0; zeros = 0; above = 0; below = 0 }

-- a decoded line
abbrev pub decoded_share : ℕ → ℕ → List ℤ → Answer → Tally
decoded_share late missing samples a = record {
  decoded = 1;
  refused = 0;
  repeated = 0;
  late = late;
  missing = missing;
  opposing = opposing a.word 0 samples;
  zeros = zeros samples;
  above = gained a.metric;
  below = lost a.metric;
}

-- a refused line counts as refused only
abbrev pub refused_share : Tally
refused_share = record { decoded = 0; refused = 1; repeated = 0; late = 0; missing = 0; opposing = 0; zeros = 0; above = 0; below = 0 }

-- a repeat is neither decoded nor summed
abbrev pub repeated_share : Tally
repeated_share = record { decoded = 0; refused = 0; repeated = 1; late = 0; missing = 0; opposing = 0; zeros = 0; above = 0; below = 0 }

-- a line that is not refused: out of turn it adds nothing to missing
abbrev pub found_share : Standing → List ℤ → Answer → Tally
found_share S.First samples a = decoded_share 0 0 samples a
found_share S.Repeat samples a = repeated_share
found_share S.OutOfTurn samples a = decoded_share 1 0 samples a
found_share (S.Onward missing) samples a = decoded_share 0 missing samples a

-- each line, by the reference before it
abbrev pub share : Option ℕ → ℕ → List ℤ → Result Answer Refusal → Tally
share reference counter samples (Err q) = refused_share
share reference counter samples (Ok a) = found_share (standing reference counter) samples a

-- ---- the tally

-- number by number
abbrev pub plus : Tally → Tally → Tally
plus s t = record {
  decoded = s.decoded + t.decoded;
  refused = s.refused + t.refused;
  repeated = s.repeated + t.repeated;
  late = s.late + t.late;
  missing = s.missing + t.missing;
  opposing = s.opposing + t.opposing;
  zeros = s.zeros + t.zeros;
  above = s.above + t.above;
  below = s.below + t.below;
}

-- what some lines add to, by the reference before the first
abbrev pub tally_from : Option ℕ → List Heard → Tally
tally_from reference [] = no_tally
tally_from reference (h ∷ hs) =
    plus (share reference h.counter h.samples h.reply) (tally_from (reference_of reference h.counter h.reply) hs)

-- the tally of a sheet's heard lines
abbrev pub tally_of : List Heard → Tally
tally_of hs = tally_from None hs

-- the metric of a line, where it is decoded and no repeat
abbrev pub metric_by : Standing → ℤ → ℤ
metric_by S.First metric = metric
metric_by S.Repeat metric = pos 0
metric_by S.OutOfTurn metric = metric
metric_by (S.Onward missing) metric = metric

abbrev pub metric_share : Option ℕ → ℕ → Result Answer Refusal → ℤ
metric_share reference counter (Err q) = pos 0
metric_share reference counter (Ok a) = metric_by (standing reference counter) a.metric

-- the sum of metrics of some lines, by the reference before the first
abbrev pub metrics_from : Option ℕ → List Heard → ℤ
metrics_from reference [] = pos 0
metrics_from reference (h ∷ hs) =
    metric_share reference h.counter h.reply +ℤ metrics_from (reference_of reference h.counter h.reply) hs

-- heard lines of these counters, samples and replies
abbrev pub heards_of : List ℕ → List (List ℤ) → List (Result Answer Refusal) → List Heard
heards_of (counter ∷ counters) (samples ∷ blocks) (reply ∷ replies) = record { counter = counter; samples = samples; reply = reply } ∷ heards_of counters blocks replies
heards_of [] blocks replies = []
heards_of (counter ∷ counters) [] replies = []
heards_of (counter ∷ counters) (samples ∷ blocks) [] = []

-- ---- as it is kept from line to line

-- in 64 bits, which no sheet goes beyond
abbrev pub raised : ℕ → ℕ → ℕ
raised count by = (count + by) % 2 ^ 64

abbrev pub raised_by : Tally → Tally → Tally
raised_by s t = record {
  decoded = raised s.decoded t.decoded;
  refused = raised s.refused t.refused;
  repeated = raised s.repeated t.repeated;
  late = raised s.late t.late;
  missing = raised s.missing t.missing;
  opposing = raised s.opposing t.opposing;
  zeros = raised s.zeros t.zeros;
  above = raised s.above t.above;
  below = raised s.below t.below;
}

-- a repeat prints no line
abbrev pub is_repeat : Standing → Bool
is_repeat S.First = false
is_repeat S.Repeat = true
is_repeat S.OutOfTurn = false
is_repeat (S.Onward missing) = false
