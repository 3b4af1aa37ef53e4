-- What demand 2 says of decoding.
use Rattle.std.specs.Prelude.{ℤ, ◌≤ℤ◌, List, ◌⊎◌, ◌≡◌, ℕ}
use Rattle.decoding.specs.Metric.{metric_of}
use Rattle.words.specs.Word.{Earlier}

-- Of the words C, the one of greatest correlation with the samples, of equals the one with 0 at the first difference, and its metric
pub record Greatest (C : ℕ → Type 0) (samples : List ℤ) (word : ℕ) (metric : ℤ) : Type 0 where
  pub codeword : C word
  pub own : metric ≡ metric_of samples word
  pub greatest : (w : ℕ) → C w → metric_of samples w ≤ℤ metric
  pub earliest : (w : ℕ) → C w → metric_of samples w ≡ metric → (word ≡ w) ⊎ Earlier word w
