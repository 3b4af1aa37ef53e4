-- A strip: the old metrics of 32 branches side by side, gathered from where the branches lead.
use Rattle.std.specs.Prelude.{pos, ℤ, get_or, length, set, List, ◌≡◌, ◌%◌, ◌*◌, ◌+◌, ◌/◌, ◌<◌, ◌^◌, ℕ, ◌≤◌}
use Rattle.trellises.specs.Numbers.{without}

-- where branch x + i leads, from `from` on, with digit e taken out
abbrev pub landing : ℕ → ℕ → ℕ → ℕ → ℕ
landing from e x i = from + without e (x + i)

-- the same where digit 0 is taken out, and digit 1, and none of the lowest five: x leads to `at`
abbrev pub doubled : ℕ → ℕ → ℕ
doubled at i = at + i / 2

abbrev pub paired : ℕ → ℕ → ℕ
paired at i = at + (i / 4 * 2 + i % 2)

abbrev pub straight : ℕ → ℕ → ℕ
straight at i = at + i

-- what gathering from the places f asks: 32 metrics that are there and small, and room for them
pub record GatherFits (metrics : List ℤ) (f : ℕ → ℕ) (into : List ℤ) : Type 0 where
  pub size : length into ≡ 32
  pub there : (i : ℕ) → i < 32 → f i < length metrics

-- the first n are gathered
pub record Gathered (metrics : List ℤ) (f : ℕ → ℕ) (n : ℕ) (into : List ℤ) : Type 0 where
  pub size : length into ≡ 32
  pub here : (i : ℕ) → i < n → get_or into i (pos 0) ≡ get_or metrics (f i) (pos 0)

-- four metrics of places that are there, and room for them from i on
pub record FourFit (metrics : List ℤ) (p q r s : ℕ) (into : List ℤ) (i : ℕ) : Type 0 where
  pub first : p < length metrics
  pub second : q < length metrics
  pub third : r < length metrics
  pub fourth : s < length metrics
  pub size : length into ≡ 32
  pub room : i + 4 ≤ 32

-- they are stored there
abbrev pub four : List ℤ → ℕ → ℕ → ℕ → ℕ → List ℤ → ℕ → List ℤ
four metrics p q r s into i =
    set (set (set (set into i (get_or metrics p (pos 0))) (i + 1) (get_or metrics q (pos 0))) (i + 2) (get_or metrics r (pos 0))) (i + 3) (get_or metrics s (pos 0))

-- where runs of four branches lead to runs of four states
pub record RunsFit (from e x : ℕ) : Type 0 where
  pub least : 2 ≤ e
  pub most : e < 5
  pub number : x < 2 ^ 13
  pub aligned : x % 4 ≡ 0
  pub place : from < 2 ^ 62

-- what gathering the 32 branches from x on asks
pub record FetchFits (metrics : List ℤ) (from e x : ℕ) (into : List ℤ) : Type 0 where
  pub digit : e < 64
  pub number : x < 2 ^ 13
  pub strip : ℕ
  pub aligned : x ≡ strip * 32
  pub place : from < 2 ^ 62
  pub gather : GatherFits metrics (landing from e x) into
