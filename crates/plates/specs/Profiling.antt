-- What the pass over the depths goes by, and what it leaves.
use Rattle.std.specs.Prelude.{eqb, get_or, length, List, ◌≡◌, ◌+◌, ◌-◌, ◌<◌, suc, zero, ℕ, ◌≤◌}
use Rattle.words.specs.Choice.{count}
use Rattle.words.specs.Word.{bit}

-- the word m has a one at each of the positions f 0 to f (k - 1)
pub record Marks (f : ℕ → ℕ) (k m : ℕ) : Type 0 where
  pub at : (p : ℕ) → bit m p ≡ count k (λ j. eqb (f j) p)

-- the number of live rows at depth t, counted from the marks: one more after each position where a row begins, one less where one ends
unfoldable pub runs : ℕ → ℕ → ℕ → ℕ
runs heads ends zero = 0
runs heads ends (suc t) = runs heads ends t + bit heads t - bit ends t

-- up to depth n no more rows end than have begun, and there are at most 64
pub record Balanced (heads ends n : ℕ) : Type 0 where
  pub short : n ≤ 64
  pub enough : (t : ℕ) → t < n → bit ends t ≤ runs heads ends t + bit heads t
  pub few : (t : ℕ) → t ≤ n → runs heads ends t ≤ 64

-- p holds that number for each depth up to n, and zero in the other places
pub record Tallied (heads ends n : ℕ) (p : List ℕ) : Type 0 where
  pub entries : length p ≡ 65
  pub here : (t : ℕ) → t ≤ n → get_or p t 0 ≡ runs heads ends t
  pub unused : (t : ℕ) → n < t → get_or p t 0 ≡ 0
