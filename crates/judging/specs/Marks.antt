-- Marks in the room: the lines whose states are reached from the start, and which of them are counted.
use Rattle.std.specs.Prelude.{eqb, ltb, get_or, length, Bool, cond, false, true, List, ◌≡◌, ◌%◌, ◌*◌, ◌+◌, ◌-◌, ◌/◌, ◌<◌, ℕ}
use Rattle.trellises.specs.Graph.{Graph}
use Rattle.words.specs.Choice.{count}
use Rattle.judging.specs.Room.{Holds, lead_at, start_at, theirs, told_at}
use Rattle.judging.specs.Ways.{Chain}

abbrev pub mark_at : List ℕ → ℕ → ℕ
mark_at room i = get_or room (4 * i + 3) 0

abbrev pub digit_of : Bool → ℕ
digit_of true = 1
digit_of false = 0

-- line k is of section s, is marked, and leads to state v
abbrev pub reach_test : List ℕ → ℕ → ℕ → ℕ → Bool
reach_test room s v k = cond (eqb (start_at room k / 2048) s) (cond (eqb (lead_at room k) v) (eqb (mark_at room k) 1) false) false

-- 1 where state v of depth t is reached: the start, or where a marked line leads
abbrev pub mark_for : List ℕ → ℕ → ℕ → ℕ → ℕ
mark_for room lines t v = cond (eqb t 0) (digit_of (eqb v 0)) (digit_of (ltb 0 (count lines (reach_test room (t - 1) v))))

-- all but the marks as it was
pub record SameTold (lines : ℕ) (room room' : List ℕ) : Type 0 where
  pub size : length room' ≡ length room
  pub start : (i : ℕ) → i < lines → start_at room' i ≡ start_at room i
  pub lead : (i : ℕ) → i < lines → lead_at room' i ≡ lead_at room i
  pub told : (i : ℕ) → i < lines → told_at room' i ≡ told_at room i

-- a line is marked exactly if its state is reached
pub record MarkRight (g : Graph) (room : List ℕ) (mark j : ℕ) : Type 0 where
  pub yes_is : mark ≡ 1 → Chain g (start_at room j / 2048) (start_at room j / 2 % 1024)
  pub no_is : Chain g (start_at room j / 2048) (start_at room j / 2 % 1024) → mark ≡ 1

-- so are the first i lines
pub record Marked (n lines : ℕ) (room room' : List ℕ) (i : ℕ) : Type 0 where
  pub same : SameTold lines room room'
  pub marks : (j : ℕ) → j < i → MarkRight (theirs n lines room) room (mark_at room' j) j

abbrev pub AllMarked : ℕ → List ℕ → List ℕ → ℕ → Type 0
AllMarked lines room room' i = (n : ℕ) → Holds n lines room → Marked n lines room room' i

-- ---- counted lines

-- c of m places pass, by each test that the answers R are those of
abbrev pub Passing : ℕ → (ℕ → Bool → Type 0) → ℕ → Type 0
Passing m R c = (P : ℕ → Bool) → ((j : ℕ) (b : Bool) → j < m → R j b → b ≡ P j) → c ≡ count m P

-- line i is of section t and on a full path
abbrev pub used_test : List ℕ → ℕ → ℕ → Bool
used_test room t i = cond (eqb (start_at room i / 2048) t) (cond (eqb (mark_at room i) 1) (ltb 0 (told_at room i)) false) false

-- so is line k, and leaves state s
abbrev pub same_test : List ℕ → ℕ → ℕ → ℕ → Bool
same_test room t s k = cond (used_test room t k) (eqb (start_at room k / 2 % 1024) s) false

-- so is line i, and no line before it that leaves its state
abbrev pub first_test : List ℕ → ℕ → ℕ → Bool
first_test room t i = cond (used_test room t i) (eqb (count i (same_test room t (start_at room i / 2 % 1024))) 0) false
