-- A text that reads as a matrix, taken apart: what each of its lines reads as.
use borrow.Author.Tests.{eqb-true}
use lib.Dec.{eqb}
use lib.ListN.{get_or}
use mathlib.Core.Bool.{Bool, ◌&&◌, cond, false, true}
use mathlib.Core.List.{List, [], ◌∷◌}
use mathlib.Core.Path.{◌≡◌, refl, sym}
use native.Mathlib.Omega.{arith}
use Prim.Native.Nat.{suc, ℕ, ◌≤◌}
use Rattle.alists.proofs.NumbersFound.{between, both}
use Rattle.alists.specs.Lines.{Line, faulty, line_of, reads}
use Rattle.alists.specs.Lists.{largest}
use Rattle.alists.specs.Reading.{Lists, Word, fault_in, faulty_at, in_size, judged, listed_as, listed_on, lists, lists_from, matrix, most_fit, on_column_weights, on_columns, on_most, on_row_weights, on_rows, on_sizes, onto, reading, shows, word, word_of, wrong}

-- ---- lists

-- the first of some lists, and the others
pub record FirstList (most size : ℕ) (seen : List ℕ) (i w : ℕ) (ws s words t : List ℕ) : Type 0 where
  pub numbers : List ℕ
  pub after : List ℕ
  pub first : ℕ
  pub others : List ℕ
  pub line : line_of most s ≡ reads numbers after
  pub is_word : word_of size w numbers ≡ word first
  pub shown : shows seen i first ≡ true
  pub words_are : words ≡ first ∷ others
  pub on : lists_from most size seen (suc i) ws after ≡ lists others t

module _ (most size : ℕ) (seen : List ℕ) (i w : ℕ) (ws s words t : List ℕ) where
  by-others : (xs u : List ℕ) (v : ℕ) → line_of most s ≡ reads xs u → word_of size w xs ≡ word v → shows seen i v ≡ true
      → (l : Lists) → lists_from most size seen (suc i) ws u ≡ l → onto v l ≡ lists words t → FirstList most size seen i w ws s words t
  by-others xs u v a b c (lists vs r) d e =
      let p : (v ∷ vs) ≡ words = cc in
      let q : r ≡ t = cc in
      record { numbers = xs; after = u; first = v; others = vs; line = a; is_word = b; shown = c; words_are = sym p; on = rw (← q) d }
  by-others xs u v a b c (faulty_at j) d e = absurd (let z : ◌≡◌ {A = ℕ} 0 1 = cc in omega arith)

  by-shows : (xs u : List ℕ) (v : ℕ) → line_of most s ≡ reads xs u → word_of size w xs ≡ word v
      → (b : Bool) → shows seen i v ≡ b → cond b (onto v (lists_from most size seen (suc i) ws u)) (faulty_at i) ≡ lists words t
      → FirstList most size seen i w ws s words t
  by-shows xs u v a b true c e = by-others xs u v a b c (lists_from most size seen (suc i) ws u) refl e
  by-shows xs u v a b false c e = absurd (let z : ◌≡◌ {A = ℕ} 0 1 = cc in omega arith)

  by_word : (xs u : List ℕ) → line_of most s ≡ reads xs u
      → (k : Word) → word_of size w xs ≡ k → listed_on (listed_as k u) seen i (lists_from most size seen (suc i) ws) ≡ lists words t
      → FirstList most size seen i w ws s words t
  by_word xs u a (word v) b e = by-shows xs u v a b (shows seen i v) refl e
  by_word xs u a wrong b e = absurd (let z : ◌≡◌ {A = ℕ} 0 1 = cc in omega arith)

  by-line : (l : Line) → line_of most s ≡ l → listed_on (judged size w l) seen i (lists_from most size seen (suc i) ws) ≡ lists words t
      → FirstList most size seen i w ws s words t
  by-line (reads xs u) a e = by_word xs u a (word_of size w xs) refl e
  by-line faulty a e = absurd (let z : ◌≡◌ {A = ℕ} 0 1 = cc in omega arith)

  pub first-list : lists_from most size seen i (w ∷ ws) s ≡ lists words t → FirstList most size seen i w ws s words t
  first-list e = by-line (line_of most s) refl e

-- ---- the lines, from the last to the first

-- the rows' lists end the text
rows_taken : (k n : ℕ) (l : Lists) (rows : List ℕ) → on_rows k l ≡ matrix n rows → (k ≡ n) × (l ≡ lists rows [])
rows_taken k n (lists ws []) rows e = let p : k ≡ n = cc in let q : ws ≡ rows = cc in (p, rw q)
rows_taken k n (lists ws (x ∷ s)) rows e = absurd (let z : ◌≡◌ {A = ℕ} 0 1 = cc in omega arith)
rows_taken k n (faulty_at i) rows e = absurd (let z : ◌≡◌ {A = ℕ} 0 1 = cc in omega arith)

-- the columns' lists
pub record ColumnsTaken (k wide : ℕ) (widths : List ℕ) (l : Lists) (n : ℕ) (rows : List ℕ) : Type 0 where
  pub cols : List ℕ
  pub after : List ℕ
  pub columns_are : l ≡ lists cols after
  pub same : k ≡ n
  pub rows_are : lists_from wide k cols 0 widths after ≡ lists rows []

columns_taken : (k wide : ℕ) (widths : List ℕ) (l : Lists) (n : ℕ) (rows : List ℕ) → on_columns k wide widths l ≡ matrix n rows
    → ColumnsTaken k wide widths l n rows
columns_taken k wide widths (lists ws s) n rows e =
    let p = rows_taken k n (lists_from wide k ws 0 widths s) rows e in
    record { cols = ws; after = s; columns_are = refl; same = p.0; rows_are = p.1 }
columns_taken k wide widths (faulty_at i) n rows e = absurd (let z : ◌≡◌ {A = ℕ} 0 1 = cc in omega arith)

-- the fourth line
pub record WidthsTaken (k m tall wide : ℕ) (heights : List ℕ) (l : Line) (n : ℕ) (rows : List ℕ) : Type 0 where
  pub widths : List ℕ
  pub after : List ℕ
  pub line : l ≡ reads widths after
  pub met : largest widths ≡ wide
  pub others : ColumnsTaken k wide widths (lists_from tall m [] 0 heights after) n rows

widths-taken : (k m tall wide : ℕ) (heights : List ℕ) (l : Line) (n : ℕ) (rows : List ℕ) → on_row_weights k m tall wide heights l ≡ matrix n rows
    → WidthsTaken k m tall wide heights l n rows
widths-taken k m tall wide heights (reads ws s) n rows e = go (eqb (largest ws) wide) refl e
  where
    go : (t : Bool) → eqb (largest ws) wide ≡ t → cond t (on_columns k wide ws (lists_from tall m [] 0 heights s)) (fault_in 4) ≡ matrix n rows
        → WidthsTaken k m tall wide heights (reads ws s) n rows
    go true p d =
        let o = columns_taken k wide ws (lists_from tall m [] 0 heights s) n rows d in
        record { widths = ws; after = s; line = refl; met = eqb-true (largest ws) wide p; others = o }
    go false p d = absurd (let z : ◌≡◌ {A = ℕ} 0 1 = cc in omega arith)
widths-taken k m tall wide heights faulty n rows e = absurd (let z : ◌≡◌ {A = ℕ} 0 1 = cc in omega arith)

-- the third line
pub record HeightsTaken (k m tall wide : ℕ) (l : Line) (n : ℕ) (rows : List ℕ) : Type 0 where
  pub heights : List ℕ
  pub after : List ℕ
  pub line : l ≡ reads heights after
  pub met : largest heights ≡ tall
  pub others : WidthsTaken k m tall wide heights (line_of m after) n rows

heights-taken : (k m tall wide : ℕ) (l : Line) (n : ℕ) (rows : List ℕ) → on_column_weights k m tall wide l ≡ matrix n rows
    → HeightsTaken k m tall wide l n rows
heights-taken k m tall wide (reads ws s) n rows e = go (eqb (largest ws) tall) refl e
  where
    go : (t : Bool) → eqb (largest ws) tall ≡ t → cond t (on_row_weights k m tall wide ws (line_of m s)) (fault_in 3) ≡ matrix n rows
        → HeightsTaken k m tall wide (reads ws s) n rows
    go true p d =
        record { heights = ws; after = s; line = refl; met = eqb-true (largest ws) tall p; others = widths-taken k m tall wide ws (line_of m s) n rows d }
    go false p d = absurd (let z : ◌≡◌ {A = ℕ} 0 1 = cc in omega arith)
heights-taken k m tall wide faulty n rows e = absurd (let z : ◌≡◌ {A = ℕ} 0 1 = cc in omega arith)

-- the second line
pub record MostTaken (k m : ℕ) (l : Line) (n : ℕ) (rows : List ℕ) : Type 0 where
  pub numbers : List ℕ
  pub after : List ℕ
  pub line : l ≡ reads numbers after
  pub others : HeightsTaken k m (get_or numbers 0 0) (get_or numbers 1 0) (line_of k after) n rows

most-taken : (k m : ℕ) (l : Line) (n : ℕ) (rows : List ℕ) → on_most k m l ≡ matrix n rows → MostTaken k m l n rows
most-taken k m (reads vs s) n rows e = go (most_fit k m vs) e
  where
    go : (t : Bool) → cond t (on_column_weights k m (get_or vs 0 0) (get_or vs 1 0) (line_of k s)) (fault_in 2) ≡ matrix n rows
        → MostTaken k m (reads vs s) n rows
    go true d =
        record { numbers = vs; after = s; line = refl; others = heights-taken k m (get_or vs 0 0) (get_or vs 1 0) (line_of k s) n rows d }
    go false d = absurd (let z : ◌≡◌ {A = ℕ} 0 1 = cc in omega arith)
most-taken k m faulty n rows e = absurd (let z : ◌≡◌ {A = ℕ} 0 1 = cc in omega arith)

-- the first line
pub record SizesTaken (l : Line) (n : ℕ) (rows : List ℕ) : Type 0 where
  pub numbers : List ℕ
  pub after : List ℕ
  pub line : l ≡ reads numbers after
  pub columns_size : (1 ≤ get_or numbers 0 0) × (get_or numbers 0 0 ≤ 64)
  pub rows_size : (1 ≤ get_or numbers 1 0) × (get_or numbers 1 0 ≤ 64)
  pub others : MostTaken (get_or numbers 0 0) (get_or numbers 1 0) (line_of 2 after) n rows

sizes-taken : (l : Line) (n : ℕ) (rows : List ℕ) → on_sizes l ≡ matrix n rows → SizesTaken l n rows
sizes-taken (reads vs s) n rows e = go (in_size (get_or vs 0 0) && in_size (get_or vs 1 0)) refl e
  where
    go : (t : Bool) → (in_size (get_or vs 0 0) && in_size (get_or vs 1 0)) ≡ t
        → cond t (on_most (get_or vs 0 0) (get_or vs 1 0) (line_of 2 s)) (fault_in 1) ≡ matrix n rows
        → SizesTaken (reads vs s) n rows
    go true p d =
        let q = both (in_size (get_or vs 0 0)) (in_size (get_or vs 1 0)) p in
        record {
          numbers = vs;
          after = s;
          line = refl;
          columns_size = between 1 64 (get_or vs 0 0) q.0;
          rows_size = between 1 64 (get_or vs 1 0) q.1;
          others = most-taken (get_or vs 0 0) (get_or vs 1 0) (line_of 2 s) n rows d;
        }
    go false p d = absurd (let z : ◌≡◌ {A = ℕ} 0 1 = cc in omega arith)
sizes-taken faulty n rows e = absurd (let z : ◌≡◌ {A = ℕ} 0 1 = cc in omega arith)

-- a text that reads as a matrix
pub reading-taken : (text : List ℕ) (n : ℕ) (rows : List ℕ) → reading text ≡ matrix n rows → SizesTaken (line_of 2 text) n rows
unfolding reading
reading-taken text n rows e = sizes-taken (line_of 2 text) n rows e
