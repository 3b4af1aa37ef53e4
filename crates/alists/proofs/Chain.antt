-- The lines of a text judged one after the other: what each reply means.
use Rattle.alists.specs.Made.{matrix_of}
use borrow.Author.Tests.{eq-eqb, le-leb, lt-leb}
use lib.Dec.{eqb}
use lib.ListN.{drop, get_or, length, length-replicate, replicate}
use lib.Seq.{sets, sets-eq}
use mathlib.Core.Bool.{Bool, cond, false, true}
use mathlib.Core.List.{◌++◌, List, [], ◌∷◌}
use mathlib.Core.Path.{◌≡◌, ap, refl, sym, ◌∙◌}
use native.Mathlib.Omega.{arith}
use Prim.Native.Nat.{◌+◌, ◌-◌, ◌<◌, suc, ℕ, ◌≤◌}
use Rattle.alists.proofs.ListsPut.{drop-zeros}
use Rattle.alists.proofs.Places.{done, here}
use Rattle.alists.specs.Calls.{Answers}
use Rattle.alists.specs.Lines.{Line, faulty, line_of, reads}
use Rattle.alists.specs.Lists.{largest}
use Rattle.alists.specs.Reading.{Listed, Lists, Reading, fault_in, faulty_at, in_size, list_at, listed, listed_on, lists, lists_from, on_column_weights, on_columns, on_most, on_row_weights, on_rows, onto, reading, shows, unlisted}
use Rattle.std.proofs.Common.{Err, Ok}
use Rattle.alists.specs.Working.{laid_from, met}
use Rattle.plates.specs.declared.Refusal.TheVariants.{AlistFault}

-- ---- the lists that a table holds

-- words read, put at the start of a table of zeros
pub record WordsRead (l : Lists) (count : ℕ) (table' s : List ℕ) : Type 0 where
  pub words : List ℕ
  pub is : l ≡ lists words s
  pub stands : table' ≡ sets (replicate 64 0) 0 words
  pub long : length words ≡ count

-- there are as many words as weights
abbrev Long : ℕ → Lists → Type 0
Long n (lists ws s) = length ws ≡ n
Long n (faulty_at i) = Unit {0}

onto-long : (n w : ℕ) (l : Lists) → Long n l → Long (suc n) (onto w l)
onto-long n w (lists ws s) h = ap suc h
onto-long n w (faulty_at i) h = tt

shown-long : (n w i : ℕ) (l : Lists) (t : Bool) → Long n l → Long (suc n) (cond t (onto w l) (faulty_at i))
shown-long n w i l true h = onto-long n w l h
shown-long n w i l false h = tt

listed-long : (n : ℕ) (d : Listed) (seen : List ℕ) (i : ℕ) (on : List ℕ → Lists) → ((s : List ℕ) → Long n (on s)) → Long (suc n) (listed_on d seen i on)
listed-long n (listed w s) seen i on h = shown-long n w i (on s) (shows seen i w) (h s)
listed-long n unlisted seen i on h = tt

lists-long : (most size : ℕ) (seen : List ℕ) (i : ℕ) (ws s : List ℕ) → Long (length ws) (lists_from most size seen i ws s)
lists-long most size seen i [] s = refl
lists-long most size seen i (w ∷ ws) s =
    listed-long (length ws) (list_at most size w s) seen i (lists_from most size seen (suc i) ws) (λ t. lists-long most size seen (suc i) ws t)

words-in : (l : Lists) (n : ℕ) → Long n l → (table' s : List ℕ) → laid_from (replicate 64 0) 0 l ≡ Ok (table', s) → WordsRead l n table' s
words-in (lists ws t) n h table' s e =
    let p : ◌≡◌ {A = List ℕ × List ℕ} (sets (replicate 64 0) 0 ws, t) (table', s) = cc in
    let a : sets (replicate 64 0) 0 ws ≡ table' = ap (λ (q : List ℕ × List ℕ). q.0) p in
    let b : t ≡ s = ap (λ (q : List ℕ × List ℕ). q.1) p in
    record { words = ws; is = rw b; stands = sym a; long = h }
words-in (faulty_at i) n h table' s e = absurd (let z : ◌≡◌ {A = ℕ} 0 1 = cc in omega arith)

-- so are a text's lists, where reading them filled a table of zeros
pub words-read : (most size : ℕ) (seen ws text : List ℕ) {table' s : List ℕ}
    → laid_from (replicate 64 0) 0 (lists_from most size seen 0 ws text) ≡ Ok (table', s) → WordsRead (lists_from most size seen 0 ws text) (length ws) table' s
words-read most size seen ws text {table'} {s} e =
    words-in (lists_from most size seen 0 ws text) (length ws) (lists-long most size seen 0 ws text) table' s e

pub fault-read : (l : Lists) (table : List ℕ) (i : ℕ) → laid_from table 0 l ≡ Err i → l ≡ faulty_at i
fault-read (lists ws t) table i e = absurd (let z : ◌≡◌ {A = ℕ} 0 1 = cc in omega arith)
fault-read (faulty_at j) table i e = let a : j ≡ i = cc in rw a

-- ---- the replies

pub answer-fault : {r : Reading} (l : ℕ) (table : List ℕ) → r ≡ fault_in l → Answers r table (Err (AlistFault l)) table
answer-fault l table e = rw e (record { replies = refl; leaves = refl })

module _ (n : ℕ) {l : Lists} {count : ℕ} {table' : List ℕ} (text : List ℕ) (next : ℕ) (w : WordsRead l count table' (drop next text)) where
  -- something stands after the last line
  pub rows-extra : next < length text → on_rows n l ≡ fault_in (5 + n + count)
  rows-extra h = let g = w.long in rw (w.is, here text next h, g)

  -- nothing does
  pub rows-done : count ≤ 64 → length text ≤ next → (table : List ℕ) → Answers (on_rows n l) table (Ok (matrix_of n count)) table'
  rows-done f h table =
      let g = w.long in
      let d : sets (replicate 64 0) 0 w.words ≡ w.words ++ drop (0 + length w.words) (replicate 64 0) =
      sets-eq w.words (replicate 64 0) 0 (omega (arith, f, g, length-replicate {A = ℕ} 64 0)) in
      let z : 0 + length w.words ≡ length w.words = omega arith in
      let k : table' ≡ w.words ++ replicate (64 - length w.words) 0 = w.stands ∙ d ∙ rw (z, drop-zeros) in
      rw (w.is, done text next h) (record { replies = rw g; leaves = k })

-- ---- the lines before the lists

module _ (table text : List ℕ) where
  -- the first line is faulty
  pub sizes-faulty : line_of 2 text ≡ faulty → Answers (reading text) table (Err (AlistFault 1)) table
  unfolding reading
  sizes-faulty e = rw e (record { replies = refl; leaves = refl })

  -- sizes that are none, in the first or the second place
  pub size_none : (vs s : List ℕ) → line_of 2 text ≡ reads vs s → in_size (get_or vs 0 0) ≡ false → Answers (reading text) table (Err (AlistFault 1)) table
  unfolding reading
  size_none vs s e f = rw (e, f) (record { replies = refl; leaves = refl })

  pub size-none-second : (vs s : List ℕ) → line_of 2 text ≡ reads vs s → in_size (get_or vs 0 0) ≡ true → in_size (get_or vs 1 0) ≡ false
      → Answers (reading text) table (Err (AlistFault 1)) table
  unfolding reading
  size-none-second vs s e f g = rw (e, f, g) (record { replies = refl; leaves = refl })

module _ (table : List ℕ) where
  pub most-faulty : (n m : ℕ) {l : Line} → l ≡ faulty → Answers (on_most n m l) table (Err (AlistFault 2)) table
  most-faulty n m e = rw e (record { replies = refl; leaves = refl })

  -- largest weights that do not fit
  pub tall-over : (n m : ℕ) {l : Line} (vs s : List ℕ) → l ≡ reads vs s → m < get_or vs 0 0 → Answers (on_most n m l) table (Err (AlistFault 2)) table
  tall-over n m vs s e h = rw (e, lt-leb (get_or vs 0 0) m h) (record { replies = refl; leaves = refl })

  pub wide-over : (n m : ℕ) {l : Line} (vs s : List ℕ) → l ≡ reads vs s → get_or vs 0 0 ≤ m → n < get_or vs 1 0
      → Answers (on_most n m l) table (Err (AlistFault 2)) table
  wide-over n m vs s e h k = rw (e, le-leb (get_or vs 0 0) m h, lt-leb (get_or vs 1 0) n k) (record { replies = refl; leaves = refl })

-- lines that are good
pub sizes-good : (text vs s : List ℕ) → line_of 2 text ≡ reads vs s → in_size (get_or vs 0 0) ≡ true → in_size (get_or vs 1 0) ≡ true
    → reading text ≡ on_most (get_or vs 0 0) (get_or vs 1 0) (line_of 2 s)
unfolding reading
sizes-good text vs s e f g = rw (e, f, g)

pub most-good : (n m : ℕ) {l : Line} (vs s : List ℕ) → l ≡ reads vs s → get_or vs 0 0 ≤ m → get_or vs 1 0 ≤ n
    → on_most n m l ≡ on_column_weights n m (get_or vs 0 0) (get_or vs 1 0) (line_of n s)
most-good n m vs s e h k = rw (e, le-leb (get_or vs 0 0) m h, le-leb (get_or vs 1 0) n k)

-- weights whose largest is not met are as a faulty line
unmet : (b : Bool) (ws s : List ℕ) (x y : Reading) → cond b (reads ws s) faulty ≡ faulty → cond b x y ≡ y
unmet true ws s x y e = absurd (let z : ◌≡◌ {A = ℕ} 0 1 = cc in omega arith)
unmet false ws s x y e = refl

module _ (n m tall wide : ℕ) where
  pub heights-lost : (l : Line) → met tall l ≡ faulty → on_column_weights n m tall wide l ≡ fault_in 3
  heights-lost (reads ws s) e = unmet (eqb (largest ws) tall) ws s (on_row_weights n m tall wide ws (line_of m s)) (fault_in 3) e
  heights-lost faulty e = refl

  pub heights-met : {l : Line} (ws s : List ℕ) → l ≡ reads ws s → largest ws ≡ tall
      → on_column_weights n m tall wide l ≡ on_row_weights n m tall wide ws (line_of m s)
  heights-met ws s e h = rw (e, eq-eqb (largest ws) tall h)

  module _ (heights : List ℕ) where
    pub widths-lost : (l : Line) → met wide l ≡ faulty → on_row_weights n m tall wide heights l ≡ fault_in 4
    widths-lost (reads ws s) e =
        unmet (eqb (largest ws) wide) ws s (on_columns n wide ws (lists_from tall m [] 0 heights s)) (fault_in 4) e
    widths-lost faulty e = refl

    pub widths-met : {l : Line} (ws s : List ℕ) → l ≡ reads ws s → largest ws ≡ wide
        → on_row_weights n m tall wide heights l ≡ on_columns n wide ws (lists_from tall m [] 0 heights s)
    widths-met ws s e h = rw (e, eq-eqb (largest ws) wide h)

-- ---- the lists

pub rows-fault : (n : ℕ) (l : Lists) (i : ℕ) → l ≡ faulty_at i → on_rows n l ≡ fault_in (5 + n + i)
rows-fault n l i e = rw e

module _ (n wide : ℕ) (widths : List ℕ) (l : Lists) where
  pub columns-fault : (i : ℕ) → l ≡ faulty_at i → on_columns n wide widths l ≡ fault_in (5 + i)
  columns-fault i e = rw e

  pub columns-good : (cols s : List ℕ) → l ≡ lists cols s → on_columns n wide widths l ≡ on_rows n (lists_from wide n cols 0 widths s)
  columns-good cols s e = rw e
