-- A text that is that of a matrix but for several spaces and the order of indices reads as the matrix; a written text reads back as the same matrix.
use borrow.Author.Tests.{eq-eqb, le-leb}
use lib.Dec.{eqb}
use lib.ListN.{get_or, length}
use mathlib.Core.Bool.{Bool, cond, false, true}
use mathlib.Core.List.{◌++◌, List, [], append-nil, map, ◌∷◌}
use mathlib.Core.Path.{◌≡◌, ap, refl, sym, ◌∙◌}
use native.Mathlib.Omega.{arith}
use Prim.Native.Nat.{◌+◌, ◌<◌, ◌^◌, suc, zero, ℕ, ◌≤◌}
use Rattle.alists.proofs.Bounds.{columns-length, length-weights}
use Rattle.alists.proofs.Filling.{column-small}
use Rattle.alists.proofs.Judging.{shows-known}
use Rattle.alists.proofs.ListsPut.{largest-few, pair_small, weights-small}
use Rattle.alists.proofs.NumbersFound.{both}
use Rattle.alists.proofs.OnesBack.{largest-most, weight-most}
use Rattle.alists.proofs.OrderBack.{list_back}
use Rattle.alists.proofs.SpacedOnce.{short-small}
use Rattle.alists.proofs.SpacedRead.{line-back}
use Rattle.alists.proofs.Transposed.{column-at, column-of-columns}
use Rattle.alists.proofs.WrittenForm.{written-accepted}
use Rattle.alists.specs.Accepted.{Accepted, Sized, lines_ordered, ordered, spaced_from, spaced_once}
use Rattle.alists.specs.Lines.{line_of, reads}
use Rattle.alists.specs.Lists.{column, columns, largest, list_of, weight}
use Rattle.alists.specs.OwnForm.{each, short}
use Rattle.alists.specs.Reading.{in_size, lists, lists_from, matrix, on_column_weights, on_columns, on_most, on_row_weights, reading, shows}
use Rattle.alists.specs.Text.{alist_text, line, lines_of, lists_of, text_of, weights}

-- ---- lists

-- a word whose list fits and is shown
pub record Fine (most size : ℕ) (seen : List ℕ) (i w : ℕ) : Type 0 where
  pub below : w < 2 ^ size
  pub light : weight w ≤ most
  pub shown : shows seen i w ≡ true

-- lists read, and the lines that are left
record ListsBack (most size : ℕ) (seen : List ℕ) (i : ℕ) (ws s : List ℕ) (rest : List (List ℕ)) : Type 0 where
  pub after : List ℕ
  pub left : List (List ℕ)
  pub is : lists_from most size seen i (weights ws) s ≡ lists ws after
  pub numbers : each short left ≡ true
  pub bytes : spaced_once after ≡ text_of left
  pub order : map ordered left ≡ rest

module _ (most size : ℕ) (few : size ≤ 64) (seen : List ℕ) (rest : List (List ℕ)) where
  -- one list before others
  list-before : (i w : ℕ) (ws s l : List ℕ) (ls : List (List ℕ)) → each short (l ∷ ls) ≡ true → ordered l ≡ list_of most w
      → spaced_once s ≡ line l ++ text_of ls
      → Fine most size seen i w → ((t : List ℕ) → spaced_once t ≡ text_of ls → ListsBack most size seen (suc i) ws t rest)
      → ListsBack most size seen i (w ∷ ws) s rest
  list-before i w ws s l ls h o b g on =
      let p = list_back size most l w few g.below g.light o in
      let k = line-back l s (text_of ls) (short-small l (both (short l) (each short ls) h).0) b in
      let r = on k.after k.rest in
      let d : line_of most s ≡ reads l k.after = ap (λ (c : ℕ). line_of c s) (sym p.0) ∙ k.is in
      record { after = r.after; left = r.left; is = rw (d, p.1, g.shown, r.is); numbers = r.numbers; bytes = r.bytes; order = r.order }

  lists_back : (i : ℕ) (ws s : List ℕ) (ls : List (List ℕ)) → each short ls ≡ true → map ordered ls ≡ map (list_of most) ws ++ rest
      → spaced_once s ≡ text_of ls
      → ((j : ℕ) → j < length ws → Fine most size seen (i + j) (get_or ws j 0)) → ListsBack most size seen i ws s rest
  lists_back i [] s ls h o b f = record { after = s; left = ls; is = refl; numbers = h; bytes = b; order = o }
  lists_back i (w ∷ ws) s [] h o b f = absurd (let z : ◌≡◌ {A = ℕ} 0 1 = cc in omega arith)
  lists_back i (w ∷ ws) s (l ∷ ls) h o b f =
      let z : i + 0 ≡ i = omega arith in
      let p : ordered l ≡ list_of most w = cc in
      let q : map ordered ls ≡ map (list_of most) ws ++ rest = cc in
      list-before i w ws s l ls h p b (rw z at (f 0 (omega arith)))
      (λ t e. lists_back (suc i) ws t ls (both (short l) (each short ls) h).1 q e (λ j k. step j (f (suc j) (omega (arith, k)))))
    where
      step : (j : ℕ) → Fine most size seen (i + suc j) (get_or ws j 0) → Fine most size seen (suc i + j) (get_or ws j 0)
      step j k = let e : i + suc j ≡ suc i + j = omega arith in rw e at k

-- no weight is over the largest
light : (ws : List ℕ) (j : ℕ) → j < length ws → weight (get_or ws j 0) ≤ largest (weights ws)
light [] j h = absurd (omega arith)
light (w ∷ ws) zero h = omega arith
light (w ∷ ws) (suc j) h = let l = light ws j (omega arith) in omega (arith, l)

-- ---- the sizes

module _ (n : ℕ) (rows : List ℕ) (sized : Sized n rows) where
  long : length (columns n rows) ≡ n
  long = columns-length rows 0 n

  columns-fine : (j : ℕ) → j < length (columns n rows) → Fine (largest (weights (columns n rows))) (length rows) [] (0 + j) (get_or (columns n rows) j 0)
  columns-fine j h =
      let l = long in
      let e = column-at rows 0 n j (omega (arith, l, h)) in
      record { below = rw e (column-small rows (0 + j)); light = light (columns n rows) j h; shown = refl }

  rows-fine : (j : ℕ) → j < length rows → Fine (largest (weights rows)) n (columns n rows) (0 + j) (get_or rows j 0)
  rows-fine j h =
      let l = long in
      let g = sized.least in
      let z : 0 + j ≡ j = omega arith in
      let c = column-of-columns n rows j (sized.below j h) in
      record {
        below = sized.below j h;
        light = light rows j h;
        shown = rw z (shows-known (columns n rows) j (get_or rows j 0) (omega (arith, l, g)) ∙ eq-eqb (get_or rows j 0) (column (columns n rows) j) (sym c));
      }

  size_in : (k : ℕ) → 1 ≤ k → k ≤ 64 → in_size k ≡ true
  size_in k a b = rw (le-leb 1 k a, le-leb k 64 b)

  tall-fits : largest (weights (columns n rows)) ≤ length rows
  tall-fits = largest-most (columns n rows) (length rows) (λ j h. weight-most (length rows) (get_or (columns n rows) j 0) (columns-fine j h).below)

  wide_fits : largest (weights rows) ≤ n
  wide_fits = largest-most rows n (λ j h. weight-most n (get_or rows j 0) (sized.below j h))

-- ---- the lines

-- four lines and the lists
record FourLines (a b c d : List ℕ) (rest lines : List (List ℕ)) : Type 0 where
  pub left : List (List ℕ)
  pub are : lines ≡ a ∷ b ∷ c ∷ d ∷ left
  pub order : map ordered left ≡ rest

four-lines : (a b c d : List ℕ) (rest lines : List (List ℕ)) → lines_ordered lines ≡ a ∷ b ∷ c ∷ d ∷ rest → FourLines a b c d rest lines
four-lines a b c d rest [] e = absurd (let z : ◌≡◌ {A = ℕ} 0 1 = cc in omega arith)
four-lines a b c d rest (p ∷ []) e = absurd (let z : ◌≡◌ {A = ℕ} 0 1 = cc in omega arith)
four-lines a b c d rest (p ∷ q ∷ []) e = absurd (let z : ◌≡◌ {A = ℕ} 0 1 = cc in omega arith)
four-lines a b c d rest (p ∷ q ∷ r ∷ []) e = absurd (let z : ◌≡◌ {A = ℕ} 0 1 = cc in omega arith)
four-lines a b c d rest (p ∷ q ∷ r ∷ s ∷ ls) e =
    let w : p ≡ a = cc in
    let x : q ≡ b = cc in
    let y : r ≡ c = cc in
    let z : s ≡ d = cc in
    let o : map ordered ls ≡ rest = cc in
    record { left = ls; are = rw (w, x, y, z); order = o }

-- no lines, no bytes
no_lines : (ls : List (List ℕ)) → map ordered ls ≡ [] → ls ≡ []
no_lines [] e = refl
no_lines (l ∷ ls) e = absurd (let z : ◌≡◌ {A = ℕ} 0 1 = cc in omega arith)

no_bytes : (s : List ℕ) → spaced_once s ≡ [] → s ≡ []
no_bytes [] e = refl
no_bytes (x ∷ s) e = absurd (go (eqb x 32) e)
  where
    go : (b : Bool) → cond b (x ∷ spaced_from true s) (x ∷ spaced_from false s) ≡ [] → ⊥
    go true d = let z : ◌≡◌ {A = ℕ} 0 1 = cc in omega arith
    go false d = let z : ◌≡◌ {A = ℕ} 0 1 = cc in omega arith

-- what the first four lines read as, by the matrix's columns and rows, and the lines that are left
record FourBack (text cols rows : List ℕ) : Type 0 where
  pub s₁ : List ℕ
  pub s₂ : List ℕ
  pub s₃ : List ℕ
  pub s₄ : List ℕ
  pub first : line_of 2 text ≡ reads (length cols ∷ length rows ∷ []) s₁
  pub second : line_of 2 s₁ ≡ reads (largest (weights cols) ∷ largest (weights rows) ∷ []) s₂
  pub third : line_of (length (weights cols)) s₂ ≡ reads (weights cols) s₃
  pub fourth : line_of (length (weights rows)) s₃ ≡ reads (weights rows) s₄
  pub left : List (List ℕ)
  pub numbers : each short left ≡ true
  pub bytes : spaced_once s₄ ≡ text_of left
  pub order : map ordered left ≡ lists_of cols ++ lists_of rows

-- what is left has small numbers
left-short : (p q r s : List ℕ) (ls : List (List ℕ)) → each short (p ∷ q ∷ r ∷ s ∷ ls) ≡ true → each short ls ≡ true
left-short p q r s ls d =
    let x = (both (short p) (each short (q ∷ r ∷ s ∷ ls)) d).1 in
    let y = (both (short q) (each short (r ∷ s ∷ ls)) x).1 in
    let v = (both (short r) (each short (s ∷ ls)) y).1 in
    (both (short s) (each short ls) v).1

four-back : (text cols rows : List ℕ) (lines : List (List ℕ)) → length cols ≤ 64 → length rows ≤ 64 → each short lines ≡ true
    → spaced_once text ≡ text_of lines
    → lines_ordered lines ≡ lines_of cols rows → FourBack text cols rows
four-back text cols rows lines h k d e o =
    let tall = largest (weights cols) in
    let wide = largest (weights rows) in
    let f = four-lines (length cols ∷ length rows ∷ []) (tall ∷ wide ∷ []) (weights cols) (weights rows) (lists_of cols ++ lists_of rows) lines o in
    let three = line (weights cols) ++ (line (weights rows) ++ text_of f.left) in
    let small = pair_small (length cols) (length rows) h k in
    let b₁ = line-back (length cols ∷ length rows ∷ []) text (line (tall ∷ wide ∷ []) ++ three) small (e ∙ ap text_of f.are) in
    let b₂ = line-back (tall ∷ wide ∷ []) b₁.after three (pair_small tall wide (largest-few cols) (largest-few rows)) b₁.rest in
    let b₃ = line-back (weights cols) b₂.after (line (weights rows) ++ text_of f.left) (weights-small cols) b₂.rest in
    let b₄ = line-back (weights rows) b₃.after (text_of f.left) (weights-small rows) b₃.rest in
    record {
      s₁ = b₁.after;
      s₂ = b₂.after;
      s₃ = b₃.after;
      s₄ = b₄.after;
      first = b₁.is;
      second = b₂.is;
      third = b₃.is;
      fourth = b₄.is;
      left = f.left;
      numbers = left-short (length cols ∷ length rows ∷ []) (tall ∷ wide ∷ []) (weights cols) (weights rows) f.left (rw f.are at d);
      bytes = b₄.rest;
      order = f.order;
    }

-- ---- the whole text

module _ (text : List ℕ) (n : ℕ) (rows : List ℕ) (sized : Sized n rows) (b : FourBack text (columns n rows) rows) where
  -- the columns and both largest weights
  abbrev cols : List ℕ
  cols = columns n rows

  abbrev tall : ℕ
  tall = largest (weights cols)

  abbrev wide : ℕ
  wide = largest (weights rows)

  -- the columns' lists
  columns-read : ListsBack tall (length rows) [] 0 cols b.s₄ (lists_of rows)
  columns-read =
      lists_back tall (length rows) sized.few [] (lists_of rows) 0 cols b.s₄ b.left
      b.numbers b.order b.bytes (columns-fine n rows sized)

  -- the rows' lists
  rows-read : ListsBack wide n cols 0 rows columns-read.after []
  rows-read =
      let c = columns-read in
      lists_back wide n sized.most cols [] 0 rows c.after c.left
      c.numbers (c.order ∙ sym (append-nil (lists_of rows))) c.bytes (rows-fine n rows sized)

  -- nothing stands after them
  rows_end : rows-read.after ≡ []
  rows_end = no_bytes rows-read.after (rows-read.bytes ∙ ap text_of (no_lines rows-read.left rows-read.order))

  columns-back : on_columns n wide (weights rows) (lists_from tall (length rows) [] 0 (weights cols) b.s₄) ≡ matrix n rows
  columns-back = rw (columns-read.is, rows-read.is, rows_end)

  -- the weights
  widths-back : on_row_weights n (length rows) tall wide (weights cols) (line_of (length rows) b.s₃) ≡ matrix n rows
  widths-back =
      let l = rw (length-weights rows) at b.fourth in
      rw (l, eq-eqb wide wide refl) columns-back

  heights-back : on_column_weights n (length rows) tall wide (line_of n b.s₂) ≡ matrix n rows
  heights-back =
      let l = rw (length-weights cols, long n rows sized) at b.third in
      rw (l, eq-eqb tall tall refl) widths-back

  -- the largest weights
  most-back : on_most n (length rows) (line_of 2 b.s₁) ≡ matrix n rows
  most-back =
      let t = le-leb tall (length rows) (tall-fits n rows sized) in
      let w = le-leb wide n (wide_fits n rows sized) in
      rw (b.second, t, w) heights-back

  sizes-back : reading text ≡ matrix n rows
  unfolding reading
  sizes-back =
      let l = rw (long n rows sized) at b.first in
      rw (l, size_in n rows sized n sized.least sized.most, size_in n rows sized (length rows) sized.some sized.few) most-back

-- several spaces for one and indices in any order are read
pub accepted-reads : (text : List ℕ) (n : ℕ) (rows : List ℕ) → Accepted text n rows → reading text ≡ matrix n rows
accepted-reads text n rows a =
    let l = long n rows a.sized in
    let h = a.sized.most in
    let b = four-back text (columns n rows) rows a.lines (omega (arith, l, h)) a.sized.few a.numbers a.is a.order in
    sizes-back text n rows a.sized b

-- a written text reads back as the matrix
pub written-reads-back : (n : ℕ) (rows : List ℕ) → Sized n rows → reading (alist_text n rows) ≡ matrix n rows
written-reads-back n rows sized = accepted-reads (alist_text n rows) n rows (written-accepted n rows sized)
