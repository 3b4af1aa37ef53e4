-- A text that reads as a matrix is that of the matrix but for several spaces and the order of indices.
use borrow.Author.Tests.{eqb-true}
use lib.ListN.{get_or, length, take}
use lib.Pow.{pow_pos}
use mathlib.Core.Bool.{true}
use mathlib.Core.List.{◌++◌, List, [], append_assoc, append-nil, map, ◌∷◌}
use mathlib.Core.Path.{◌≡◌, ap, refl, sym, ◌∙◌}
use native.Mathlib.Omega.{arith}
use Prim.Native.Nat.{◌+◌, ◌<◌, ◌^◌, suc, zero, ℕ, ◌≤◌}
use Rattle.alists.proofs.Ascending.{ones_below, word-judged}
use Rattle.alists.proofs.Bounds.{length-weights, text-append}
use Rattle.alists.proofs.Judging.{shows-known}
use Rattle.alists.proofs.NumbersFound.{all_true}
use Rattle.alists.proofs.Ordered.{list-ordered}
use Rattle.alists.proofs.ReadingTaken.{first-list, reading-taken}
use Rattle.alists.proofs.SpacedOnce.{each_both, line_taken}
use Rattle.alists.proofs.Storing.{line-long}
use Rattle.alists.proofs.Transposed.{column-of-columns}
use Rattle.alists.specs.Accepted.{Accepted, lines_ordered, ordered, spaced_once}
use Rattle.alists.specs.Lines.{line_of, reads}
use Rattle.alists.specs.Lists.{column, columns, columns_from, largest, list_of}
use Rattle.alists.specs.OwnForm.{each, short}
use Rattle.alists.specs.Reading.{lists, lists_from, matrix, reading, shows, word, word_of}
use Rattle.alists.specs.Text.{line, lines_of, text_of, weights}

-- ---- lists

-- lists read: their lines with one space for several, and what they are once in order
pub record ListsTaken (most size : ℕ) (seen : List ℕ) (i : ℕ) (ws s words t : List ℕ) : Type 0 where
  pub lines : List (List ℕ)
  pub numbers : each short lines ≡ true
  pub bytes : spaced_once s ≡ text_of lines ++ spaced_once t
  pub order : map ordered lines ≡ map (list_of most) words
  pub weigh : ws ≡ weights words
  pub below : (j : ℕ) → get_or words j 0 < 2 ^ size
  pub shown : 0 < length seen → words ≡ columns_from seen i (length words)

no-lists : (most size : ℕ) (seen : List ℕ) (i : ℕ) (s words t : List ℕ) → lists [] s ≡ lists words t → ListsTaken most size seen i [] s words t
no-lists most size seen i s words t e =
    let a : [] ≡ words = cc in
    let b : s ≡ t = cc in
    rw (← a, b) (record { lines = []; numbers = refl; bytes = refl; order = refl; weigh = refl; below = λ j. pow_pos size; shown = λ h. refl })

-- a row is the columns' ones
row-shown : (seen : List ℕ) (i w : ℕ) → shows seen i w ≡ true → 0 < length seen → w ≡ column seen i
row-shown seen i w e h = eqb-true w (column seen i) (sym (shows-known seen i w h) ∙ e)

-- the word of a list fits the size
word_below : (size count : ℕ) (xs : List ℕ) (w : ℕ) → word_of size count xs ≡ word w → w < 2 ^ size
word_below size count xs w e = ones_below size (take count xs) 0 w (pow_pos size) (word-judged size count xs w e).ones

both-same : {A : Type 0} {x y : A} {xs ys : List A} → x ≡ y → xs ≡ ys → x ∷ xs ≡ y ∷ ys
both-same a b = rw (a, b)

pub lists-taken : (most size : ℕ) → size ≤ 64 → (seen ws : List ℕ) (i : ℕ) (s words t : List ℕ) → lists_from most size seen i ws s ≡ lists words t
    → ListsTaken most size seen i ws s words t
lists-taken most size h seen [] i s words t e = no-lists most size seen i s words t e
lists-taken most size h seen (w ∷ ws) i s words t e =
    let f = first-list most size seen i w ws s words t e in
    let l = line_taken most s f.numbers f.after f.line in
    let o = list-ordered size w f.numbers f.first h f.is_word in
    let k = line-long most s f.numbers f.after f.line in
    let r = lists-taken most size h seen ws (suc i) f.after f.others t f.on in
    rw f.words_are (record {
      lines = f.numbers ∷ r.lines;
      numbers = rw l.numbers r.numbers;
      bytes = l.is ∙ rw r.bytes (sym (append_assoc (line f.numbers) (text_of r.lines) (spaced_once t)));
      order = both-same (o.is ∙ ap (λ (a : ℕ). list_of a f.first) k) r.order;
      weigh = both-same o.weighs r.weigh;
      below = lower f.first f.others (word_below size w f.numbers f.first f.is_word) r.below;
      shown = λ g. rw (row-shown seen i f.first f.shown g) (ap (λ (v : List ℕ). column seen i ∷ v) (r.shown g));
    })
  where
    lower : (v : ℕ) (vs : List ℕ) → v < 2 ^ size → ((j : ℕ) → get_or vs j 0 < 2 ^ size) → (j : ℕ) → get_or (v ∷ vs) j 0 < 2 ^ size
    lower v vs a b zero = a
    lower v vs a b (suc j) = b j

-- ---- the whole text

-- columns that are known one by one
columns-known : (rows cols : List ℕ) (i : ℕ) → ((j : ℕ) → column rows (i + j) ≡ get_or cols j 0) → columns_from rows i (length cols) ≡ cols
columns-known rows [] i f = refl
columns-known rows (c ∷ cols) i f =
    both-same (let z : i + 0 ≡ i = omega arith in rw z at (f 0))
    (columns-known rows cols (suc i) (λ j. let e : i + suc j ≡ suc i + j = omega arith in rw e at (f (suc j))))

map_both : (f : List ℕ → List ℕ) (a b : List (List ℕ)) → map f (a ++ b) ≡ map f a ++ map f b
map_both f [] b = refl
map_both f (x ∷ a) b = ap (λ (r : List (List ℕ)). f x ∷ r) (map_both f a b)

appended : {a b c d : List (List ℕ)} → a ≡ b → c ≡ d → a ++ c ≡ b ++ d
appended p q = rw (p, q)

-- the lines of a matrix by its columns and rows
lines_same : (cols rows : List ℕ) {n m tall wide : ℕ} {heights widths : List ℕ} {ls : List (List ℕ)} → n ≡ length cols → m ≡ length rows
    → tall ≡ largest (weights cols) → wide ≡ largest (weights rows) → heights ≡ weights cols → widths ≡ weights rows
    → ls ≡ map (list_of tall) cols ++ map (list_of wide) rows
    → (n ∷ m ∷ []) ∷ (tall ∷ wide ∷ []) ∷ heights ∷ widths ∷ ls ≡ lines_of cols rows
lines_same cols rows a b c d e f g = rw (g, a, b, c, d, e, f)

-- what each line of a text reads as
record Taken (text : List ℕ) (n : ℕ) (rows : List ℕ) : Type 0 where
  pub m : ℕ
  pub tall : ℕ
  pub wide : ℕ
  pub heights : List ℕ
  pub widths : List ℕ
  pub cols : List ℕ
  pub s₁ : List ℕ
  pub s₂ : List ℕ
  pub s₃ : List ℕ
  pub s₄ : List ℕ
  pub s₅ : List ℕ
  pub columns_size : (1 ≤ n) × (n ≤ 64)
  pub rows_size : (1 ≤ m) × (m ≤ 64)
  pub first : line_of 2 text ≡ reads (n ∷ m ∷ []) s₁
  pub second : line_of 2 s₁ ≡ reads (tall ∷ wide ∷ []) s₂
  pub third : line_of n s₂ ≡ reads heights s₃
  pub fourth : line_of m s₃ ≡ reads widths s₄
  pub tall_met : largest heights ≡ tall
  pub wide_met : largest widths ≡ wide
  pub columns_taken : ListsTaken tall m [] 0 heights s₄ cols s₅
  pub rows_taken : ListsTaken wide n cols 0 widths s₅ rows []

-- a line of two numbers
pair_read : (s vs t : List ℕ) → line_of 2 s ≡ reads vs t → line_of 2 s ≡ reads (get_or vs 0 0 ∷ get_or vs 1 0 ∷ []) t
pair_read s vs t e = e ∙ ap (λ (v : List ℕ). reads v t) (go vs (line-long 2 s vs t e))
  where
    go : (ws : List ℕ) → length ws ≡ 2 → ws ≡ get_or ws 0 0 ∷ get_or ws 1 0 ∷ []
    go [] l = absurd (omega (arith, l))
    go (x ∷ []) l = absurd (omega (arith, l))
    go (x ∷ y ∷ []) l = refl
    go (x ∷ y ∷ z ∷ ws) l = absurd (omega (arith, l))

taken : (text : List ℕ) (n : ℕ) (rows : List ℕ) → reading text ≡ matrix n rows → Taken text n rows
taken text n rows e =
    let a = reading-taken text n rows e in
    let b = a.others in
    let c = b.others in
    let d = c.others in
    let g = d.others in
    let m = get_or a.numbers 1 0 in
    let tall = get_or b.numbers 0 0 in
    let wide = get_or b.numbers 1 0 in
    let k = get_or a.numbers 0 0 in
    let t : Taken text k rows = record {
      m = m;
      tall = tall;
      wide = wide;
      heights = c.heights;
      widths = d.widths;
      cols = g.cols;
      s₁ = a.after;
      s₂ = b.after;
      s₃ = c.after;
      s₄ = d.after;
      s₅ = g.after;
      columns_size = a.columns_size;
      rows_size = a.rows_size;
      first = pair_read text a.numbers a.after a.line;
      second = pair_read a.after b.numbers b.after b.line;
      third = c.line;
      fourth = d.line;
      tall_met = c.met;
      wide_met = d.met;
      columns_taken = lists-taken tall m a.rows_size.1 [] c.heights 0 d.after g.cols g.after g.columns_are;
      rows_taken = lists-taken wide k a.columns_size.1 g.cols d.widths 0 g.after rows [] g.rows_are;
    } in
    rw g.same at t

module _ {text : List ℕ} {n : ℕ} {rows : List ℕ} (t : Taken text n rows) where
  columns-long : length t.cols ≡ n
  columns-long = sym (length-weights t.cols) ∙ sym (ap length t.columns_taken.weigh) ∙ line-long n t.s₂ t.heights t.s₃ t.third

  rows_long : length rows ≡ t.m
  rows_long = sym (length-weights rows) ∙ sym (ap length t.rows_taken.weigh) ∙ line-long t.m t.s₃ t.widths t.s₄ t.fourth

  rows-shown : rows ≡ columns t.m t.cols
  rows-shown =
      let l = columns-long in
      let h = t.columns_size.0 in
      t.rows_taken.shown (omega (arith, l, h)) ∙ ap (λ (k : ℕ). columns k t.cols) rows_long

  columns_are : t.cols ≡ columns n rows
  columns_are = sym (ap (λ (k : ℕ). columns k rows) (sym columns-long) ∙ columns-known rows t.cols 0 same)
    where
      same : (j : ℕ) → column rows (0 + j) ≡ get_or t.cols j 0
      same j =
          let z : 0 + j ≡ j = omega arith in
          rw z (ap (λ (v : List ℕ). column v j) rows-shown ∙ column-of-columns t.m t.cols j (t.columns_taken.below j))

  -- the lines
  abbrev lines-taken : List (List ℕ)
  lines-taken = (n ∷ t.m ∷ []) ∷ (t.tall ∷ t.wide ∷ []) ∷ t.heights ∷ t.widths ∷ (t.columns_taken.lines ++ t.rows_taken.lines)

  numbers-taken : each short lines-taken ≡ true
  numbers-taken =
      let a = (line_taken 2 text (n ∷ t.m ∷ []) t.s₁ t.first).numbers in
      let b = (line_taken 2 t.s₁ (t.tall ∷ t.wide ∷ []) t.s₂ t.second).numbers in
      let c = (line_taken n t.s₂ t.heights t.s₃ t.third).numbers in
      let d = (line_taken t.m t.s₃ t.widths t.s₄ t.fourth).numbers in
      let e = each_both short t.columns_taken.lines t.rows_taken.lines t.columns_taken.numbers t.rows_taken.numbers in
      all_true a (all_true b (all_true c (all_true d e)))

  bytes-taken : spaced_once text ≡ text_of lines-taken
  bytes-taken =
      let p = t.columns_taken.lines in
      let q = t.rows_taken.lines in
      (line_taken 2 text (n ∷ t.m ∷ []) t.s₁ t.first).is
      ∙ ap (λ (r : List ℕ). line (n ∷ t.m ∷ []) ++ r) ((line_taken 2 t.s₁ (t.tall ∷ t.wide ∷ []) t.s₂ t.second).is
      ∙ ap (λ (r : List ℕ). line (t.tall ∷ t.wide ∷ []) ++ r) ((line_taken n t.s₂ t.heights t.s₃ t.third).is
      ∙ ap (λ (r : List ℕ). line t.heights ++ r) ((line_taken t.m t.s₃ t.widths t.s₄ t.fourth).is
      ∙ ap (λ (r : List ℕ). line t.widths ++ r) (t.columns_taken.bytes
      ∙ ap (λ (r : List ℕ). text_of p ++ r) (t.rows_taken.bytes ∙ append-nil (text_of q)) ∙ sym (text-append p q)))))

  order-taken : lines_ordered lines-taken ≡ lines_of (columns n rows) rows
  order-taken =
      let c = t.columns_taken in
      let r = t.rows_taken in
      let tall_is : t.tall ≡ largest (weights t.cols) = sym t.tall_met ∙ ap largest c.weigh in
      let wide_is : t.wide ≡ largest (weights rows) = sym t.wide_met ∙ ap largest r.weigh in
      let lists-are = map_both ordered c.lines r.lines ∙ appended c.order r.order in
      lines_same t.cols rows (sym columns-long) (sym rows_long) tall_is wide_is c.weigh r.weigh lists-are
      ∙ ap (λ (v : List ℕ). lines_of v rows) columns_are

-- a text that reads as a matrix is the matrix's but for several spaces and the order of indices
pub only-accepted : (text : List ℕ) (n : ℕ) (rows : List ℕ) → reading text ≡ matrix n rows → Accepted text n rows
only-accepted text n rows e =
    let t = taken text n rows e in
    let l = rows_long t in
    let h = t.rows_size in
    let a = h.0 in
    let b = h.1 in
    record {
      sized = record {
        least = t.columns_size.0;
        most = t.columns_size.1;
        some = omega (arith, l, a);
        few = omega (arith, l, b);
        below = λ j k. t.rows_taken.below j;
      };
      lines = lines-taken t;
      numbers = numbers-taken t;
      is = bytes-taken t;
      order = order-taken t;
    }
