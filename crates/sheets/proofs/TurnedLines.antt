-- The lines after the cover, turned: the same mask and rows, blocks by position and counters, and the same end.
use Rattle.std.proofs.Common.{Option, Some, None, Result, Ok, Err}
use Prim.Native.Nat.{ℕ, zero, suc}
use lib.Dec.{eqb}
use lib.IntN.{ℤ}
use lib.ListN.{drop, length-reverse}
use mathlib.Core.Bool.{Bool, true, false, cond}
use mathlib.Core.List.{List, [], ◌∷◌, reverse}
use mathlib.Core.Path.{◌≡◌, refl, ◌∙◌, ap, ap₂}
use native.Mathlib.Omega.{arith}
use Rattle.sheets.specs.declared.line.Fault.{Fault}
use Rattle.sheets.specs.Text.{fields, onto, parts}
use Rattle.sheets.specs.Words.{word_of}
use Rattle.sheets.specs.Turning.{by_position}
use Rattle.sheets.specs.Numbers.{counter_of, is_number}
use Rattle.sheets.specs.Rows.{row_of}
use Rattle.sheets.specs.Blocks.{BlockFound, block, no_block, samples_of, samples_found, values_of, heard_rest, block_by, block_line, values_after, listed_in, block_then, blocks_of, counter_by, counter_in, counters_of, heard_line, heard_front}
use Rattle.sheets.specs.Lines.{late_row, late_block, late_heard, row_is, row_rest, row_made, block_is, heard_fields, line_by, line_of, row_then, rows_of, after_end, end_by, ending_of}
use Rattle.sheets.specs.Masks.{mask_by, mask_front, mask_is, mask_of}
use Rattle.sheets.specs.Turned.{heard_turned, rest_turned, fields_turned, other, LinesTurned}
use Rattle.sheets.specs.declared.Order.{Order}
use Rattle.sheets.specs.declared.word.Word.{Word}
use Rattle.sheets.specs.declared.word.Word.TheVariants as W
use Rattle.sheets.specs.declared.line.Came.{Came}
use Rattle.sheets.specs.declared.line.Came.TheVariants.{Nothing}
use Rattle.sheets.specs.declared.line.Fault.TheVariants.{Turn}
use Rattle.sheets.specs.declared.line.Line.{Line}
use Rattle.sheets.specs.declared.line.Line.TheVariants as L
use Rattle.sheets.specs.declared.body.Ending.TheVariants.{Fine}
use Rattle.sheets.proofs.TurnedLists.{bits-turned, found_turned, other-order, samples-turned}

-- ---- rows

-- the same row under the other order
row-turned : (n : ℕ) (order : Order) (f : List ℕ) → row_of n (other order) (reverse f) ≡ row_of n order f
row-turned n order f = rw (length-reverse f, bits-turned f, other-order order f)

no_more : (a b : Result ℕ ℕ) (ws : List ℕ) → row_then (block_is a) ws ≡ row_then (block_is b) ws
no_more (Ok j) (Ok k) ws = refl
no_more (Ok j) (Err k) ws = refl
no_more (Err j) (Ok k) ws = refl
no_more (Err j) (Err k) ws = refl

-- only a row goes into the rows
rows-by-word : (n : ℕ) (order : Order) (w : Word) (fs : List (List ℕ)) (ws : List ℕ)
    → row_then (line_by n (other order) Nothing w (rest_turned w fs)) ws ≡ row_then (line_by n order Nothing w fs) ws
rows-by-word n order W.Cover fs ws = refl
rows-by-word n order W.Mask fs ws = refl
rows-by-word n order W.Row [] ws = refl
rows-by-word n order W.Row (f ∷ []) ws = ap (λ (r : Option ℕ). row_then (row_made (row_is r)) ws) (row-turned n order f)
rows-by-word n order W.Row (f ∷ g ∷ fs) ws = refl
rows-by-word n order W.Block fs ws = no_more (samples_of 2 0 (reverse fs)) (samples_of 2 0 fs) ws
rows-by-word n order W.Heard [] ws = refl
rows-by-word n order W.Heard (f ∷ fs) ws = no_more (heard_rest (f ∷ reverse fs)) (heard_rest (f ∷ fs)) ws
rows-by-word n order W.End fs ws = refl
rows-by-word n order W.Other fs ws = refl

rows-by-fields : (n : ℕ) (order : Order) (fs : List (List ℕ)) (ws : List ℕ)
    → row_then (line_of n (other order) Nothing (fields_turned fs)) ws ≡ row_then (line_of n order Nothing fs) ws
rows-by-fields n order [] ws = refl
rows-by-fields n order (w ∷ fs) ws = rows-by-word n order (word_of w) fs ws

pub rows-turned : (n : ℕ) (order : Order) (ls ms : List (List ℕ)) → LinesTurned ls ms → rows_of n (other order) ms ≡ rows_of n order ls
rows-turned n order [] [] h = refl
rows-turned n order [] (m ∷ ms) h = absurd h
rows-turned n order (l ∷ ls) [] h = absurd h
rows-turned n order (l ∷ []) (m ∷ []) h = refl
rows-turned n order (l ∷ []) (m ∷ o ∷ ms) h = absurd h.1
rows-turned n order (l ∷ k ∷ ls) (m ∷ []) h = absurd h.1
rows-turned n order (l ∷ k ∷ ls) (m ∷ o ∷ ms) h =
    ap (λ (fs : List (List ℕ)). row_then (line_of n (other order) Nothing fs) (rows_of n (other order) (o ∷ ms))) h.0
    ∙ rows-by-fields n order (fields l) (rows_of n (other order) (o ∷ ms))
    ∙ ap (row_then (line_of n order Nothing (fields l))) (rows-turned n order (k ∷ ls) (o ∷ ms) h.1)

-- ---- the mask

mask-by-word : (n : ℕ) (order : Order) (w : Word) (fs : List (List ℕ)) → mask_by n (other order) w (rest_turned w fs) ≡ mask_by n order w fs
mask-by-word n order W.Cover fs = refl
mask-by-word n order W.Mask [] = refl
mask-by-word n order W.Mask (f ∷ []) = ap (λ (r : Option ℕ). mask_is (row_is r)) (row-turned n order f)
mask-by-word n order W.Mask (f ∷ g ∷ fs) = refl
mask-by-word n order W.Row fs = refl
mask-by-word n order W.Block fs = refl
mask-by-word n order W.Heard fs = refl
mask-by-word n order W.End fs = refl
mask-by-word n order W.Other fs = refl

mask-by-fields : (n : ℕ) (order : Order) (fs : List (List ℕ)) → mask_of n (other order) (fields_turned fs) ≡ mask_of n order fs
mask-by-fields n order [] = refl
mask-by-fields n order (w ∷ fs) = mask-by-word n order (word_of w) fs

-- the same mask under the other order, or the same fault
pub mask-turned : (n : ℕ) (order : Order) (ls ms : List (List ℕ)) → LinesTurned ls ms → mask_front n (other order) ms ≡ mask_front n order ls
mask-turned n order [] [] h = refl
mask-turned n order [] (m ∷ ms) h = absurd h
mask-turned n order (l ∷ ls) [] h = absurd h
mask-turned n order (l ∷ []) (m ∷ []) h = refl
mask-turned n order (l ∷ []) (m ∷ o ∷ ms) h = absurd h.1
mask-turned n order (l ∷ k ∷ ls) (m ∷ []) h = absurd h.1
mask-turned n order (l ∷ k ∷ ls) (m ∷ o ∷ ms) h = ap (mask_of n (other order)) h.0 ∙ mask-by-fields n order (fields l)

-- ---- blocks

heard-by-word : (fs : List (List ℕ))
    → samples_found (heard_rest (heard_turned fs)) (values_of (drop 1 (heard_turned fs))) ≡ found_turned (samples_found (heard_rest fs) (values_of (drop 1 fs)))
heard-by-word [] = refl
heard-by-word (f ∷ fs) = by (is_number (counter_of f))
  where
    by : (t : Bool) → samples_found (cond t (samples_of 3 0 (reverse fs)) (Err 2)) (values_of (reverse fs)) ≡ found_turned (samples_found (cond t (samples_of 3 0 fs) (Err 2)) (values_of fs))
    by true = samples-turned 3 fs
    by false = refl

blocks-by-word : (heard : Bool) (word : Word) (fs : List (List ℕ))
    → samples_found (block_by heard word (rest_turned word fs)) (values_after heard (rest_turned word fs)) ≡ found_turned (samples_found (block_by heard word fs) (values_after heard fs))
blocks-by-word heard W.Cover fs = refl
blocks-by-word heard W.Mask fs = refl
blocks-by-word heard W.Row fs = refl
blocks-by-word false W.Block fs = samples-turned 2 fs
blocks-by-word true W.Block fs = refl
blocks-by-word false W.Heard fs = refl
blocks-by-word true W.Heard fs = heard-by-word fs
blocks-by-word heard W.End fs = refl
blocks-by-word heard W.Other fs = refl

blocks-by-fields : (heard : Bool) (fs : List (List ℕ))
    → samples_found (block_line heard (fields_turned fs)) (listed_in heard (fields_turned fs)) ≡ found_turned (samples_found (block_line heard fs) (listed_in heard fs))
blocks-by-fields heard [] = refl
blocks-by-fields heard (w ∷ fs) = blocks-by-word heard (word_of w) fs

then-turned : (order : Order) (b : BlockFound) (xs ys : List (List ℤ)) → by_position (other order) ys ≡ by_position order xs
    → by_position (other order) (block_then (found_turned b) ys) ≡ by_position order (block_then b xs)
then-turned order (block vs) xs ys e = ap₂ (λ (samples : List ℤ) (blocks : List (List ℤ)). samples ∷ blocks) (other-order order vs) e
then-turned order no_block xs ys e = refl

pub blocks-turned : (heard : Bool) (order : Order) (ls ms : List (List ℕ)) → LinesTurned ls ms
    → by_position (other order) (blocks_of heard ms) ≡ by_position order (blocks_of heard ls)
blocks-turned heard order [] [] h = refl
blocks-turned heard order [] (m ∷ ms) h = absurd h
blocks-turned heard order (l ∷ ls) [] h = absurd h
blocks-turned heard order (l ∷ []) (m ∷ []) h = refl
blocks-turned heard order (l ∷ []) (m ∷ o ∷ ms) h = absurd h.1
blocks-turned heard order (l ∷ k ∷ ls) (m ∷ []) h = absurd h.1
blocks-turned heard order (l ∷ k ∷ ls) (m ∷ o ∷ ms) h =
    ap (λ (fs : List (List ℕ)). by_position (other order) (block_then (samples_found (block_line heard fs) (listed_in heard fs)) (blocks_of heard (o ∷ ms)))) h.0
    ∙ ap (λ (b : BlockFound). by_position (other order) (block_then b (blocks_of heard (o ∷ ms)))) (blocks-by-fields heard (fields l))
    ∙ then-turned order (samples_found (block_line heard (fields l)) (listed_in heard (fields l))) (blocks_of heard (k ∷ ls)) (blocks_of heard (o ∷ ms))
    (blocks-turned heard order (k ∷ ls) (o ∷ ms) h.1)

-- ---- counters

counter-by-word : (word : Word) (fs : List (List ℕ)) → counter_by word (rest_turned word fs) ≡ counter_by word fs
counter-by-word W.Cover fs = refl
counter-by-word W.Mask fs = refl
counter-by-word W.Row fs = refl
counter-by-word W.Block fs = refl
counter-by-word W.Heard [] = refl
counter-by-word W.Heard (f ∷ fs) = refl
counter-by-word W.End fs = refl
counter-by-word W.Other fs = refl

counter-by-fields : (fs : List (List ℕ)) → counter_in (fields_turned fs) ≡ counter_in fs
counter-by-fields [] = refl
counter-by-fields (w ∷ fs) = counter-by-word (word_of w) fs

pub counters-turned : (k : ℕ) (ls ms : List (List ℕ)) → LinesTurned ls ms → counters_of k ms ≡ counters_of k ls
counters-turned zero ls ms h = refl
counters-turned (suc k) [] [] h = refl
counters-turned (suc k) [] (m ∷ ms) h = absurd h
counters-turned (suc k) (l ∷ ls) [] h = absurd h
counters-turned (suc k) (l ∷ ls) (m ∷ ms) h =
    ap₂ (λ (c : ℕ) (cs : List ℕ). c ∷ cs) (ap counter_in h.0 ∙ counter-by-fields (fields l)) (counters-turned k ls ms h.1)

heard-by-fields : (fs : List (List ℕ)) → heard_line (fields_turned fs) ≡ heard_line fs
heard-by-fields [] = refl
heard-by-fields (w ∷ fs) = refl

pub heard-turned : (ls ms : List (List ℕ)) → LinesTurned ls ms → heard_front ms ≡ heard_front ls
heard-turned [] [] h = refl
heard-turned [] (m ∷ ms) h = absurd h
heard-turned (l ∷ ls) [] h = absurd h
heard-turned (l ∷ ls) (m ∷ ms) h = ap heard_line h.0 ∙ heard-by-fields (fields l)

-- ---- the end

pub drop-turned : (k : ℕ) (ls ms : List (List ℕ)) → LinesTurned ls ms → LinesTurned (drop k ls) (drop k ms)
drop-turned zero ls ms h = h
drop-turned (suc k) [] [] h = tt
drop-turned (suc k) [] (m ∷ ms) h = absurd h
drop-turned (suc k) (l ∷ ls) [] h = absurd h
drop-turned (suc k) (l ∷ ls) (m ∷ ms) h = drop-turned k ls ms h.1

module _ (n : ℕ) (order : Order) (came : Came) where
  row-no-end : (r : Option ℕ) → row_made (row_is r) ≡ Ok L.End → ⊥
  row-no-end (Some w) e = let z : ◌≡◌ {A = ℕ} 0 1 = cc in omega arith
  row-no-end None e = let z : ◌≡◌ {A = ℕ} 0 1 = cc in omega arith

  rest-no-end : (fs : List (List ℕ)) → row_made (row_rest n order fs) ≡ Ok L.End → ⊥
  rest-no-end [] e = let z : ◌≡◌ {A = ℕ} 0 1 = cc in omega arith
  rest-no-end (f ∷ []) e = row-no-end (row_of n order f) e
  rest-no-end (f ∷ g ∷ fs) e = let z : ◌≡◌ {A = ℕ} 0 1 = cc in omega arith

  late-no-end : (t : Bool) (fs : List (List ℕ)) → cond t (Err Turn) (row_made (row_rest n order fs)) ≡ Ok L.End → ⊥
  late-no-end true fs e = let z : ◌≡◌ {A = ℕ} 0 1 = cc in omega arith
  late-no-end false fs e = rest-no-end fs e

  block-no-end : (d : Result ℕ ℕ) → block_is d ≡ Ok L.End → ⊥
  block-no-end (Ok k) e = let z : ◌≡◌ {A = ℕ} 0 1 = cc in omega arith
  block-no-end (Err k) e = let z : ◌≡◌ {A = ℕ} 0 1 = cc in omega arith

  heard-no-end : (fs : List (List ℕ)) → heard_fields fs ≡ Ok L.End → ⊥
  heard-no-end [] e = let z : ◌≡◌ {A = ℕ} 0 1 = cc in omega arith
  heard-no-end (f ∷ fs) e = block-no-end (heard_rest (f ∷ fs)) e

  turn-no-end : (t : Bool) (line : Result Line Fault) → (line ≡ Ok L.End → ⊥) → cond t (Err Turn) line ≡ Ok L.End → ⊥
  turn-no-end true line h e = let z : ◌≡◌ {A = ℕ} 0 1 = cc in omega arith
  turn-no-end false line h e = h e

  end-by-word : (w : Word) (fs : List (List ℕ)) → line_by n order came w fs ≡ Ok L.End → line_by n (other order) came w (rest_turned w fs) ≡ Ok L.End
  end-by-word W.Cover fs e = e
  end-by-word W.Mask fs e = e
  end-by-word W.Row fs e = absurd (late-no-end (late_row came) fs e)
  end-by-word W.Block fs e = absurd (turn-no-end (late_block came) (block_is (samples_of 2 0 fs)) (block-no-end (samples_of 2 0 fs)) e)
  end-by-word W.Heard fs e = absurd (turn-no-end (late_heard came) (heard_fields fs) (heard-no-end fs) e)
  end-by-word W.End fs e = e
  end-by-word W.Other fs e = e

  end-by-fields : (fs : List (List ℕ)) → line_of n order came fs ≡ Ok L.End → line_of n (other order) came (fields_turned fs) ≡ Ok L.End
  end-by-fields [] e = e
  end-by-fields (w ∷ fs) e = end-by-word (word_of w) fs e

fine-by-line : (k : Result Line Fault) (rest : List (List ℕ)) → end_by k rest ≡ Fine → (k ≡ Ok L.End) × (after_end rest ≡ Fine)
fine-by-line (Ok (L.Row w)) rest e = let z : ◌≡◌ {A = ℕ} 0 1 = cc in absurd (omega arith)
fine-by-line (Ok L.Block) rest e = let z : ◌≡◌ {A = ℕ} 0 1 = cc in absurd (omega arith)
fine-by-line (Ok L.End) rest e = (refl, e)
fine-by-line (Err f) rest e = let z : ◌≡◌ {A = ℕ} 0 1 = cc in absurd (omega arith)

-- a text has a part
some-case : (x : ℕ) (ps : List (List ℕ)) (t : Bool) → cond t ([] ∷ ps) (onto x ps) ≡ [] → ⊥
some-case x ps true e = let z : ◌≡◌ {A = ℕ} 0 1 = cc in omega arith
some-case x [] false e = let z : ◌≡◌ {A = ℕ} 0 1 = cc in omega arith
some-case x (p ∷ ps) false e = let z : ◌≡◌ {A = ℕ} 0 1 = cc in omega arith

pub some-part : (b : ℕ) (s : List ℕ) → parts b s ≡ [] → ⊥
some-part b [] e = let z : ◌≡◌ {A = ℕ} 0 1 = cc in omega arith
some-part b (x ∷ xs) e = some-case x (parts b xs) (eqb x b) e

-- and where that is one empty part, it is empty
empty-case : (b x : ℕ) (xs : List ℕ) (ps : List (List ℕ)) → parts b xs ≡ ps → (t : Bool) → cond t ([] ∷ ps) (onto x ps) ≡ [] ∷ [] → ⊥
empty-case b x xs ps q true e = let z : ps ≡ [] = cc in some-part b xs (q ∙ z)
empty-case b x xs [] q false e = some-part b xs q
empty-case b x xs (p ∷ ps) q false e = let z : ◌≡◌ {A = ℕ} 0 1 = cc in omega arith

after-turned : (ls ms : List (List ℕ)) → LinesTurned ls ms → after_end ls ≡ Fine → after_end ms ≡ Fine
after-turned [] [] h e = e
after-turned [] (m ∷ ms) h e = absurd h
after-turned (l ∷ ls) [] h e = absurd h
after-turned ([] ∷ []) ([] ∷ []) h e = refl
after-turned ([] ∷ []) ((x ∷ xs) ∷ []) h e = absurd (empty-case 9 x xs (parts 9 xs) refl (eqb x 9) h.0)
after-turned ((x ∷ xs) ∷ []) (m ∷ []) h e = let z : ◌≡◌ {A = ℕ} 0 1 = cc in absurd (omega arith)
after-turned (l ∷ []) (m ∷ o ∷ ms) h e = absurd h.1
after-turned (l ∷ k ∷ ls) (m ∷ ms) h e = let z : ◌≡◌ {A = ℕ} 0 1 = cc in absurd (omega arith)

-- lines that end as they should do so turned
pub fine-turned : (n : ℕ) (order : Order) (came : Came) (ls ms : List (List ℕ)) → LinesTurned ls ms → ending_of n order came ls ≡ Fine
    → ending_of n (other order) came ms ≡ Fine
fine-turned n order came [] ms h e = let z : ◌≡◌ {A = ℕ} 0 1 = cc in absurd (omega arith)
fine-turned n order came (l ∷ []) ms h e = let z : ◌≡◌ {A = ℕ} 0 1 = cc in absurd (omega arith)
fine-turned n order came (l ∷ k ∷ ls) [] h e = absurd h
fine-turned n order came (l ∷ k ∷ ls) (m ∷ []) h e = absurd h.1
fine-turned n order came (l ∷ k ∷ ls) (m ∷ o ∷ ms) h e =
    let f = fine-by-line (line_of n order came (fields l)) (k ∷ ls) e in
    let g : line_of n (other order) came (fields m) ≡ Ok L.End = ap (line_of n (other order) came) h.0 ∙ end-by-fields n order came (fields l) f.0 in
    ap (λ (line : Result Line Fault). end_by line (o ∷ ms)) g ∙ after-turned (k ∷ ls) (o ∷ ms) h.1 f.1
