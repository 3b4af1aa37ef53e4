-- A sheet that is not refused has n from 1 to 64, a mask below 2 ^ n and at most 64 rows, each below 2 ^ n.
use Rattle.std.proofs.Common.{Some, None, Result, Ok, Err}
use Prim.Native.Nat.{ℕ, zero, suc, ◌^◌, ◌≤◌, ◌<◌}
use borrow.Author.Tests.{eqb-true, eqb-false, ltb-false}
use lib.Dec.{eqb, ltb}
use lib.ListN.{length, drop, get_or}
use mathlib.Core.Bool.{Bool, true, false, cond, ◌&&◌}
use mathlib.Core.List.{List, [], ◌∷◌}
use mathlib.Core.Path.{◌≡◌, refl}
use native.Mathlib.Nat.{one-le-pow}
use native.Mathlib.Omega.{arith}
use Rattle.plates.specs.declared.Refusal.{Refusal}
use Rattle.plates.specs.declared.Refusal.TheVariants.{Length, TooManyRows}
use Rattle.sheets.specs.declared.line.Fault.{Fault}
use Rattle.sheets.specs.Text.{fields, lines}
use Rattle.sheets.specs.Words.{word_of}
use Rattle.sheets.specs.Rows.{bits_only, word_from}
use Rattle.sheets.specs.Turning.{in_order}
use Rattle.sheets.specs.Blocks.{heard_rest, samples_of}
use Rattle.sheets.specs.Lines.{row_is, row_rest, row_made, block_is, end_rest, line_by, line_of, front, row_then, rows_of}
use Rattle.sheets.specs.Masks.{mask_by, mask_front, mask_in, mask_is, mask_of, masks_in}
use Rattle.sheets.specs.Sheet.{Contents, cover_front, cover_in, contents, input_too_long, cover_bad, length_bad, line_bad, rows_too_many, first_refusal, verdict, says, reading_by, reading}
use Rattle.sheets.specs.declared.Order.{Order}
use Rattle.sheets.specs.declared.word.Word.{Word}
use Rattle.sheets.specs.declared.word.Word.TheVariants as W
use Rattle.sheets.specs.declared.line.Came.TheVariants.{Nothing}
use Rattle.sheets.specs.declared.line.Line.{Line}
use Rattle.sheets.specs.declared.line.Line.TheVariants as L
use Rattle.sheets.proofs.Characters.{word_small}
use Rattle.sheets.proofs.Turns.{in-order-length}

-- ---- a reading that is not refused

no_says : {A : Type 0} (q : Refusal) (c d : Contents) → reading_by (Err q) d ≡ says c → A
no_says q c d e = let z : ◌≡◌ {A = ℕ} 0 1 = cc in absurd (omega arith)

-- it is accepted, and says the contents
said : (v : Result (Unit {0}) Refusal) (d c : Contents) → reading_by v d ≡ says c → (v ≡ Ok tt) × (d ≡ c)
said (Ok _) d c e = (refl, cc)
said (Err q) d c e = no_says q c d e

pub accepted : (s : List ℕ) (c : Contents) → reading s ≡ says c → (verdict s ≡ Ok tt) × (contents s ≡ c)
accepted s c e = said (verdict s) (contents s) c e

pass : (v : Result (Unit {0}) Refusal) (vs : List (Result (Unit {0}) Refusal)) → first_refusal (v ∷ vs) ≡ Ok tt → (v ≡ Ok tt) × (first_refusal vs ≡ Ok tt)
pass (Ok _) vs e = (refl, e)
pass (Err q) vs e = (e, cc)

-- then each condition passes
pub record Accepts (s : List ℕ) : Type 0 where
  pub short : input_too_long s ≡ Ok tt
  pub form : cover_bad (cover_front (lines s)) ≡ Ok tt
  pub range : length_bad (contents s).n ≡ Ok tt
  pub ended : line_bad (contents s) (drop 1 (lines s)) ≡ Ok tt
  pub few : rows_too_many (length (contents s).rows) ≡ Ok tt

pub all_pass : (s : List ℕ) → verdict s ≡ Ok tt → Accepts s
unfolding verdict
all_pass s e =
    let c = contents s in
    let v₅ = rows_too_many (length c.rows) ∷ [] in
    let v₄ = line_bad c (drop 1 (lines s)) ∷ v₅ in
    let v₃ = length_bad c.n ∷ v₄ in
    let v₂ = cover_bad (cover_front (lines s)) ∷ v₃ in
    let a = pass (input_too_long s) v₂ e in
    let b = pass (cover_bad (cover_front (lines s))) v₃ a.1 in
    let d = pass (length_bad c.n) v₄ b.1 in
    let f = pass (line_bad c (drop 1 (lines s))) v₅ d.1 in
    record { short = a.0; form = b.0; range = d.0; ended = f.0; few = (pass (rows_too_many (length c.rows)) [] f.1).0 }

-- ---- n and the number of rows

no-refusal : {A : Type 0} {q : Refusal} → Err q ≡ Ok (tt {0}) → A
no-refusal e = let z : ◌≡◌ {A = ℕ} 0 1 = cc in absurd (omega arith)

range-case : (n : ℕ) (t u : Bool) → eqb n 0 ≡ t → ltb 64 n ≡ u → cond t (Err Length) (cond u (Err Length) (Ok (tt {0}))) ≡ Ok tt → (1 ≤ n) × (n ≤ 64)
range-case n true u a b e = no-refusal e
range-case n false true a b e = no-refusal e
range-case n false false a b e = (omega (arith, eqb-false n 0 a), ltb-false 64 n b)

length-range : (n : ℕ) → length_bad n ≡ Ok tt → (1 ≤ n) × (n ≤ 64)
length-range n e = range-case n (eqb n 0) (ltb 64 n) refl refl e

few-case : (k : ℕ) (t : Bool) → ltb 64 k ≡ t → cond t (Err TooManyRows) (Ok (tt {0})) ≡ Ok tt → k ≤ 64
few-case k true a e = no-refusal e
few-case k false a e = ltb-false 64 k a

-- ---- the words of rows

-- a line that is a row is below 2 ^ n
abbrev Below : ℕ → Result Line Fault → Type 0
Below n (Ok (L.Row w)) = w < 2 ^ n
Below n (Ok L.Block) = Unit {0}
Below n (Ok L.End) = Unit {0}
Below n (Err f) = Unit {0}

left-true : (a b : Bool) → (a && b) ≡ true → a ≡ true
left-true true b e = refl
left-true false b e = e

module _ (n : ℕ) (order : Order) where
  row-case : (f : List ℕ) (t : Bool) → (eqb (length f) n && bits_only f) ≡ t → Below n (row_made (row_is (cond t (Some (word_from (in_order order f))) None)))
  row-case f true e =
      let l = eqb-true (length f) n (left-true (eqb (length f) n) (bits_only f) e) in
      rw (← l, ← (in-order-length order f)) (word_small (in_order order f))
  row-case f false e = tt

  rest_below : (fs : List (List ℕ)) → Below n (row_made (row_rest n order fs))
  rest_below [] = tt
  rest_below (f ∷ []) = row-case f (eqb (length f) n && bits_only f) refl
  rest_below (f ∷ g ∷ fs) = tt

  block-below : (d : Result ℕ ℕ) → Below n (block_is d)
  block-below (Ok k) = tt
  block-below (Err f) = tt

  end_below : (fs : List (List ℕ)) → Below n (end_rest fs)
  end_below [] = tt
  end_below (f ∷ fs) = tt

  by-below : (w : Word) (fs : List (List ℕ)) → Below n (line_by n order Nothing w fs)
  by-below W.Cover fs = tt
  by-below W.Mask fs = tt
  by-below W.Row fs = rest_below fs
  by-below W.Block fs = block-below (samples_of 2 0 fs)
  by-below W.Heard [] = tt
  by-below W.Heard (f ∷ fs) = block-below (heard_rest (f ∷ fs))
  by-below W.End fs = end_below fs
  by-below W.Other fs = tt

  line-below : (fs : List (List ℕ)) → Below n (line_of n order Nothing fs)
  line-below [] = tt
  line-below (w ∷ fs) = by-below (word_of w) fs

  front_below : (ls : List (List ℕ)) → Below n (front n order Nothing ls)
  front_below [] = tt
  front_below (l ∷ []) = tt
  front_below (l ∷ m ∷ ls) = line-below (fields l)

  then-below : (k : Result Line Fault) (ws : List ℕ) → Below n k → ((j : ℕ) → j < length ws → get_or ws j 0 < 2 ^ n)
      → (j : ℕ) → j < length (row_then k ws) → get_or (row_then k ws) j 0 < 2 ^ n
  then-below (Ok (L.Row w)) ws b h zero l = b
  then-below (Ok (L.Row w)) ws b h (suc j) l = h j (omega arith)
  then-below (Ok L.Block) ws b h j l = absurd (omega arith)
  then-below (Ok L.End) ws b h j l = absurd (omega arith)
  then-below (Err f) ws b h j l = absurd (omega arith)

  rows-below : (ls : List (List ℕ)) (j : ℕ) → j < length (rows_of n order ls) → get_or (rows_of n order ls) j 0 < 2 ^ n
  rows-below [] j l = absurd (omega arith)
  rows-below (l ∷ ls) j h = then-below (front n order Nothing (l ∷ ls)) (rows_of n order ls) (front_below (l ∷ ls)) (rows-below ls) j h

  -- ---- the word of the mask

  no-mask-below : 0 < 2 ^ n
  no-mask-below = omega (arith, one-le-pow n 2 (omega arith))

  mask-is-below : (k : Result ℕ Fault) → Below n (row_made k) → mask_in (mask_is k) < 2 ^ n
  mask-is-below (Ok w) h = h
  mask-is-below (Err f) h = no-mask-below

  mask-by-below : (w : Word) (fs : List (List ℕ)) → mask_in (mask_by n order w fs) < 2 ^ n
  mask-by-below W.Cover fs = no-mask-below
  mask-by-below W.Mask fs = mask-is-below (row_rest n order fs) (rest_below fs)
  mask-by-below W.Row fs = no-mask-below
  mask-by-below W.Block fs = no-mask-below
  mask-by-below W.Heard fs = no-mask-below
  mask-by-below W.End fs = no-mask-below
  mask-by-below W.Other fs = no-mask-below

  mask-of-below : (fs : List (List ℕ)) → mask_in (mask_of n order fs) < 2 ^ n
  mask-of-below [] = no-mask-below
  mask-of-below (w ∷ fs) = mask-by-below (word_of w) fs

  mask_below : (ls : List (List ℕ)) → mask_in (mask_front n order ls) < 2 ^ n
  mask_below [] = no-mask-below
  mask_below (l ∷ []) = no-mask-below
  mask_below (l ∷ m ∷ ls) = mask-of-below (fields l)

-- ---- a sheet that is not refused

pub record InRange (c : Contents) : Type 0 where
  pub least : 1 ≤ c.n
  pub most : c.n ≤ 64
  pub masked : c.mask < 2 ^ c.n
  pub few : length c.rows ≤ 64
  pub below : (j : ℕ) → j < length c.rows → get_or c.rows j 0 < 2 ^ c.n

in-range : (s : List ℕ) → Accepts s → InRange (contents s)
unfolding contents
in-range s a =
    let cover = cover_in (cover_front (lines s)) in
    let ls = drop 1 (lines s) in
    let n = length-range cover.n a.range in
    record {
      least = n.0;
      most = n.1;
      masked = mask_below cover.n cover.order ls;
      few = few-case (length (contents s).rows) (ltb 64 (length (contents s).rows)) refl a.few;
      below = rows-below cover.n cover.order (drop (masks_in (mask_front cover.n cover.order ls)) ls);
    }

pub sheet-in-range : (s : List ℕ) (c : Contents) → reading s ≡ says c → InRange c
sheet-in-range s c e = let a = accepted s c e in rw (← a.1) (in-range s (all_pass s a.0))
