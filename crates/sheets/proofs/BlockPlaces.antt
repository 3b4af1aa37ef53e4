-- The block line at a place, by what was read there.
use Rattle.sheets.specs.Made.{sample_line_of}
use Rattle.std.proofs.Common.{Result, Ok, Err, Option, Some, None}
use Rattle.sheets.specs.declared.SampleLine.{SampleLine}
use Prim.Native.Nat.{ℕ, ◌+◌, ◌-◌, ◌≤◌, ◌<◌}
use lib.IntN.{ℤ}
use lib.ListN.{length, take, drop}
use mathlib.Core.Bool.{Bool, true, false, cond}
use mathlib.Core.List.{List, [], ◌∷◌}
use mathlib.Core.Path.{◌≡◌, refl, sym, ◌∙◌, ap}
use native.Mathlib.Omega.{arith}
use Rattle.sheets.specs.Text.{line_feed, fields}
use Rattle.sheets.specs.Numbers.{counter_of, is_number, sample_of}
use Rattle.sheets.specs.Words.{word_of}
use Rattle.sheets.specs.Blocks.{is_sample, samples_of, values_of, heard_rest, block_by, block_line, values_after, listed_in, BlockFound, block, no_block, samples_found, block_at, next_line, block_reply, placed, room_after}
use Rattle.sheets.specs.Readers.{BlockRead, Ended, Until}
use Rattle.sheets.specs.declared.Order.{Order}
use Rattle.sheets.specs.declared.word.Word.{Word}
use Rattle.sheets.specs.declared.word.Word.TheVariants.{Cover, Mask, Row, Block, Heard, End, Other}
use Rattle.sheets.proofs.Parts.{from_more, from-none, from_some, from_last, part_length}

-- the numbers of a line that was read; 0 for none
abbrev pub counted_in : Option SampleLine → ℕ
counted_in (Some l) = l.samples
counted_in None = 0

abbrev pub next_of : Option SampleLine → ℕ
next_of (Some l) = l.next
next_of None = 0

-- ---- the count of the samples is the number of their values

impossible : {A : Type 0} {f k : ℕ} → Err f ≡ Ok k → A
impossible q = let z : ◌≡◌ {A = ℕ} 0 1 = cc in absurd (omega arith)

count-case : (t : Bool) (lead j k v : ℕ) (d : Result ℕ ℕ) → (d ≡ Ok k → j + 1 + v ≡ k) → cond t d (Err (j + lead)) ≡ Ok k → j + (1 + v) ≡ k
count-case true lead j k v d h e = let q = h e in omega arith
count-case false lead j k v d h e = impossible e

counts : (lead j k : ℕ) (fs : List (List ℕ)) → samples_of lead j fs ≡ Ok k → j + length (values_of fs) ≡ k
counts lead j k [] e = let q : j ≡ k = cc in omega arith
counts lead j k (f ∷ fs) e =
    let q = count-case (is_sample (sample_of f)) lead j k (length (values_of fs)) (samples_of lead (j + 1) fs) (counts lead (j + 1) k fs) e in omega arith

heard-counts : (fs : List (List ℕ)) (k : ℕ) → heard_rest fs ≡ Ok k → length (values_of (drop 1 fs)) ≡ k
heard-counts [] k e = impossible e
heard-counts (f ∷ fs) k e = by (is_number (counter_of f)) e
  where
    by : (t : Bool) → cond t (samples_of 3 0 fs) (Err 2) ≡ Ok k → length (values_of fs) ≡ k
    by true g = let q = counts 3 0 k fs g in omega arith
    by false g = impossible g

word_counts : (heard : Bool) (w : Word) (fs : List (List ℕ)) (k : ℕ) → block_by heard w fs ≡ Ok k → length (values_after heard fs) ≡ k
word_counts heard Cover fs k e = impossible e
word_counts heard Mask fs k e = impossible e
word_counts heard Row fs k e = impossible e
word_counts false Block fs k e = let q = counts 2 0 k fs e in omega arith
word_counts true Block fs k e = impossible e
word_counts false Heard fs k e = impossible e
word_counts true Heard fs k e = heard-counts fs k e
word_counts heard End fs k e = impossible e
word_counts heard Other fs k e = impossible e

pub line-counts : (heard : Bool) (fs : List (List ℕ)) (k : ℕ) → block_line heard fs ≡ Ok k → length (listed_in heard fs) ≡ k
line-counts heard [] k e = impossible e
line-counts heard (w ∷ fs) k e = word_counts heard (word_of w) fs k e

-- ---- the place

no-reply : {A : Type 0} {k next : ℕ} → None ≡ Some (sample_line_of k next) → A
no-reply q = let z : ◌≡◌ {A = ℕ} 0 1 = cc in absurd (omega arith)

-- no block line is there
none_read : (heard : Bool) (s : List ℕ) (at : ℕ) → block_at heard s at ≡ no_block → BlockRead heard s at None
none_read heard s at e = record { reply = rw e; place = λ k next q. no-reply q }

-- then the room stays as it was
pub room-stays : (order : Order) (b : BlockFound) (next : ℕ) (room : List ℤ) → None ≡ block_reply next b → room ≡ room_after order room b
room-stays order (block vs) next room q = no-reply q
room-stays order no_block next room q = refl

-- past the end there is no line
pub past_end : (heard : Bool) (s : List ℕ) (at : ℕ) → length s < at → BlockRead heard s at None
past_end heard s at h = none_read heard s at (rw (from-none line_feed s at h))

-- the place of the line after
pub next_is : (s : List ℕ) (at r : ℕ) → at ≤ length s → Until line_feed s at r → next_line s at ≡ r + 1
next_is s at r h u = rw (from_more line_feed s at r h u, part_length line_feed s at r h u) (omega arith)

module _ (heard : Bool) (s : List ℕ) (at r : ℕ) (h : at ≤ length s) (u : Until line_feed s at r) where
  -- a line that is not ended
  pub open-line : r ≡ length s → BlockRead heard s at None
  open-line e = none_read heard s at (rw (from_last line_feed s at r h u e))

  abbrev text : List ℕ
  text = take (r - at) (drop at s)

  module _ (n : r ≡ length s → ⊥) where
    after : r + 1 ≤ length s
    after = omega (arith, n)

    -- a line that is ended
    found : block_at heard s at ≡ samples_found (block_line heard (fields text)) (listed_in heard (fields text))
    found = rw (from_more line_feed s at r h u, from_some line_feed s (r + 1) after)

    pub no-block-there : (f : ℕ) → block_line heard (fields text) ≡ Err f → BlockRead heard s at None
    no-block-there f e = none_read heard s at (rw (found, e))

    ended : (next : ℕ) → r + 1 ≡ next → Ended s at next
    ended next e =
        let q : r ≡ next - 1 = omega arith in
        record { low = omega arith; high = omega arith; until = rw (← q) u }

    pub block-there : (k : ℕ) → block_line heard (fields text) ≡ Ok k → BlockRead heard s at (Some (sample_line_of k (r + 1)))
    block-there k e = record {
      reply = rw (next_is s at r h u, found, e) (ap (λ (m : ℕ). Some (sample_line_of m (r + 1))) (sym (line-counts heard (fields text) k e)));
      place = λ j next q. ended next (place_of q);
    }
      where
        place_of : {j next : ℕ} → Some (sample_line_of k (r + 1)) ≡ Some (sample_line_of j next) → r + 1 ≡ next
        place_of q = ap next_of q

    module _ (k next : ℕ) (e : Some (sample_line_of k next) ≡ block_reply (next_line s at) (block_at heard s at)) where
      -- it has as many samples as were counted
      pub counted-there : block_line heard (fields text) ≡ Ok k
      counted-there = by (block_line heard (fields text)) refl
        where
          by : (d : Result ℕ ℕ) → block_line heard (fields text) ≡ d → block_line heard (fields text) ≡ Ok k
          by (Ok j) g =
              let f : Some (sample_line_of k next) ≡ Some (sample_line_of (length (listed_in heard (fields text))) (next_line s at)) = rw (found, g) at e in
              let c : k ≡ length (listed_in heard (fields text)) = ap counted_in f in
              g ∙ ap Ok (sym (c ∙ line-counts heard (fields text) j g))
          by (Err f) g = no-reply (sym (rw (found, g) at e))

      -- its samples in their places
      pub placed-there : (order : Order) (room room' : List ℤ) → room' ≡ placed order (listed_in heard (fields text)) room → room' ≡ room_after order room (block_at heard s at)
      placed-there order room room' t = rw (found, counted-there) t
