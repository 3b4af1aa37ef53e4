-- The block lines of a sheet are where reading one after the other leads, so that they can be produced one by one.
use Rattle.std.proofs.Common.{Option, Some, None, Result, Ok, Err}
use Prim.Native.Nat.{ℕ, zero, suc, ◌+◌, ◌-◌, ◌≤◌, ◌<◌}
use borrow.Author.Tests.{leb-true, leb-false}
use lib.Dec.{eqb, leb}
use lib.IntN.{ℤ}
use lib.ListN.{length, take, drop, get_or, length-drop}
use lib.Seq.{drop-drop, drop-nil}
use mathlib.Core.Bool.{Bool, true, false, cond}
use mathlib.Core.List.{List, [], ◌∷◌}
use mathlib.Core.Logic.{⊎_elim}
use mathlib.Core.Path.{◌≡◌, refl, sym, ◌∙◌, ap}
use native.Mathlib.Nat.{zero-add, eq-or-lt_of_le}
use native.Mathlib.Omega.{arith}
use Rattle.sheets.specs.declared.line.Fault.{Fault}
use Rattle.sheets.specs.Text.{line_feed, till, lines, lines_from, begins}
use Rattle.sheets.specs.Blocks.{BlockFound, block, no_block, blocks_of, counters_of, counter_at, counter_front, block_at, next_line, block_place}
use Rattle.sheets.specs.Masks.{mask_front, masks_in}
use Rattle.sheets.specs.Sheet.{Contents, bad_by, contents, ending_after, line_verdict, masks_of, start_of, says, reading}
use Rattle.sheets.specs.Turning.{by_position, in_order}
use Rattle.sheets.specs.Readers.{Ended, Until}
use Rattle.sheets.specs.declared.Order.{Order}
use Rattle.sheets.specs.declared.line.Fault.TheVariants.{Missing}
use Rattle.sheets.specs.declared.body.Ending.{Ending}
use Rattle.sheets.specs.declared.body.Ending.TheVariants.{Fine, NoEnd, After}
use Rattle.sheets.proofs.Parts.{from_start, from-none, from_more, from_last, part_length}
use Rattle.sheets.proofs.Passing.{line-split}
use Rattle.sheets.proofs.Endings.{line-closed}
use Rattle.sheets.proofs.BlockPlaces.{next_is}
use Rattle.sheets.proofs.BlockRuns.{blocks_more, blocks-none}
use Rattle.sheets.proofs.Ranges.{accepted, Accepts, all_pass}
use Rattle.sheets.proofs.Turns.{by-position-entry, by-position-length}

-- ---- where a line ends

till-case : (t : Bool) (k m : ℕ) → k ≤ m → cond t 0 (suc k) ≤ suc m
till-case true k m h = omega arith
till-case false k m h = omega arith

till-small : (b : ℕ) (s : List ℕ) → till b s ≤ length s
till-small b [] = omega arith
till-small b (x ∷ xs) = till-case (eqb x b) (till b xs) (length xs) (till-small b xs)

pub until-there : (b : ℕ) (s : List ℕ) (at : ℕ) → at ≤ length s → Until b s at (at + till b (drop at s))
until-there b s at h =
    let t = rw length-drop at (till-small b (drop at s)) in
    record { is = refl; low = omega arith; high = omega arith }

-- ---- one block line after another

no-block : {A : Type 0} {vs : List ℤ} → no_block ≡ block vs → A
no-block e = let z : ◌≡◌ {A = ℕ} 0 1 = cc in absurd (omega arith)

module _ (heard : Bool) (s : List ℕ) (at : ℕ) where
  -- a block line is ended
  pub block-ended : (vs : List ℤ) → block_at heard s at ≡ block vs → Ended s at (next_line s at)
  block-ended vs e = by (leb at (length s)) refl
    where
      by : (t : Bool) → leb at (length s) ≡ t → Ended s at (next_line s at)
      by true q =
          let h = leb-true at (length s) q in
          let r = at + till line_feed (drop at s) in
          let u = until-there line_feed s at h in
          rw (next_is s at r h u) (line-closed s at r u (λ z. no-block (rw (from_last line_feed s at r h u z) at e)))
      by false q = no-block (rw (from-none line_feed s at (leb-false at (length s) q)) at e)

  -- a block line, and those after it
  pub block-first : (vs : List ℤ) → block_at heard s at ≡ block vs → blocks_of heard (lines_from s at) ≡ vs ∷ blocks_of heard (lines_from s (next_line s at))
  block-first vs e = blocks_more heard (lines_from s at) vs (line-split (block-ended vs e)) e

  -- no block line there, and so no more
  pub block_none : block_at heard s at ≡ no_block → blocks_of heard (lines_from s at) ≡ []
  block_none e = blocks-none heard (lines_from s at) e

  -- the counters of these lines
  abbrev pub counters_from : List ℕ
  counters_from = counters_of (length (blocks_of heard (lines_from s at))) (lines_from s at)

  pub counters-none : block_at heard s at ≡ no_block → counters_from ≡ []
  counters-none e = ap (λ (bs : List (List ℤ)). counters_of (length bs) (lines_from s at)) (block_none e)

-- the counter of a line, and those of the lines after it
pub counters-first : (heard : Bool) (s : List ℕ) (at : ℕ) (vs : List ℤ) → block_at heard s at ≡ block vs
    → counters_from heard s at ≡ counter_at s at ∷ counters_from heard s (next_line s at)
counters-first heard s at vs e =
    let next = next_line s at in
    let l = line-split (block-ended heard s at vs e) in
    ap (λ (bs : List (List ℤ)). counters_of (length bs) (lines_from s at)) (block-first heard s at vs e)
    ∙ ap (counters_of (suc (length (blocks_of heard (lines_from s next))))) l
    ∙ ap (λ (ls : List (List ℕ)). counter_front ls ∷ counters_from heard s next) (sym l)

-- the k-th block line from a place on is where reading k block lines leads
abbrev There : Bool → List ℕ → ℕ → ℕ → Type 0
There heard s at k = k < length (blocks_of heard (lines_from s at)) → block_at heard s (block_place s at k) ≡ block (get_or (blocks_of heard (lines_from s at)) k [])

module _ (heard : Bool) (s : List ℕ) (at : ℕ) where
  there-first : (b : BlockFound) → block_at heard s at ≡ b → There heard s at 0
  there-first (block vs) e h = rw (block-first heard s at vs e) e
  there-first no_block e h = absurd (omega (arith, ap length (block_none heard s at e)))

  there-next : (k : ℕ) (b : BlockFound) → block_at heard s at ≡ b → There heard s (next_line s at) k → There heard s at (suc k)
  there-next k (block vs) e t h = rw (block-first heard s at vs e) (t (omega (arith, ap length (block-first heard s at vs e))))
  there-next k no_block e t h = absurd (omega (arith, ap length (block_none heard s at e)))

pub block-follows : (heard : Bool) (s : List ℕ) (at k : ℕ) → There heard s at k
block-follows heard s at zero = there-first heard s at (block_at heard s at) refl
block-follows heard s at (suc k) = there-next heard s at k (block_at heard s at) refl (block-follows heard s (next_line s at) k)

-- after the last there is none
abbrev Last : Bool → List ℕ → ℕ → ℕ → Type 0
Last heard s at k = length (blocks_of heard (lines_from s at)) ≡ k → block_at heard s (block_place s at k) ≡ no_block

module _ (heard : Bool) (s : List ℕ) (at : ℕ) where
  last-here : (b : BlockFound) → block_at heard s at ≡ b → Last heard s at 0
  last-here (block vs) e h = absurd (omega (arith, ap length (block-first heard s at vs e)))
  last-here no_block e h = e

  last-later : (k : ℕ) (b : BlockFound) → block_at heard s at ≡ b → Last heard s (next_line s at) k → Last heard s at (suc k)
  last-later k (block vs) e t h = t (omega (arith, ap length (block-first heard s at vs e)))
  last-later k no_block e t h = absurd (omega (arith, ap length (block_none heard s at e)))

pub blocks_end : (heard : Bool) (s : List ℕ) (at k : ℕ) → Last heard s at k
blocks_end heard s at zero = last-here heard s at (block_at heard s at) refl
blocks_end heard s at (suc k) = last-later heard s at k (block_at heard s at) refl (blocks_end heard s (next_line s at) k)

-- ---- the first block line of a sheet

-- the lines from line k on are those from the place where it begins
abbrev From : List ℕ → ℕ → ℕ → Type 0
From s at k = (drop k (lines_from s at) ≡ [] → ⊥) → lines_from s (at + begins (lines_from s at) k) ≡ drop k (lines_from s at)

module _ (s : List ℕ) (at : ℕ) (h : at ≤ length s) where
  abbrev end : ℕ
  end = at + till line_feed (drop at s)

  ends : Until line_feed s at end
  ends = until-there line_feed s at h

  more : lines_from s at ≡ take (end - at) (drop at s) ∷ lines_from s (end + 1)
  more = from_more line_feed s at end h ends

  from_next : (k : ℕ) → (end + 1 ≤ length s → From s (end + 1) k) → From s at (suc k)
  from_next k f n =
      let p : at + (length (take (end - at) (drop at s)) + 1 + begins (lines_from s (end + 1)) k) ≡ end + 1 + begins (lines_from s (end + 1)) k =
      omega (arith, part_length line_feed s at end h ends) in
      rw more (ap (lines_from s) p ∙ f inside (λ z. n (rw more z)))
    where
      inside : end + 1 ≤ length s
      inside = ⊎_elim (λ q. absurd (n (rw (more, from-none line_feed s (end + 1) (omega (arith, q)), drop-nil k)))) (λ l. omega (arith, l)) (eq-or-lt_of_le ends.high)

from-line : (s : List ℕ) (at k : ℕ) → at ≤ length s → From s at k
from-line s at zero h = λ n. ap (lines_from s) (omega arith)
from-line s at (suc k) h = from_next s at h k (λ l. from-line s (at + till line_feed (drop at s) + 1) k l)

-- the same from the first line on
from_first : (s : List ℕ) (k : ℕ) → (drop k (lines s) ≡ [] → ⊥) → lines_from s (begins (lines s) k) ≡ drop k (lines s)
from_first s k n =
    rw (← (zero-add (begins (lines s) k)), ← (from_start line_feed s)) (from-line s 0 k (omega arith) (λ e. n (rw (from_start line_feed s) at e)))

drop-one : (k : ℕ) (ls : List (List ℕ)) → drop k (drop 1 ls) ≡ drop (suc k) ls
drop-one k [] = drop-nil k
drop-one k (l ∷ ls) = refl

fine-case : (line : ℕ) (d : Ending) → line_verdict line d ≡ Ok tt → d ≡ Fine
fine-case line Fine e = refl
fine-case line (NoEnd f) e = let z : ◌≡◌ {A = ℕ} 0 1 = cc in absurd (omega arith)
fine-case line (After f) e = let z : ◌≡◌ {A = ℕ} 0 1 = cc in absurd (omega arith)

-- lines of which none is bad end as they should, after the mask
pub fine-after : (found : Result (Option ℕ) Fault) (c : Contents) (ls : List (List ℕ)) → bad_by found c ls ≡ Ok tt → ending_after c (drop (masks_in found) ls) ≡ Fine
fine-after (Ok (Some w)) c ls e = fine-case _ _ e
fine-after (Ok None) c ls e = fine-case _ _ e
fine-after (Err f) c ls e = let z : ◌≡◌ {A = ℕ} 0 1 = cc in absurd (omega arith)

module _ (s : List ℕ) (a : Accepts s) where
  abbrev masks : ℕ
  masks = masks_of s (contents s)

  abbrev rows : ℕ
  rows = length (contents s).rows

  -- the lines after the mask and the rows
  dropped : drop rows (drop masks (drop 1 (lines s))) ≡ drop (suc (masks + rows)) (lines s)
  dropped = drop-drop rows masks (drop 1 (lines s)) ∙ drop-one (masks + rows) (lines s)

  -- there is one
  line-left : drop (suc (masks + rows)) (lines s) ≡ [] → ⊥
  line-left e =
      let c = contents s in
      let f = fine-after (mask_front c.n c.order (drop 1 (lines s))) c (drop 1 (lines s)) a.ended in
      let g = rw (dropped, e, drop-nil (length c.blocks)) at f in
      never g
    where
      never : NoEnd Missing ≡ Fine → ⊥
      never q = let z : ◌≡◌ {A = ℕ} 0 1 = cc in omega arith

  -- they are those from the start on
  lines-from-start : lines_from s (start_of s (contents s)) ≡ drop rows (drop masks (drop 1 (lines s)))
  lines-from-start = from_first s (suc (masks + rows)) line-left ∙ sym dropped

start-case : (s : List ℕ) → Accepts s → by_position (contents s).order (blocks_of (contents s).heard (lines_from s (start_of s (contents s)))) ≡ (contents s).blocks
unfolding contents
start-case s a = ap (λ (ls : List (List ℕ)). by_position (contents s).order (blocks_of (contents s).heard ls)) (lines-from-start s a)

-- the blocks of a sheet are the block or heard lines from its start on, in order of position
pub blocks-from-start : (s : List ℕ) (c : Contents) → reading s ≡ says c → by_position c.order (blocks_of c.heard (lines_from s (start_of s c))) ≡ c.blocks
blocks-from-start s c e = let a = accepted s c e in rw (← a.1) (start-case s (all_pass s a.0))

counters-case : (s : List ℕ) → Accepts s → counters_from (contents s).heard s (start_of s (contents s)) ≡ (contents s).counters
unfolding contents
counters-case s a =
    ap (λ (ls : List (List ℕ)). counters_of (length (blocks_of (contents s).heard ls)) ls) (lines-from-start s a)

-- and its counters are those of these lines
pub counters-from-start : (s : List ℕ) (c : Contents) → reading s ≡ says c → counters_from c.heard s (start_of s c) ≡ c.counters
counters-from-start s c e = let a = accepted s c e in rw (← a.1) (counters-case s (all_pass s a.0))

-- as many as these are
pub blocks-counted : (s : List ℕ) (c : Contents) → reading s ≡ says c → length (blocks_of c.heard (lines_from s (start_of s c))) ≡ length c.blocks
blocks-counted s c e = sym (by-position-length c.order (blocks_of c.heard (lines_from s (start_of s c)))) ∙ ap length (blocks-from-start s c e)

-- the block or heard line that is found at a place lists these samples
pub record ListedAt (heard : Bool) (s : List ℕ) (at : ℕ) (order : Order) (samples : List ℤ) : Type 0 where
  pub listed : List ℤ
  pub found : block_at heard s at ≡ block listed
  pub turned : samples ≡ in_order order listed

-- block or heard line k of a sheet is where reading k of these lines from its start leads
pub sheet-block : (s : List ℕ) (c : Contents) → reading s ≡ says c → (k : ℕ) → k < length c.blocks
    → ListedAt c.heard s (block_place s (start_of s c) k) c.order (get_or c.blocks k [])
sheet-block s c e k h =
    let at = start_of s c in
    let few : k < length (blocks_of c.heard (lines_from s at)) = omega (arith, blocks-counted s c e) in
    record {
      listed = get_or (blocks_of c.heard (lines_from s at)) k [];
      found = block-follows c.heard s at k few;
      turned = ap (λ (bs : List (List ℤ)). get_or bs k []) (sym (blocks-from-start s c e)) ∙ by-position-entry c.order (blocks_of c.heard (lines_from s at)) k few;
    }

-- and after the last of them there is none
pub sheet-blocks-end : (s : List ℕ) (c : Contents) → reading s ≡ says c → block_at c.heard s (block_place s (start_of s c) (length c.blocks)) ≡ no_block
sheet-blocks-end s c e = blocks_end c.heard s (start_of s c) (length c.blocks) (blocks-counted s c e)
