-- A whole sheet by what was read of it.
use Rattle.std.proofs.Common.{Option, Some, None, Result, Ok, Err}
use Prim.Native.Nat.{ℕ, zero, suc, ◌+◌, ◌-◌, ◌≤◌, ◌<◌}
use borrow.Author.Tests.{lt-ltb, le-ltb}
use lib.ListN.{length, take, drop}
use mathlib.Core.List.{List, [], ◌∷◌}
use mathlib.Core.Path.{◌≡◌, refl, sym, ◌∙◌, ap}
use native.Mathlib.Nat.{zero-add}
use native.Mathlib.Omega.{arith}
use Rattle.plates.specs.declared.Refusal.{Refusal}
use Rattle.plates.specs.declared.Refusal.TheVariants.{InputTooLong}
use Rattle.sheets.specs.declared.line.Fault.{Fault}
use Rattle.sheets.specs.Text.{line_feed, lines, lines_from, begins}
use Rattle.sheets.specs.Masks.{mask_front, mask_in, masks_in}
use Rattle.sheets.specs.Sheet.{Contents, cover_front, cover_in, contents_with, contents_of, contents, cover_bad, length_bad, bad_by, line_bad, rows_too_many}
use Rattle.sheets.specs.Sheet.{first_refusal, verdict, reading_by, sheet_at, start_of, sheet_reply, table_after, ReadsSheet}
use Rattle.sheets.specs.Readers.{BodyBy, BodyRead, HeadIs, reply_by, table_by}
use Rattle.sheets.specs.declared.Sheet.{Sheet}
use Rattle.sheets.specs.declared.cover.Cover.{Cover}
use Rattle.sheets.proofs.Parts.{from_start}
use Rattle.sheets.proofs.Passing.{line-split, line-length}

-- ---- the reply and the table by the verdict

reply-by : (s : List ℕ) (v : Result (Unit {0}) Refusal) (c : Contents) → sheet_reply s (reading_by v c) ≡ reply_by v (sheet_at (start_of s c) c)
reply-by s (Ok _) c = refl
reply-by s (Err q) c = refl

table-by : (table : List ℕ) (v : Result (Unit {0}) Refusal) (c : Contents) (sheet : Sheet) → table_after table (reading_by v c) ≡ table_by (reply_by v sheet) c.rows table
table-by table (Ok _) c sheet = refl
table-by table (Err q) c sheet = refl

-- a refusal leaves the table as it was
refused-reads : (s table : List ℕ) (q : Refusal) → verdict s ≡ Err q → ReadsSheet s table (Err q) table
refused-reads s table q e = record { reply = rw e; rows = rw e }

-- further conditions do not matter after a refusal
first-of-two : (v w : Result (Unit {0}) Refusal) (vs : List (Result (Unit {0}) Refusal)) (q : Refusal) → first_refusal (v ∷ w ∷ []) ≡ Err q → first_refusal (v ∷ w ∷ vs) ≡ Err q
first-of-two (Ok _) (Ok _) vs q e = cc
first-of-two (Ok _) (Err p) vs q e = e
first-of-two (Err p) w vs q e = e

-- ---- the mask, and the lines after it

-- where the lines after the first begin
begins-after : (ls : List (List ℕ)) (k : ℕ) → begins ls 1 + begins (drop 1 ls) k ≡ begins ls (1 + k)
begins-after [] zero = refl
begins-after [] (suc k) = let z : 1 + suc k ≡ suc (suc k) = omega arith in rw z
begins-after (l ∷ ls) k = let z : 1 + k ≡ suc k = omega arith in rw z (omega arith)

module _ (from : ℕ) (cover : Cover) (ls : List (List ℕ)) (table : List ℕ) (r : Result Sheet Refusal) (table' : List ℕ) where
  -- the reply and the table by the line after the cover
  by_mask : (found : Result (Option ℕ) Fault) → BodyBy found from cover ls table r table' → let c = contents_with cover (mask_in found) (drop (masks_in found) ls) in
      (r ≡ reply_by (first_refusal (bad_by found c ls ∷ rows_too_many (length c.rows) ∷ [])) (sheet_at (from + begins ls (masks_in found + length c.rows)) c))
      × (table' ≡ table_by r c.rows table)
  by_mask (Ok (Some w)) b =
      let k = length (contents_with cover w (drop 1 ls)).rows in
      let e : from + begins ls 1 + begins (drop 1 ls) k ≡ from + begins ls (1 + k) = omega (arith, begins-after ls k) in
      (rw e at b.reply, b.kept)
  by_mask (Ok None) b = let e = zero-add (length (contents_with cover 0 ls).rows) in (rw e b.reply, b.kept)
  by_mask (Err fault) b = (b.0, rw b.0 b.1)

-- ---- the cases of a sheet

-- it is too long
pub sheet-long : (s table : List ℕ) → 32768 < length s → ReadsSheet s table (Err InputTooLong) table
unfolding verdict
sheet-long s table h = refused-reads s table InputTooLong (rw (lt-ltb 32768 (length s) h))

module _ (s table : List ℕ) (h : length s ≤ 32768) where
  -- its head is refused
  pub sheet-head : (q : Refusal)
      → first_refusal (cover_bad (cover_front (lines s)) ∷ length_bad (cover_in (cover_front (lines s))).n ∷ []) ≡ Err q
      → ReadsSheet s table (Err q) table
  unfolding verdict contents
  sheet-head q e =
      let c = contents s in
      let more = line_bad c (drop 1 (lines s)) ∷ rows_too_many (length c.rows) ∷ [] in
      refused-reads s table q (rw (le-ltb 32768 (length s) h) (first-of-two (cover_bad (cover_front (lines s))) (length_bad c.n) more q e))

  module _ (cover : Cover) (from : ℕ) (i : HeadIs s cover from) where
    -- the lines are the cover and those after it
    split : lines s ≡ take (from - 1 - 0) (drop 0 s) ∷ lines_from s from
    split = sym (from_start line_feed s) ∙ line-split i.ended

    abbrev said : Contents
    said = contents_of cover (lines_from s from)

    contents-are : contents s ≡ said
    unfolding contents
    contents-are = rw (i.form, split)

    abbrev left : Result (Unit {0}) Refusal
    left = first_refusal (line_bad said (lines_from s from) ∷ rows_too_many (length said.rows) ∷ [])

    verdict-is : verdict s ≡ left
    unfolding verdict
    verdict-is = rw (le-ltb 32768 (length s) h, contents-are, i.form, split, i.range)

    abbrev found : Result (Option ℕ) Fault
    found = mask_front cover.n cover.order (lines_from s from)

    start_is : start_of s said ≡ from + begins (lines_from s from) (masks_in found + length said.rows)
    start_is = let n = line-length i.ended in rw split (omega arith)

    -- its head is read, and what follows decides
    pub sheet-body : (r : Result Sheet Refusal) (table' : List ℕ) → BodyRead s from cover table r table' → ReadsSheet s table r table'
    sheet-body r table' b =
        let w = by_mask from cover (lines_from s from) table r table' found b.by in
        let start = from + begins (lines_from s from) (masks_in found + length said.rows) in
        record {
          reply = rw (contents-are, verdict-is) (w.0 ∙ sym (reply-by s left said ∙ ap (λ (p : ℕ). reply_by left (sheet_at p said)) start_is));
          rows =
              rw (contents-are, verdict-is)
              (w.1 ∙ ap (λ (q : Result Sheet Refusal). table_by q said.rows table) w.0 ∙ sym (table-by table left said (sheet_at start said)));
        }
