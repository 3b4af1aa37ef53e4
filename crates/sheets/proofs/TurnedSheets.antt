-- A sheet that is not refused and the same sheet turned say the same, but for the cover's last word.
use Rattle.std.proofs.Common.{Option, Some, None, Result, Ok, Err}
use Rattle.plates.specs.declared.Kind.{Kind}
use Prim.Native.Nat.{ℕ, ◌+◌, ◌≤◌}
use borrow.Author.Tests.{le-ltb}
use lib.ListN.{length, drop}
use mathlib.Core.Bool.{Bool, true, false, cond}
use mathlib.Core.List.{List, [], ◌∷◌}
use mathlib.Core.Path.{◌≡◌, refl, sym, ◌∙◌, ap}
use native.Mathlib.Omega.{arith}
use Rattle.sheets.specs.declared.line.Fault.{Fault}
use Rattle.sheets.specs.Text.{fields, lines}
use Rattle.sheets.specs.Words.{same, first, last, word_of}
use Rattle.sheets.specs.Numbers.{number_of}
use Rattle.sheets.specs.Turning.{by_position}
use Rattle.sheets.specs.Blocks.{blocks_of, counters_of, heard_front}
use Rattle.sheets.specs.Covers.{kind_of, order_of, cover_is, cover_fields, cover_rest, cover_by, cover_of}
use Rattle.sheets.specs.Lines.{came_after, rows_of}
use Rattle.sheets.specs.Masks.{mask_front, mask_in, masks_in}
use Rattle.sheets.specs.Sheet.{Contents, cover_front, cover_in, contents, contents_of, contents_with, says, reading}
use Rattle.sheets.specs.Sheet.{bad_by, cover_bad, ending_after, line_bad, line_verdict, verdict}
use Rattle.sheets.specs.Turned.{cover_turned, rest_turned, fields_turned, other_word, other, under_other, LinesTurned, IsTurned}
use Rattle.sheets.specs.declared.Order.{Order}
use Rattle.sheets.specs.declared.Order.TheVariants.{First, Last}
use Rattle.sheets.specs.declared.word.Word.{Word}
use Rattle.sheets.specs.declared.word.Word.TheVariants as W
use Rattle.sheets.specs.declared.cover.Cover.{Cover}
use Rattle.sheets.specs.declared.body.Ending.TheVariants.{Fine}
use Rattle.sheets.proofs.Following.{fine-after}
use Rattle.sheets.proofs.Ranges.{accepted, Accepts, all_pass}
use Rattle.sheets.proofs.TurnedLines.{blocks-turned, counters-turned, drop-turned, fine-turned, heard-turned, mask-turned, rows-turned}
use Rattle.sheets.proofs.Turns.{by-position-length}

-- ---- the cover

abbrev cover_under : Cover → Cover
cover_under cover = record { n = cover.n; kind = cover.kind; order = other cover.order }

order-case : (f : List ℕ) (t u : Bool) (o : Order) → cond t (Some First) (cond u (Some Last) None) ≡ Some o → order_of (cond t last (cond u first f)) ≡ Some (other o)
order-case f true u o e = let q : First ≡ o = cc in ap (λ (p : Order). Some (other p)) q
order-case f false true o e = let q : Last ≡ o = cc in ap (λ (p : Order). Some (other p)) q
order-case f false false o e = let z : ◌≡◌ {A = ℕ} 0 1 = cc in absurd (omega arith)

order-turned : (f : List ℕ) (o : Order) → order_of f ≡ Some o → order_of (other_word f) ≡ Some (other o)
order-turned f o e = order-case f (same f first) (same f last) o e

cover-case : (number : Option ℕ) (kind : Option Kind) (old new : Option Order) (cover : Cover) → ((o : Order) → old ≡ Some o → new ≡ Some (other o))
    → cover_is number kind old ≡ Ok cover → cover_is number kind new ≡ Ok (cover_under cover)
cover-case None kind old new cover g e = let z : ◌≡◌ {A = ℕ} 0 1 = cc in absurd (omega arith)
cover-case (Some n) None old new cover g e = let z : ◌≡◌ {A = ℕ} 0 1 = cc in absurd (omega arith)
cover-case (Some n) (Some kind) None new cover g e = let z : ◌≡◌ {A = ℕ} 0 1 = cc in absurd (omega arith)
cover-case (Some n) (Some kind) (Some o) new cover g e =
    let q : record { n = n; kind = kind; order = o } ≡ cover = cc in
    ap (cover_is (Some n) (Some kind)) (g o refl) ∙ ap (λ (c : Cover). Ok (cover_under c)) q

rest-turned : (fs : List (List ℕ)) (cover : Cover) → cover_rest fs ≡ Ok cover → cover_rest (cover_turned fs) ≡ Ok (cover_under cover)
unfolding cover_fields
rest-turned [] cover e = let z : ◌≡◌ {A = ℕ} 0 1 = cc in absurd (omega arith)
rest-turned (f ∷ []) cover e = let z : ◌≡◌ {A = ℕ} 0 1 = cc in absurd (omega arith)
rest-turned (f ∷ g ∷ []) cover e = let z : ◌≡◌ {A = ℕ} 0 1 = cc in absurd (omega arith)
rest-turned (f ∷ g ∷ h ∷ []) cover e = cover-case (number_of 3 f) (kind_of g) (order_of h) (order_of (other_word h)) cover (order-turned h) e
rest-turned (f ∷ g ∷ h ∷ i ∷ fs) cover e = let z : ◌≡◌ {A = ℕ} 0 1 = cc in absurd (omega arith)

cover-by-word : (w : Word) (fs : List (List ℕ)) (cover : Cover) → cover_by w fs ≡ Ok cover → cover_by w (rest_turned w fs) ≡ Ok (cover_under cover)
cover-by-word W.Cover fs cover e = rest-turned fs cover e
cover-by-word W.Mask fs cover e = let z : ◌≡◌ {A = ℕ} 0 1 = cc in absurd (omega arith)
cover-by-word W.Row fs cover e = let z : ◌≡◌ {A = ℕ} 0 1 = cc in absurd (omega arith)
cover-by-word W.Block fs cover e = let z : ◌≡◌ {A = ℕ} 0 1 = cc in absurd (omega arith)
cover-by-word W.Heard fs cover e = let z : ◌≡◌ {A = ℕ} 0 1 = cc in absurd (omega arith)
cover-by-word W.End fs cover e = let z : ◌≡◌ {A = ℕ} 0 1 = cc in absurd (omega arith)
cover-by-word W.Other fs cover e = let z : ◌≡◌ {A = ℕ} 0 1 = cc in absurd (omega arith)

cover-by-fields : (fs : List (List ℕ)) (cover : Cover) → cover_of fs ≡ Ok cover → cover_of (fields_turned fs) ≡ Ok (cover_under cover)
cover-by-fields [] cover e = let z : ◌≡◌ {A = ℕ} 0 1 = cc in absurd (omega arith)
cover-by-fields (w ∷ fs) cover e = cover-by-word (word_of w) fs cover e

cover-turned : (ls ms : List (List ℕ)) → LinesTurned ls ms → (cover : Cover) → cover_front ls ≡ Ok cover → cover_front ms ≡ Ok (cover_under cover)
cover-turned [] ms h cover e = let z : ◌≡◌ {A = ℕ} 0 1 = cc in absurd (omega arith)
cover-turned (l ∷ []) ms h cover e = let z : ◌≡◌ {A = ℕ} 0 1 = cc in absurd (omega arith)
cover-turned (l ∷ k ∷ ls) [] h cover e = absurd h
cover-turned (l ∷ k ∷ ls) (m ∷ []) h cover e = absurd h.1
cover-turned (l ∷ k ∷ ls) (m ∷ o ∷ ms) h cover e = ap cover_of h.0 ∙ cover-by-fields (fields l) cover e

cover-is : (found : Result Cover Fault) → cover_bad found ≡ Ok tt → found ≡ Ok (cover_in found)
cover-is (Ok cover) e = refl
cover-is (Err f) e = let z : ◌≡◌ {A = ℕ} 0 1 = cc in absurd (omega arith)

-- ---- the whole

-- what the lines after some rows say
abbrev said_by : Cover → ℕ → List ℕ → List (List ℕ) → Contents
said_by cover mask rows left = record {
  n = cover.n;
  kind = cover.kind;
  order = cover.order;
  mask = mask;
  rows = rows;
  heard = heard_front left;
  blocks = by_position cover.order (blocks_of (heard_front left) left);
  counters = counters_of (length (blocks_of (heard_front left) left)) left;
}

module _ (cover : Cover) (mask : ℕ) where
  left-under : (rows : List ℕ) (ls ms : List (List ℕ)) → LinesTurned ls ms → said_by (cover_under cover) mask rows ms ≡ under_other (said_by cover mask rows ls)
  left-under rows ls ms h =
      let o = cover.order in
      let t = heard_front ls in
      let b = blocks-turned t o ls ms h in
      let k : length (blocks_of t ms) ≡ length (blocks_of t ls) =
      sym (by-position-length (other o) (blocks_of t ms)) ∙ ap length b ∙ by-position-length o (blocks_of t ls) in
      let c : counters_of (length (blocks_of t ms)) ms ≡ counters_of (length (blocks_of t ls)) ls =
      ap (λ (j : ℕ). counters_of j ms) k ∙ counters-turned (length (blocks_of t ls)) ls ms h in
      rw (heard-turned ls ms h, b, c)

  with-under : (ls ms : List (List ℕ)) → LinesTurned ls ms → contents_with (cover_under cover) mask ms ≡ under_other (contents_with cover mask ls)
  with-under ls ms h =
      let rows = rows_of cover.n cover.order ls in
      let k = length rows in
      ap (λ (found : List ℕ). said_by (cover_under cover) mask found (drop (length found) ms)) (rows-turned cover.n cover.order ls ms h)
      ∙ left-under rows (drop k ls) (drop k ms) (drop-turned k ls ms h)

contents-under : (cover : Cover) (ls ms : List (List ℕ)) → LinesTurned ls ms → contents_of (cover_under cover) ms ≡ under_other (contents_of cover ls)
contents-under cover ls ms h =
    let found = mask_front cover.n cover.order ls in
    ap (λ (f : Result (Option ℕ) Fault). contents_with (cover_under cover) (mask_in f) (drop (masks_in f) ms)) (mask-turned cover.n cover.order ls ms h)
    ∙ with-under cover (mask_in found) (drop (masks_in found) ls) (drop (masks_in found) ms) (drop-turned (masks_in found) ls ms h)

-- how the lines after the mask end
after-under : (c : Contents) (ls ms : List (List ℕ)) → LinesTurned ls ms → ending_after c ls ≡ Fine → ending_after (under_other c) ms ≡ Fine
after-under c ls ms h e =
    let r = length c.rows in
    let k = length c.blocks in
    let d = drop-turned k (drop r ls) (drop r ms) (drop-turned r ls ms h) in
    fine-turned c.n c.order (came_after c.heard k) (drop k (drop r ls)) (drop k (drop r ms)) d e

-- lines that end as they should are not bad, where the mask is not
bad-under : (found : Result (Option ℕ) Fault) (c : Contents) (ls ms : List (List ℕ)) → LinesTurned ls ms → bad_by found c ls ≡ Ok tt
    → bad_by found (under_other c) ms ≡ Ok tt
bad-under found c ls ms h e =
    let k = masks_in found in
    by found e (after-under c (drop k ls) (drop k ms) (drop-turned k ls ms h) (fine-after found c ls e))
  where
    by : (f : Result (Option ℕ) Fault) → bad_by f c ls ≡ Ok tt → ending_after (under_other c) (drop (masks_in f) ms) ≡ Fine → bad_by f (under_other c) ms ≡ Ok tt
    by (Ok (Some w)) g d = ap (line_verdict (3 + length c.rows + length c.blocks)) d
    by (Ok None) g d = ap (line_verdict (2 + length c.rows + length c.blocks)) d
    by (Err f) g d = g

module _ (s t : List ℕ) (h : IsTurned s t) (short : length t ≤ 32768) (p : Accepts s) where
  abbrev cover : Cover
  cover = cover_in (cover_front (lines s))

  cover-there : cover_front (lines t) ≡ Ok (cover_under cover)
  cover-there = cover-turned (lines s) (lines t) h.turned cover (cover-is (cover_front (lines s)) p.form)

  contents-there : contents t ≡ under_other (contents s)
  unfolding contents
  contents-there =
      ap (λ (found : Result Cover Fault). contents_of (cover_in found) (drop 1 (lines t))) cover-there
      ∙ contents-under cover (drop 1 (lines s)) (drop 1 (lines t)) (drop-turned 1 (lines s) (lines t) h.turned)

  ended-there : line_bad (under_other (contents s)) (drop 1 (lines t)) ≡ Ok tt
  ended-there =
      let c = contents s in
      let ls = drop 1 (lines s) in
      let ms = drop 1 (lines t) in
      let d = drop-turned 1 (lines s) (lines t) h.turned in
      ap (λ (f : Result (Option ℕ) Fault). bad_by f (under_other c) ms) (mask-turned c.n c.order ls ms d)
      ∙ bad-under (mask_front c.n c.order ls) c ls ms d p.ended

  verdict-there : verdict t ≡ Ok tt
  unfolding verdict
  verdict-there = rw (le-ltb 32768 (length t) short, cover-there, contents-there, p.range, ended-there, p.few)

-- the one statement of both cover words: a sheet not refused, and the sheet turned, say the same by position. A turned sheet may be a byte
-- longer, since first has a letter more than last, and has to be within the input's limit itself
pub turned-says : (s t : List ℕ) → IsTurned s t → length t ≤ 32768 → (c : Contents) → reading s ≡ says c → reading t ≡ says (under_other c)
turned-says s t h short c e =
    let a = accepted s c e in
    let p = all_pass s a.0 in
    rw (verdict-there s t h short p, contents-there s t h short p) (ap (λ (d : Contents). says (under_other d)) a.1)
