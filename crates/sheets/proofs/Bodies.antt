-- The lines after the cover and the mask by what was read of them.
use Rattle.std.proofs.Common.{Result}
use Rattle.plates.specs.declared.Refusal.{Refusal}
use Rattle.sheets.specs.declared.Sheet.{Sheet}
use Prim.Native.Nat.{ℕ}
use lib.ListN.{length, drop}
use mathlib.Core.Bool.{Bool}
use mathlib.Core.List.{List}
use mathlib.Core.Path.{◌≡◌, ◌∙◌, ap, sym}
use Rattle.sheets.specs.Text.{lines_from}
use Rattle.sheets.specs.Blocks.{blocks_of, heard_front}
use Rattle.sheets.specs.Lines.{came_after, rows_of, ending_of}
use Rattle.sheets.specs.Sheet.{Contents, contents_with, ending_after}
use Rattle.sheets.specs.Readers.{BlocksRead, RowsRead, closed, lines_reply}
use Rattle.sheets.specs.declared.cover.Cover.{Cover}
use Rattle.sheets.specs.declared.line.Came.{Came}
use Rattle.sheets.specs.declared.body.Ending.{Ending}
use Rattle.sheets.specs.declared.body.Run.{Run}
use Rattle.sheets.proofs.Turns.{by-position-length}

module _ {s : List ℕ} {from : ℕ} (cover : Cover) {rows blocks : Run} {table table' : List ℕ} (p : RowsRead cover.n cover.order s from table rows table')
    {heard : Bool} (t : heard ≡ heard_front (lines_from s rows.next)) (q : BlocksRead heard s rows.next blocks) {came : Came}
    (k : came ≡ came_after heard blocks.count) {ending : Ending} (e : ending ≡ ending_of cover.n cover.order came (lines_from s blocks.next))
    (line mask : ℕ) where
  abbrev ls : List (List ℕ)
  ls = lines_from s from

  abbrev left : List (List ℕ)
  left = drop (length (rows_of cover.n cover.order ls)) ls

  abbrev said : Contents
  said = contents_with cover mask ls

  heard-is : heard ≡ heard_front left
  heard-is = t ∙ ap heard_front p.passed.left

  blocks-are : length (blocks_of heard (lines_from s rows.next)) ≡ length said.blocks
  blocks-are =
      ap (λ (m : List (List ℕ)). length (blocks_of heard m)) p.passed.left
      ∙ ap (λ (h : Bool). length (blocks_of h left)) heard-is
      ∙ sym (by-position-length cover.order (blocks_of (heard_front left) left))

  -- the reply, by how they end
  pub lines_are : {r : Result Sheet Refusal}
      → r
      ≡ closed line
      (record {
        n = cover.n;
        kind = cover.kind;
        order = cover.order;
        mask = mask;
        rows = rows.count;
        start = rows.next;
        heard = heard;
        blocks = blocks.count;
      })
      ending
      → r ≡ lines_reply from line cover mask ls
  lines_are g =
      let c : blocks.count ≡ length said.blocks = q.count ∙ blocks-are in
      let l : lines_from s blocks.next ≡ drop (length said.blocks) left = q.left ∙ (rw (blocks-are, p.passed.left)) in
      let d : ending ≡ ending_after said ls = e ∙ (rw (k, c, l, heard-is)) in
      g ∙ (rw (p.passed.count, p.passed.next, c, d, heard-is))
