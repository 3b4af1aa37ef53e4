-- A report that was just opened: what is left of it is the whole of its input's report, and how many lines that is.
use Rattle.plates.specs.declared.Refusal.{Refusal}
use Rattle.std.proofs.Common.{◌≡◌, ℕ, suc, ◌≤◌, Bool, true, false, cond, eqb, ltb, leb, List, [], ◌∷◌, length, drop, ℤ, sym, refl, ap, subst, arith, length-drop, ltb-false, Result, Ok, Err}
use Rattle.plates.specs.declared.Plate.{Plate}
use Rattle.plates.specs.declared.Prepared.{Prepared}
use Rattle.plates.specs.declared.Refusal.TheVariants.{InputTooLong}
use Rattle.plates.specs.Prepare.{Prepares}
use Rattle.trellises.proofs.AcceptedIsPrepared.{accepted-prepared}
use Rattle.sheets.proofs.Following.{blocks-counted, blocks-from-start, counters-from-start, counters_from}
use Rattle.sheets.proofs.Ranges.{accepted, all_pass}
use Rattle.sheets.specs.Blocks.{BlockFound, block, block_front, block_then, blocks_of, no_block}
use Rattle.sheets.specs.declared.Order.{Order}
use Rattle.sheets.specs.Sheet.{Contents, Reading, says, refused, reading, start_of}
use Rattle.sheets.specs.Text.{lines_from, onto, parts, line_feed}
use Rattle.reports.specs.declared.Report.{Report}
use Rattle.reports.specs.declared.Stage.TheVariants as S
use Rattle.reports.specs.Listing.{LeavesAs, PreparedLeaves}
use Rattle.reports.specs.Remaining.{BlocksLeave, HasRoom, Leaves, Left, Ready, Rooms, count_at, lines_left}
use Rattle.reports.specs.Report.{LinesReport, PlateReports, PreparedReports, ReportsAs, at_first}
use Rattle.reports.specs.Tally.{no_tally}
use Rattle.reports.proofs.TallyLaws.{room-at-first}
use Rattle.reports.specs.Steps.{OpensAs, report_by}

-- ---- how many blocks there may be

onto-count : (x : ℕ) (ps : List (List ℕ)) → length (onto x ps) ≤ suc (length ps)
onto-count x [] = omega arith
onto-count x (p ∷ ps) = omega arith

parts_more : (x : ℕ) (ps : List (List ℕ)) (t : Bool) → length (cond t ([] ∷ ps) (onto x ps)) ≤ suc (length ps)
parts_more x ps true = omega arith
parts_more x ps false = onto-count x ps

-- a text has at most one part more than bytes
parts-count : (b : ℕ) (s : List ℕ) → length (parts b s) ≤ suc (length s)
parts-count b [] = omega arith
parts-count b (x ∷ s) = omega (arith, parts_more x (parts b s) (eqb x b), parts-count b s)

from-count : (s : List ℕ) (at : ℕ) (t : Bool) → length (cond t (parts line_feed (drop at s)) []) ≤ suc (length s)
from-count s at true = omega (arith, parts-count line_feed (drop at s), length-drop at s)
from-count s at false = omega arith

one_block : (found : BlockFound) (bs : List (List ℤ)) (m : ℕ) → length bs ≤ m → length (block_then found bs) ≤ suc m
one_block (block samples) bs m h = omega arith
one_block no_block bs m h = omega arith

blocks-few : (heard : Bool) (ls : List (List ℕ)) → length (blocks_of heard ls) ≤ length ls
blocks-few heard [] = omega arith
blocks-few heard (l ∷ ls) = one_block (block_front heard (l ∷ ls)) (blocks_of heard ls) (length ls) (blocks-few heard ls)

short-case : (k : ℕ) (t : Bool) → ltb 32768 k ≡ t → cond t (Err InputTooLong) (Ok (tt {0})) ≡ Ok tt → k ≤ 32768
short-case k true e f = let z : ◌≡◌ {A = ℕ} 0 1 = cc in absurd (omega arith)
short-case k false e f = ltb-false 32768 k e

-- a sheet that is not refused has at most 32,768 bytes, and so no more block lines than that and one
sheet-small : (input : List ℕ) (c : Contents) → reading input ≡ says c → length c.blocks ≤ 32769
sheet-small input c e =
    let a = all_pass input (accepted input c e).0 in
    omega (
      arith,
      blocks-counted input c e,
      blocks-few c.heard (lines_from input (start_of input c)),
      from-count input (start_of input c) (leb (start_of input c) (length input)),
      short-case (length input) (ltb 32768 (length input)) refl a.short,
    )

verdict-small : (v : Result (Unit {0}) Refusal) (plate : Plate) (order : Order) (at : ℕ) (heard : Bool) (blocks : ℕ) → blocks ≤ 32769 → (report_by v plate order at heard blocks).blocks ≤ 32769
verdict-small (Err q) plate order at heard blocks h = omega arith
verdict-small (Ok _) plate order at heard blocks h = h

-- ---- a sheet that says something

module _ (input : List ℕ) (c : Contents) (e : reading input ≡ says c) (r : Prepared) (p : Prepares c.n c.kind c.rows c.mask r) where
  abbrev opened : Result (Unit {0}) Refusal → Report
  opened v = report_by v r.plate c.order (start_of input c) c.heard (length c.blocks)

  sheet-ready : (v : Result (Unit {0}) Refusal) → r.verdict ≡ v → Ready input (opened v)
  sheet-ready (Err q) a = tt
  sheet-ready (Ok _) a = (
    accepted-prepared c.n c.kind c.rows c.mask r p a,
    subst (λ (b : List (List ℤ)). HasRoom no_tally (length b)) (sym (blocks-from-start input c e)) (room-at-first (length c.blocks) (sheet-small input c e)),
  )

  sheet-reports : (v : Result (Unit {0}) Refusal) (lines : List (List ℕ)) → Left input (opened v) lines → PreparedReports v r.plate c lines
  sheet-reports (Err q) lines l = l
  sheet-reports (Ok _) lines l =
      subst (λ (cs : List ℕ). PlateReports r.plate (LinesReport c.heard c.order r.plate (length c.blocks) at_first cs c.blocks) lines) (counters-from-start input c e)
      (subst (λ (b : List (List ℤ)). PlateReports r.plate
      (LinesReport c.heard c.order r.plate (length c.blocks) at_first (counters_from c.heard input (start_of input c)) b) lines) (blocks-from-start input c e) l)

  sheet-leaves : (v : Result (Unit {0}) Refusal) (before after : Rooms) → Leaves input (opened v) before after → PreparedLeaves v r.plate c.blocks before after
  sheet-leaves (Err q) before after l = l
  sheet-leaves (Ok _) before after l =
      subst (λ (b : List (List ℤ)). BlocksLeave r.plate b before after) (blocks-from-start input c e) l

  sheet-count : (v : Result (Unit {0}) Refusal) → lines_left input (opened v) ≡ count_at (opened v).stage (opened v).heard (opened v).blocks
  sheet-count (Err q) = refl
  sheet-count (Ok _) = ap (λ (b : List (List ℤ)). count_at S.PlateLine c.heard (length b)) (blocks-from-start input c e)

-- ---- by the reading of the input

module _ (input : List ℕ) where
  pub open-ready : (found : Reading) → reading input ≡ found → (report : Report) → OpensAs input found report → Ready input report
  open-ready (refused q) e report x = subst (Ready input) (sym x) tt
  open-ready (says c) e report x = subst (Ready input) (sym x.is) (sheet-ready input c e x.prepared x.prepares x.prepared.verdict refl)

  -- all that is left is the input's report
  pub open-reports : (found : Reading) → reading input ≡ found → (report : Report) (lines : List (List ℕ)) → OpensAs input found report → Left input report lines → ReportsAs found lines
  open-reports (refused q) e report lines x l = subst (λ (r : Report). Left input r lines) x l
  open-reports (says c) e report lines x l = record {
    prepared = x.prepared;
    prepares = x.prepares;
    is = sheet-reports input c e x.prepared x.prepares x.prepared.verdict lines (subst (λ (r : Report). Left input r lines) x.is l);
  }

  -- what giving all of it leaves in the working rooms
  pub open-leaves : (found : Reading) → reading input ≡ found → (report : Report) (before after : Rooms) → OpensAs input found report → Leaves input report before after
      → LeavesAs found before after
  open-leaves (refused q) e report before after x l = subst (λ (r : Report). Leaves input r before after) x l
  open-leaves (says c) e report before after x l = record {
    prepared = x.prepared;
    prepares = x.prepares;
    is = sheet-leaves input c e x.prepared x.prepares x.prepared.verdict before after (subst (λ (r : Report). Leaves input r before after) x.is l);
  }

  -- the report's own number of block lines gives the number of lines
  pub open-count : (found : Reading) → reading input ≡ found → (report : Report) → OpensAs input found report → lines_left input report ≡ count_at report.stage report.heard report.blocks
  open-count (refused q) e report x = subst (λ (r : Report). lines_left input r ≡ count_at r.stage r.heard r.blocks) (sym x) refl
  open-count (says c) e report x =
      subst (λ (r : Report). lines_left input r ≡ count_at r.stage r.heard r.blocks) (sym x.is) (sheet-count input c e x.prepared x.prepares x.prepared.verdict)

  -- which is small
  pub open-small : (found : Reading) → reading input ≡ found → (report : Report) → OpensAs input found report → report.blocks ≤ 32769
  open-small (refused q) e report x = subst (λ (r : Report). r.blocks ≤ 32769) (sym x) (omega arith)
  open-small (says c) e report x =
      subst (λ (r : Report). r.blocks ≤ 32769) (sym x.is)
      (verdict-small x.prepared.verdict x.prepared.plate c.order (start_of input c) c.heard (length c.blocks) (sheet-small input c e))
