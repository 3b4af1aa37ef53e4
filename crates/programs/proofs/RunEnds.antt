-- How a run ends, by what was printed and the stage at which its report began.
use Rattle.std.proofs.Common.{Result, Ok, Err}
use lib.IntN.{pos, ℤ}
use lib.ListN.{length}
use mathlib.Core.Bool.{Bool}
use mathlib.Core.List.{List, [], ◌∷◌}
use mathlib.Core.Path.{◌≡◌, ap, refl, subst, sym, ◌∙◌}
use mir.Syntax.{w32}
use mir.Val.{of_z, to_z}
use native.Mathlib.Omega.{arith}
use Prim.Native.Nat.{ℕ}
use Rattle.plates.specs.declared.Refusal.{Refusal}
use Rattle.programs.specs.declared.endings.Ending.{Ending}
use Rattle.programs.specs.declared.endings.Ending.TheVariants.{Listed, Refused, Unwritten}
use Rattle.programs.specs.declared.listing.Turn.{Turn}
use Rattle.programs.specs.declared.listing.Turn.TheVariants.{Whole}
use Rattle.std.specs.Prelude.{IfSome, Option, Some}
use Rattle.programs.specs.declared.writer.Sent.{Sent}
use Rattle.programs.specs.Ending.{Ends, EndsAs, IsStatus, PrintsAll, ending_of, status_of}
use Rattle.programs.specs.Input.{StandsFor}
use Rattle.programs.specs.Printing.{AllLines, Prints, PrintsAs}
use Rattle.programs.proofs.Inputs.{reads_same}
use Rattle.reports.proofs.ReportDetermined.{report-determined}
use Rattle.reports.specs.declared.Report.{Report}
use Rattle.reports.specs.Report.{Reports, ReportsAs, line_of_refusal}
use Rattle.reports.specs.Steps.{Opens, OpensAs, OpensSheet, report_by}
use Rattle.sheets.specs.Sheet.{Contents, Reading, reading, refused, says, start_of}

-- ---- the exit status

pub status-listed : {e : Ending} {sent : Sent} → e ≡ Listed sent → pos 0 ≡ status_of e
status-listed h = rw h

pub status-refused : {e : Ending} {q : Refusal} {sent : Sent} → e ≡ Refused q sent → pos 1 ≡ status_of e
status-refused h = rw h

pub status-unwritten : {e : Ending} → e ≡ Unwritten → pos 2 ≡ status_of e
status-unwritten h = rw h

pub status-fault : {r : ℤ} → r ≡ pos 2 → IsStatus (to_z w32 (of_z w32 r))
status-fault h = subst (λ (z : ℤ). IsStatus (to_z w32 (of_z w32 z))) (sym h) (record { ending = Unwritten; is = refl })

-- ---- the ending

-- the ending of a report that was just opened, of which all lines were taken
module _ (read whole : List ℕ) (same : reading whole ≡ reading read) (sent : Sent) (a : AllLines read read sent.lines) where
  over : {lines : List (List ℕ)} → Reports read lines → Reports whole lines
  over {lines} r = record { is = subst (λ (x : Reading). ReportsAs x lines) (sym same) r.is }

  all-over : AllLines read whole sent.lines
  all-over = record { lines = a.lines; counted = a.counted; reports = over a.reports; in_place = a.in_place; only = a.only }

  -- the one line of a refusal
  refused-ends : (q : Refusal) → Reports read (line_of_refusal q ∷ []) → EndsAs read whole (Refused q sent)
  refused-ends q r =
      let e = ap length (report-determined read a.lines (line_of_refusal q ∷ []) a.reports r) in
      (all-over, omega (arith, e, a.counted), over r)

  sheet-ends : (c : Contents) → reading read ≡ says c → (report : Report)
      (x : OpensSheet c.n c.kind c.rows c.mask c.order (start_of read c) c.heard (length c.blocks) report) (v : Result (Unit {0}) Refusal)
      → x.prepared.verdict ≡ v
      → EndsAs read whole (ending_of (report_by v x.prepared.plate c.order (start_of read c) c.heard (length c.blocks)).stage sent)
  sheet-ends c e report x (Err q) f =
      refused-ends q (record { is = subst (λ (y : Reading). ReportsAs y (line_of_refusal q ∷ [])) (sym e) (record { prepared = x.prepared; prepares = x.prepares; is = rw f refl }) })
  sheet-ends c e report x (Ok _) f =
      (all-over, record { sheet = c; reads = same ∙ e; prepared = x.prepared; prepares = x.prepares; accepted = f })

  opened-ends : (found : Reading) → reading read ≡ found → (report : Report) → OpensAs read found report → EndsAs read whole (ending_of report.stage sent)
  opened-ends (refused q) e report x =
      subst (λ (r : Report). EndsAs read whole (ending_of r.stage sent)) (sym x)
      (refused-ends q (record { is = subst (λ (y : Reading). ReportsAs y (line_of_refusal q ∷ [])) (sym e) refl }))
  opened-ends (says c) e report x =
      subst (λ (r : Report). EndsAs read whole (ending_of r.stage sent)) (sym x.is) (sheet-ends c e report x x.prepared.verdict refl)

-- what printing said and the first stage tell the ending
pub all-taken : {ended : Bool} {read : List ℕ} {report : Report} {r : Option Sent} {sent : Sent} {e : Ending} → StandsFor ended read → Opens read report
    → PrintsAll read r → r ≡ Some sent → e ≡ ending_of report.stage sent → Ends ended read e
all-taken {ended} {read} {report} {r} {sent} {e} s o p h k =
    let all : AllLines read read sent.lines = subst (λ (x : Option Sent). IfSome x (λ (y : Sent). AllLines read read y.lines)) h p.all in
    record {
      is = λ whole w. subst (EndsAs read whole) (sym k) (opened-ends read whole (reads_same s w) sent all (reading read) refl report o.is);
    }

pub not-all-taken : {ended : Bool} {read : List ℕ} → Ends ended read Unwritten
not-all-taken = record { is = λ whole w. tt }
