-- The report of an input, by what was read of its sheet.
use Rattle.std.proofs.Common.{◌≡◌, ℕ, ◌≤◌, List, length, take, sym, refl, subst, arith, Ok, Err}
use Rattle.plates.specs.declared.Refusal.{Refusal}
use Rattle.sheets.specs.declared.Sheet.{Sheet}
use Rattle.sheets.specs.Sheet.{Reading, says, refused, reading, sheet_reply, table_after, sheet_at, start_of}
use Rattle.sheets.proofs.Ranges.{sheet-in-range}
use Rattle.reports.specs.declared.Report.{Report}
use Rattle.reports.specs.Steps.{Opens, OpensAs, OpensSheet, refused_report}
use Rattle.reports.proofs.LongBlocks.{laid-length, laid-start}

no-sheet : {A : Type 0} {q : Refusal} {sheet : Sheet} → Ok sheet ≡ Err q → A
no-sheet e = let z : ◌≡◌ {A = ℕ} 0 1 = cc in absurd (omega arith)

module _ (input zeros : List ℕ) (size : length zeros ≡ 64) where
  -- a sheet was read: its rows are within the table
  pub rows-within : (found : Reading) (e : reading input ≡ found) (sheet : Sheet) (table : List ℕ) → Ok sheet ≡ sheet_reply input found → table ≡ table_after zeros found
      → sheet.rows ≤ length table
  rows-within (says c) e sheet table r t =
      let k : sheet.rows ≡ length c.rows = cc in
      rw (t, laid-length c.rows zeros) (omega (arith, (sheet-in-range input c e).few, size))
  rows-within (refused q) e sheet table r t = no-sheet r

  opens_by : (found : Reading) (e : reading input ≡ found) (sheet : Sheet) (table : List ℕ) (report : Report) → Ok sheet ≡ sheet_reply input found → table ≡ table_after zeros found
      → OpensSheet sheet.n sheet.kind (take sheet.rows table) sheet.mask sheet.order sheet.start sheet.heard sheet.blocks report → OpensAs input found report
  opens_by (says c) e sheet table report r t o =
      let s : sheet ≡ sheet_at (start_of input c) c = cc in
      subst
      (λ (rows : List ℕ). OpensSheet c.n c.kind rows c.mask c.order (start_of input c) c.heard (length c.blocks) report)
      (laid-start c.rows zeros (omega (arith, (sheet-in-range input c e).few, size)))
      (rw (s, t) at o)
  opens_by (refused q) e sheet table report r t o = no-sheet r

  -- and prepared
  pub opens-sheet : (sheet : Sheet) (table : List ℕ) (report : Report) → Ok sheet ≡ sheet_reply input (reading input) → table ≡ table_after zeros (reading input)
      → OpensSheet sheet.n sheet.kind (take sheet.rows table) sheet.mask sheet.order sheet.start sheet.heard sheet.blocks report → Opens input report
  opens-sheet sheet table report r t o = record { is = opens_by (reading input) refl sheet table report r t o }

refused-by : (input : List ℕ) (found : Reading) (q : Refusal) (report : Report) → Err q ≡ sheet_reply input found → report ≡ refused_report q → OpensAs input found report
refused-by input (says c) q report r e = no-sheet (sym r)
refused-by input (refused p) q report r e = let s : q ≡ p = cc in rw (← s) e

-- the input was refused
pub opens-refused : (input : List ℕ) (q : Refusal) (report : Report) → Err q ≡ sheet_reply input (reading input) → report ≡ refused_report q → Opens input report
opens-refused input q report r e = record { is = refused-by input (reading input) q report r e }
