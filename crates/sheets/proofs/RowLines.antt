-- The row lines at the front of some lines, one after the other.
use Rattle.std.proofs.Common.{Result, Ok, Err}
use Prim.Native.Nat.{ℕ, ◌+◌, ◌≤◌}
use lib.ListN.{length, set, length-set}
use mathlib.Core.List.{List, [], ◌∷◌}
use mathlib.Core.Path.{◌≡◌, refl, sym, ◌∙◌, ap}
use native.Mathlib.Numerals.{add-one}
use native.Mathlib.Omega.{arith}
use Rattle.sheets.specs.declared.line.Fault.{Fault}
use Rattle.sheets.specs.Text.{line_feed, lines_from}
use Rattle.sheets.specs.Room.{laid}
use Rattle.sheets.specs.Lines.{front, row_then, rows_of}
use Rattle.sheets.specs.Readers.{RowsRead, Until}
use Rattle.sheets.specs.declared.Order.{Order}
use Rattle.sheets.specs.declared.line.Came.TheVariants.{Nothing}
use Rattle.sheets.specs.declared.line.Fault.TheVariants.{Missing}
use Rattle.sheets.specs.declared.line.Line.{Line}
use Rattle.sheets.specs.declared.line.Line.TheVariants.{Row, Block, End}
use Rattle.sheets.proofs.Endings.{line-open, line-closed}
use Rattle.sheets.proofs.Laying.{laid_from, laid_none, laid_on}
use Rattle.sheets.proofs.Passing.{at-end, line-split, Passing, pass-start, pass_on, pass-end}

-- a line that is not a row
pub other-line : (k : Line) (ws : List ℕ) → ((w : ℕ) → k ≡ Row w → ⊥) → row_then (Ok k) ws ≡ []
other-line (Row w) ws h = absurd (h w refl)
other-line Block ws h = refl
other-line End ws h = refl

-- k rows are passed and laid into the table
pub record Rowing (n : ℕ) (order : Order) (s : List ℕ) (from : ℕ) (table₀ table : List ℕ) (at k : ℕ) : Type 0 where
  pub passing : Passing (rows_of n order) s from at k
  pub size : length table ≡ length table₀
  pub kept : laid_from k (rows_of n order (lines_from s at)) table ≡ laid (rows_of n order (lines_from s from)) table₀

module _ (n : ℕ) (order : Order) where
  -- the rows end at a line that is none
  rows_none : (ls : List (List ℕ)) (k : Result Line Fault) → front n order Nothing ls ≡ k → ((ws : List ℕ) → row_then k ws ≡ []) → rows_of n order ls ≡ []
  rows_none [] k e h = refl
  rows_none (l ∷ ls) k e h = rw e (h (rows_of n order ls))

  rows_more : (ls : List (List ℕ)) {l : List ℕ} {ms : List (List ℕ)} (w : ℕ) → ls ≡ l ∷ ms → front n order Nothing ls ≡ Ok (Row w) → rows_of n order ls ≡ w ∷ rows_of n order ms
  rows_more ls {l} {ms} w q e = ap (rows_of n order) q ∙ ap (λ (k : Result Line Fault). row_then k (rows_of n order ms)) (rw q at e)

module _ {n : ℕ} {order : Order} {s : List ℕ} {from : ℕ} where
  pub row-start : {table : List ℕ} → from ≤ length s → Rowing n order s from table table from 0
  row-start h = record { passing = pass-start (rows_of n order) s from h; size = refl; kept = refl }

  module _ {table₀ table : List ℕ} {at k : ℕ} (i : Rowing n order s from table₀ table at k) where
    row-end : rows_of n order (lines_from s at) ≡ []
        → RowsRead n order s from table₀ (record { count = k; next = at }) table
    row-end e = record {
      passed = pass-end i.passing e;
      stored = sym (laid_none k table) ∙ (rw e at i.kept);
    }

    -- a line that is no row
    pub row-stop : (l : Result Line Fault) → front n order Nothing (lines_from s at) ≡ l → ((ws : List ℕ) → row_then l ws ≡ [])
        → RowsRead n order s from table₀ (record { count = k; next = at }) table
    row-stop l e h = row-end (rows_none n order (lines_from s at) l e h)

    -- the end of the input
    pub row_last : length s ≤ at → RowsRead n order s from table₀ (record { count = k; next = at }) table
    row_last h = row-end (rw (at-end s at (omega arith)))

    -- one row more
    pub row_on : (r : ℕ) → at ≤ length s → Until line_feed s at r → (w : ℕ) → front n order Nothing (lines_from s at) ≡ Ok (Row w)
        → Rowing n order s from table₀ (set table k w) (r + 1) (k + 1)
    row_on r h u w e =
        let d = line-closed s at r u (λ q. never (sym (line-open n order Nothing s at r h u q) ∙ e)) in
        let g = rows_more n order (lines_from s at) w (line-split d) e in
        record {
          passing = pass_on i.passing (r + 1) d w g;
          size = simp length-set i.size;
          kept = rw (add-one k, laid_on k w) (rw g at i.kept);
        }
      where
        never : Err Missing ≡ Ok (Row w) → ⊥
        never q = let z : ◌≡◌ {A = ℕ} 0 1 = cc in omega arith
