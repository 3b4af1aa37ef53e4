-- A line that is ended or not, and what stands after end.
use Rattle.std.proofs.Common.{Result, Ok, Err}
use Prim.Native.Nat.{ℕ, zero, suc, ◌+◌, ◌-◌, ◌≤◌}
use lib.ListN.{length, drop}
use mathlib.Core.Bool.{true, false}
use mathlib.Core.List.{List}
use mathlib.Core.Path.{◌≡◌, refl, sym, ◌∙◌, ap}
use native.Mathlib.Omega.{arith}
use Rattle.sheets.specs.declared.line.Fault.{Fault}
use Rattle.sheets.specs.Text.{line_feed, lines_from}
use Rattle.sheets.specs.Readers.{Ended, Until}
use Rattle.sheets.specs.Lines.{front, after_end, came_after, end_by, ending_of}
use Rattle.sheets.specs.declared.Order.{Order}
use Rattle.sheets.specs.declared.line.Came.{Came}
use Rattle.sheets.specs.declared.line.Came.TheVariants.{Blocks, Heards}
use Rattle.sheets.specs.declared.line.Fault.TheVariants.{Missing, Turn}
use Rattle.sheets.specs.declared.line.Line.{Line}
use Rattle.sheets.specs.declared.line.Line.TheVariants.{End}
use Rattle.sheets.specs.declared.body.Ending.TheVariants.{After}
use Rattle.sheets.proofs.Bytes.{here, tail_all}
use Rattle.sheets.proofs.Parts.{from_more, from_last, after-some}
use Rattle.sheets.proofs.Passing.{line-split}

-- what has come after one line and more
pub came-blocks : (k : ℕ) → (k ≡ 0 → ⊥) → Blocks ≡ came_after false k
came-blocks zero n = absurd (n refl)
came-blocks (suc k) n = refl

pub came-heards : (k : ℕ) → (k ≡ 0 → ⊥) → Heards ≡ came_after true k
came-heards zero n = absurd (n refl)
came-heards (suc k) n = refl

-- a line that does not end with the input is ended
pub line-closed : (s : List ℕ) (at r : ℕ) → Until line_feed s at r → (r ≡ length s → ⊥) → Ended s at (r + 1)
line-closed s at r u n =
    let q : r + 1 - 1 ≡ r = omega arith in
    record { low = omega arith; high = omega (arith, n); until = rw q u }

module _ (n : ℕ) (order : Order) (came : Came) (s : List ℕ) (at r : ℕ) (h : at ≤ length s) (u : Until line_feed s at r) where
  -- and one that does is missing
  pub line-open : r ≡ length s → front n order came (lines_from s at) ≡ Err Missing
  line-open q = rw (from_last line_feed s at r h u q)

  module _ (e : front n order came (lines_from s at) ≡ Ok End) where
    never : Err Missing ≡ Ok End → ⊥
    never q = let z : ◌≡◌ {A = ℕ} 0 1 = cc in omega arith

    -- an end is ended
    pub end-closed : Ended s at (r + 1)
    end-closed = line-closed s at r u (λ q. never (sym (line-open q) ∙ e))

    -- and what follows it decides
    pub end-then : ending_of n order came (lines_from s at) ≡ after_end (lines_from s (r + 1))
    end-then =
        ap (λ (k : Result Line Fault). end_by k (drop 1 (lines_from s at))) e ∙ ap (λ (ls : List (List ℕ)). after_end (drop 1 ls)) (line-split end-closed)

module _ (s : List ℕ) (at r : ℕ) (h : at ≤ length s) (n : at ≡ length s → ⊥) (u : Until line_feed s at r) where
  -- something after end that is not ended
  pub extra-open : r ≡ length s → after_end (lines_from s at) ≡ After Missing
  extra-open e = rw (from_last line_feed s at r h u e, e, tail_all s at, here s at (omega (arith, n)))

  -- a whole line after end
  pub extra-line : (r ≡ length s → ⊥) → after_end (lines_from s at) ≡ After Turn
  extra-line e = rw (from_more line_feed s at r h u, after-some line_feed s r u.high e)
