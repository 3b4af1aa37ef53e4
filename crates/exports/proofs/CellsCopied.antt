-- Cells copied one by one: a table into a part of a run.
use lib.ListN.{drop, get_or, length, set, take}
use lib.Seq.{paste, paste-suc, take_all}
use mathlib.Core.List.{◌++◌, List}
use mathlib.Core.Path.{ap, subst, ◌∙◌, ◌≡◌}
use native.Mathlib.Numerals.{add-one}
use native.Mathlib.Omega.{arith}
use Prim.Native.Nat.{◌+◌, ◌<◌, ℕ, ◌≤◌}

-- one cell more of a table, into a run from a place on
pub pasted-on : (run run' table : List ℕ) (at i v : ℕ) → i < length table → at + length table ≤ length run → v ≡ get_or table i 0 → run' ≡ paste run at table i
    → set run' (at + i) v ≡ paste run at table (i + 1)
pasted-on run run' table at i v h l same e = rw (e, same, add-one) (paste-suc run at table i 0 (omega arith) h)

-- the whole table is copied
pub pasted-end : (run run' table : List ℕ) (at i k : ℕ) → i ≤ k → k ≤ i → run' ≡ paste run at table i → run' ≡ paste run at table k
pasted-end run run' table at i k h l e = let same : i ≡ k = omega arith in subst (λ (m : ℕ). run' ≡ paste run at table m) same e

-- by the size of the table
pub laid-sized : (run : List ℕ) {run' : List ℕ} (table : List ℕ) {size : ℕ} → length table ≡ size → run' ≡ table ++ drop (length table) run
    → run' ≡ table ++ drop size run
laid-sized run table e laid = laid ∙ ap (λ (k : ℕ). table ++ drop k run) e
