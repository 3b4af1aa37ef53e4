-- A table copied, entry by entry, into another of its length.
use lib.ListN.{drop, get_or, length, set, take}
use lib.Seq.{drop-length, paste, paste-suc, take_all}
use mathlib.Core.List.{◌++◌, List, append-nil}
use mathlib.Core.Path.{ap, subst, sym, ◌∙◌, ◌≡◌}
use native.Mathlib.Nat.{zero-add}
use native.Mathlib.Numerals.{add-one}
use native.Mathlib.Omega.{arith}
use Prim.Native.Nat.{◌+◌, ◌<◌, ℕ}

module _ (first table : List ℕ) (same : length first ≡ length table) where
  -- one entry more
  pub copied_on : {copy : List ℕ} {t : ℕ} → t < length table → copy ≡ paste first 0 table t
      → set copy t (get_or table t 0) ≡ paste first 0 table (t + 1)
  copied_on {copy} {t} within e =
      let s : set (paste first 0 table t) (0 + t) (get_or table t 0) ≡ paste first 0 table (t + 1) =
      rw add-one (paste-suc first 0 table t 0 (omega arith) within) in
      rw e (subst (λ (m : ℕ). set (paste first 0 table t) m (get_or table t 0) ≡ paste first 0 table (t + 1)) (zero-add t) s)

  -- all of them
  pub copied_all : {copy : List ℕ} {t : ℕ} → t ≡ length table → copy ≡ paste first 0 table t → copy ≡ table
  copied_all {copy} {t} end e =
      e
      ∙ ap (λ (m : ℕ). take t table ++ drop m first) (zero-add t ∙ end ∙ sym same)
      ∙ ap (λ (r : List ℕ). take t table ++ r) (drop-length first)
      ∙ append-nil (take t table)
      ∙ take_all t table (omega arith)
