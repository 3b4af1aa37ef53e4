-- The lines of a listing one after the other.
use Rattle.std.proofs.Common.{Option, None}
use Rattle.sheets.specs.declared.listed.Branch.{Branch}
use Prim.Native.Nat.{ℕ, ◌+◌, ◌-◌, ◌≤◌, ◌<◌}
use lib.ListN.{length, take, drop}
use mathlib.Core.List.{List, [], ◌∷◌}
use mathlib.Core.Path.{◌≡◌, ap, refl}
use native.Mathlib.Decide.{ℕ_discrete}
use native.Mathlib.Omega.{arith}
use Rattle.sheets.specs.Blocks.{next_line}
use Rattle.sheets.specs.Listed.{branch_front, branch_of, entries_of, entry_at, unended}
use Rattle.sheets.specs.Readers.{Until}
use Rattle.sheets.specs.Text.{fields, line_feed, lines_from, till}
use Rattle.sheets.specs.declared.listed.Entry.{Entry}
use Rattle.sheets.proofs.BlockPlaces.{next_is}
use Rattle.sheets.proofs.Following.{until-there}
use Rattle.sheets.proofs.Parts.{from_last, from_more, from-none, from_some, part_length}
use Rattle.sheets.proofs.Passing.{at-end}

-- past the end there is no line
pub past-entry : (n : ℕ) (s : List ℕ) (at : ℕ) → length s < at → ◌≡◌ {A = Entry} (record { line = None; next = at }) (entry_at n s at)
past-entry n s at h = let e : at + 0 ≡ at = omega arith in rw (from-none line_feed s at h, e)

module _ (n : ℕ) (s : List ℕ) (at r : ℕ) (h : at ≤ length s) (u : Until line_feed s at r) where
  -- a line that is not ended is bad
  pub unended-entry : r ≡ length s → ◌≡◌ {A = Entry} (record { line = None; next = r + 1 }) (entry_at n s at)
  unended-entry e = rw (next_is s at r h u, from_last line_feed s at r h u e)

  -- one that is ended is what its fields say
  pub ended-entry : (r ≡ length s → ⊥) → (b : Option Branch) → b ≡ branch_of n (fields (take (r - at) (drop at s)))
      → ◌≡◌ {A = Entry} (record { line = b; next = r + 1 }) (entry_at n s at)
  ended-entry d b e = rw (next_is s at r h u, from_more line_feed s at r h u, from_some line_feed s (r + 1) (omega (arith, d))) (ap (λ (b : Option Branch). record { line = b; next = r + 1 }) e)

  -- a line, and those after it
  more-lines : (r ≡ length s → ⊥) → entries_of n (lines_from s at) ≡ branch_front n (lines_from s at) ∷ entries_of n (lines_from s (next_line s at))
  more-lines d = rw (next_is s at r h u, from_more line_feed s at r h u, from_some line_feed s (r + 1) (omega (arith, d)))

  last_line : r ≡ length s → at < length s → entries_of n (lines_from s at) ≡ branch_front n (lines_from s at) ∷ entries_of n (lines_from s (next_line s at))
  last_line e l =
      rw (next_is s at r h u, from_last line_feed s at r h u e, from-none line_feed s (r + 1) (omega arith)) (go (take (r - at) (drop at s)) (part_length line_feed s at r h u))
    where
      go : (p : List ℕ) → length p ≡ r - at → unended p ≡ None ∷ []
      go [] q = absurd (omega (arith, q, e, l))
      go (x ∷ xs) q = refl

-- before the end there is a line, and it ends further on
module _ (n : ℕ) (s : List ℕ) (at : ℕ) (l : at < length s) where
  abbrev end : ℕ
  end = at + till line_feed (drop at s)

  ends : Until line_feed s at end
  ends = until-there line_feed s at (omega arith)

  pub entry_first : entries_of n (lines_from s at) ≡ (entry_at n s at).line ∷ entries_of n (lines_from s (entry_at n s at).next)
  entry_first = go (ℕ_discrete end (length s))
    where
      go : Dec (end ≡ length s) → entries_of n (lines_from s at) ≡ branch_front n (lines_from s at) ∷ entries_of n (lines_from s (next_line s at))
      go (yes e) = last_line n s at end (omega arith) ends e l
      go (no d) = more-lines n s at end (omega arith) ends d

  pub entry-on : at < (entry_at n s at).next
  entry-on = omega (arith, next_is s at end (omega arith) ends, ends.low)

  pub entry-small : (entry_at n s at).next ≤ length s + 1
  entry-small = omega (arith, next_is s at end (omega arith) ends, ends.high)

-- at the end there is none
pub entries_none : (n : ℕ) (s : List ℕ) (at : ℕ) → length s ≤ at → entries_of n (lines_from s at) ≡ []
entries_none n s at h = go (ℕ_discrete at (length s))
  where
    go : Dec (at ≡ length s) → entries_of n (lines_from s at) ≡ []
    go (yes e) = rw (at-end s at e)
    go (no d) = rw (from-none line_feed s at (omega (arith, d)))
