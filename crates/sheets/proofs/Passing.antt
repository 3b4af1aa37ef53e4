-- Lines passed one after the other: what a loop over them keeps.
use Prim.Native.Nat.{ℕ, ◌+◌, ◌-◌, ◌≤◌}
use lib.ListN.{length, take, drop}
use lib.Seq.{drop-length}
use mathlib.Core.List.{List, [], ◌∷◌}
use mathlib.Core.Path.{◌≡◌, refl}
use native.Mathlib.Omega.{arith}
use borrow.Author.Tests.{le-leb}
use Rattle.sheets.specs.Text.{line_feed, lines_from, begins}
use Rattle.sheets.specs.Readers.{Ended, Passed}
use Rattle.sheets.proofs.Parts.{from_more, part_length}

-- at the end of the input there is nothing but what follows the last line feed
pub at-end : (s : List ℕ) (at : ℕ) → at ≡ length s → lines_from s at ≡ [] ∷ []
at-end s at e = rw (e, le-leb (length s) (length s) (omega arith), drop-length s)

module _ {s : List ℕ} {at next : ℕ} (e : Ended s at next) where
  inside : at ≤ length s
  inside = omega arith

  -- the line at a place, and those after it
  pub line-split : lines_from s at ≡ take (next - 1 - at) (drop at s) ∷ lines_from s next
  line-split =
      let q : next - 1 + 1 ≡ next = omega arith in
      rw q at (from_more line_feed s at (next - 1) inside e.until)

  pub line-length : length (take (next - 1 - at) (drop at s)) ≡ next - 1 - at
  line-length = part_length line_feed s at (next - 1) inside e.until

-- k lines are passed, which f takes, and the next begins at `at`
pub record Passing {A : Type 0} (f : List (List ℕ) → List A) (s : List ℕ) (from at k : ℕ) : Type 0 where
  pub low : from + k ≤ at
  pub high : at ≤ length s
  pub counted : k + length (f (lines_from s at)) ≡ length (f (lines_from s from))
  pub placed : at + begins (lines_from s at) (length (f (lines_from s at))) ≡ from + begins (lines_from s from) (length (f (lines_from s from)))
  pub left : drop (length (f (lines_from s at))) (lines_from s at) ≡ drop (length (f (lines_from s from))) (lines_from s from)

pub pass-start : {A : Type 0} (f : List (List ℕ) → List A) (s : List ℕ) (from : ℕ) → from ≤ length s → Passing f s from from 0
pass-start f s from h = record { low = omega arith; high = h; counted = omega arith; placed = refl; left = refl }

module _ {A : Type 0} {f : List (List ℕ) → List A} {s : List ℕ} {from at k : ℕ} (i : Passing f s from at k) where
  -- one line more
  pub pass_on : (next : ℕ) → Ended s at next → (x : A) → f (lines_from s at) ≡ x ∷ f (lines_from s next) → Passing f s from next (k + 1)
  pass_on next e x g =
      let l = line-split e in
      let c = rw g at i.counted in
      let p = rw (g, l) at i.placed in
      let n = line-length e in
      record {
        low = omega arith;
        high = e.high;
        counted = omega arith;
        placed = omega arith;
        left = rw (g, l) at i.left;
      }

  -- no line more
  pub pass-end : f (lines_from s at) ≡ [] → Passed (f (lines_from s from)) s from (record { count = k; next = at })
  pass-end g =
      let c = rw g at i.counted in
      let p = rw g at i.placed in
      record {
        count = omega arith;
        next = omega arith;
        left = rw g at i.left;
        low = i.low;
        high = i.high;
      }
