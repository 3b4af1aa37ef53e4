-- The lines of a listing as a loop passes them.
use Rattle.std.proofs.Common.{Option, None}
use lib.ListN.{drop, get_or, length}
use mathlib.Core.Bool.{Bool, true, false}
use mathlib.Core.List.{List, [], ◌∷◌}
use mathlib.Core.Path.{ap, refl, subst, sym, ◌∙◌, ◌≡◌}
use native.Mathlib.Decide.{dec_lt}
use native.Mathlib.Numerals.{add-one}
use native.Mathlib.Omega.{arith}
use Prim.Native.Nat.{◌+◌, ◌<◌, suc, zero, ℕ, ◌≤◌}
use Rattle.sheets.proofs.Entries.{entries_none, entry_first, entry-on, entry-small}
use Rattle.sheets.proofs.Parts.{from_start}
use Rattle.sheets.specs.Listed.{entries, entries_of, entry_at}
use Rattle.sheets.specs.Text.{line_feed, lines_from}
use Rattle.sheets.specs.declared.listed.Branch.{Branch}
use Rattle.sheets.specs.declared.listed.Entry.{Entry}
use Rattle.judging.specs.Listing.{branch_in, clash, clashes, depth_before}
use Rattle.judging.specs.Working.{FirstAt}

-- what a list has from a place on says what it has there
module _ {A : Type 0} (z : A) where
  pub drop-there : (xs : List A) (i : ℕ) (x : A) (rest : List A) → drop i xs ≡ x ∷ rest → (i < length xs) × (get_or xs i z ≡ x) × (drop (i + 1) xs ≡ rest)
  drop-there [] zero x rest e = absurd (nothing (ap length e))
    where
      nothing : 0 ≡ suc (length rest) → ⊥
      nothing q = omega arith
  drop-there [] (suc i) x rest e = absurd (nothing (ap length e))
    where
      nothing : 0 ≡ suc (length rest) → ⊥
      nothing q = omega arith
  drop-there (y ∷ ys) zero x rest e = (omega arith, ap (λ (l : List A). get_or l 0 z) e, ap (drop 1) e)
  drop-there (y ∷ ys) (suc i) x rest e = let r = drop-there ys i x rest e in (omega (arith, r.0), r.1, subst (λ (k : ℕ). drop k (y ∷ ys) ≡ rest) (suc_one i) r.2)
    where
      suc_one : (i : ℕ) → suc (i + 1) ≡ suc i + 1
      suc_one i = omega arith

  pub drop_all : (xs : List A) (i : ℕ) → drop i xs ≡ [] → length xs ≤ i
  drop_all [] i e = omega arith
  drop_all (y ∷ ys) zero e = absurd (nothing (ap length e))
    where
      nothing : suc (length ys) ≡ 0 → ⊥
      nothing q = omega arith
  drop_all (y ∷ ys) (suc i) e = omega (arith, drop_all ys i e)

-- i lines are read, and the next begins at `at`
pub record Reading (n : ℕ) (s : List ℕ) (i at : ℕ) : Type 0 where
  pub left : entries_of n (lines_from s at) ≡ drop i (entries n s)
  pub few : i ≤ length (entries n s)
  pub low : i ≤ at

pub reading-start : (n : ℕ) (s : List ℕ) → Reading n s 0 0
reading-start n s = record { left = ap (entries_of n) (from_start line_feed s); few = omega arith; low = omega arith }

module _ (n : ℕ) (s : List ℕ) (i at : ℕ) (r : Reading n s i at) where
  -- one line more
  pub record More (e : Entry) : Type 0 where
    pub there : i < length (entries n s)
    pub line_is : get_or (entries n s) i None ≡ e.line
    pub on : Reading n s (i + 1) e.next
    pub further : at < e.next
    pub small : e.next ≤ length s + 1

  pub reading-on : at < length s → (e : Entry) → e ≡ entry_at n s at → More e
  reading-on l e q =
      subst More (sym q) (record {
        there = m.0;
        line_is = m.1;
        on = record { left = sym m.2; few = omega (arith, m.0); low = omega (arith, r.low, entry-on n s at l) };
        further = entry-on n s at l;
        small = entry-small n s at l;
      })
    where
      m : (i < length (entries n s)) × (get_or (entries n s) i None ≡ (entry_at n s at).line) × (drop (i + 1) (entries n s) ≡ entries_of n (lines_from s (entry_at n s at).next))
      m = drop-there None (entries n s) i (entry_at n s at).line (entries_of n (lines_from s (entry_at n s at).next)) (sym r.left ∙ entry_first n s at l)

  -- or all are read
  pub reading-end : length s ≤ at → i ≡ length (entries n s)
  reading-end l = omega (arith, r.few, drop_all None (entries n s) i (sym r.left ∙ entries_none n s at l))

-- ---- a search from the front

pub record Searching (m : ℕ) (test : ℕ → Bool) (i : ℕ) : Type 0 where
  pub before : (j : ℕ) → j < i → test j ≡ false

pub searching-start : (m : ℕ) (test : ℕ → Bool) → Searching m test 0
searching-start m test = record { before = λ j l. absurd (omega arith) }

module _ {m : ℕ} {test : ℕ → Bool} {i : ℕ} (s : Searching m test i) where
  pub searching-on : test i ≡ false → Searching m test (i + 1)
  searching-on e = record { before = λ j l. go j l (dec_lt j i) }
    where
      go : (j : ℕ) → j < i + 1 → Dec (j < i) → test j ≡ false
      go j l (yes d) = s.before j d
      go j l (no d) = let q : i ≡ j = omega arith in subst (λ (k : ℕ). test k ≡ false) q e

  pub searching-found : i < m → test i ≡ true → FirstAt m test i
  searching-found l e = record { there = l; here = e; before = s.before }

  pub searching-none : m ≤ i → (j : ℕ) → j < m → test j ≡ false
  searching-none e j l = s.before j (omega arith)

-- ---- clashes among the first lines

module _ (n : ℕ) (s : List ℕ) (first : ℕ) (b : Branch) where
  -- what is left of the search says what the whole says
  pub record Clashing (at left : ℕ) : Type 0 where
    pub same : clashes (entries_of n (lines_from s at)) left b ≡ clashes (entries n s) first b
    pub few : left ≤ length (entries_of n (lines_from s at))

  pub clashing-start : first ≤ length (entries n s) → Clashing 0 first
  clashing-start l =
      let e : entries n s ≡ entries_of n (lines_from s 0) = ap (entries_of n) (sym (from_start line_feed s)) in
      record { same = ap (λ (es : List (Option Branch)). clashes es first b) (sym e); few = subst (λ (es : List (Option Branch)). first ≤ length es) e l }

  module _ (at left : ℕ) (c : Clashing at left) (l : 0 < left) where
    inside : at < length s
    inside = go (dec_lt at (length s))
      where
        go : Dec (at < length s) → at < length s
        go (yes d) = d
        go (no d) = absurd (omega (arith, c.few, l, ap length (entries_none n s at (omega (arith, d)))))

    split : (t : Bool) → clash (branch_in (entry_at n s at).line) b ≡ t → clashes (entries_of n (lines_from s at)) left b ≡ clashes ((entry_at n s at).line ∷ entries_of n (lines_from s (entry_at n s at).next)) left b
    split t q = ap (λ (es : List (Option Branch)). clashes es left b) (entry_first n s at inside)

    step : (left : ℕ) → 0 < left → (e : Option Branch) (es : List (Option Branch)) → clash (branch_in e) b ≡ true → clashes (e ∷ es) left b ≡ true
    step zero l e es q = absurd (omega arith)
    step (suc k) l e es q = rw q

    pass : (left k : ℕ) → left ≡ suc k → (e : Option Branch) (es : List (Option Branch)) → clash (branch_in e) b ≡ false → clashes (e ∷ es) left b ≡ clashes es k b
    pass left k h e es q = rw (h, q)

    pub clashing-found : (e : Entry) → e ≡ entry_at n s at → clash (branch_in e.line) b ≡ true → true ≡ clashes (entries n s) first b
    clashing-found e q t =
        let z : clash (branch_in (entry_at n s at).line) b ≡ true = ap (λ (x : Entry). clash (branch_in x.line) b) (sym q) ∙ t in
        sym (sym c.same ∙ split true z ∙ step left l (entry_at n s at).line (entries_of n (lines_from s (entry_at n s at).next)) z)

    pub clashing-on : (e : Entry) → e ≡ entry_at n s at → clash (branch_in e.line) b ≡ false → (k : ℕ) → left ≡ suc k → Clashing e.next k
    clashing-on e q t k h =
        let z : clash (branch_in (entry_at n s at).line) b ≡ false = ap (λ (x : Entry). clash (branch_in x.line) b) (sym q) ∙ t in
        subst (λ (x : Entry). Clashing x.next k) (sym q) (record {
          same = sym (pass left k h (entry_at n s at).line (entries_of n (lines_from s (entry_at n s at).next)) z) ∙ sym (split false z) ∙ c.same;
          few = omega (arith, c.few, h, ap length (entry_first n s at inside));
        })

  pub clashing-none : (at left : ℕ) → Clashing at left → left ≡ 0 → false ≡ clashes (entries n s) first b
  clashing-none at left c e = sym (none (entries_of n (lines_from s at)) left e) ∙ c.same
    where
      none : (es : List (Option Branch)) (k : ℕ) → k ≡ 0 → clashes es k b ≡ false
      none [] k e = refl
      none (x ∷ es) zero e = refl
      none (x ∷ es) (suc k) e = absurd (omega arith)

-- the depth before the next line
pub depth-after : (es : List (Option Branch)) (i : ℕ) (b : Branch) → b ≡ branch_in (get_or es i None) → b.depth ≡ depth_before es (i + 1)
depth-after es i b e = ap (λ (x : Branch). x.depth) e ∙ ap (depth_before es) (sym (add-one i))
