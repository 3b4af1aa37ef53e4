-- The parts of a text, one after the other: what a loop over lines or fields goes by.
use Prim.Native.Nat.{ℕ, zero, suc, ◌+◌, ◌-◌, ◌≤◌, ◌<◌}
use borrow.Author.Tests.{le-leb, lt-leb}
use lib.Dec.{eqb, leb-suc-suc, leb-zero}
use lib.ListN.{length, take, drop, length-take, length-drop}
use mathlib.Core.Bool.{Bool, true, false, cond}
use mathlib.Core.List.{List, [], ◌∷◌}
use mathlib.Core.Path.{◌≡◌, refl, sym, ◌∙◌, ap}
use native.Mathlib.Nat.{suc-add, zero-add}
use native.Mathlib.Omega.{arith}
use Rattle.sheets.specs.Text.{till, onto, parts, parts_from}
use Rattle.sheets.specs.Readers.{Until}

-- from one place further in a text that has one byte more in front
from_suc : (b x : ℕ) (xs : List ℕ) (k : ℕ) → parts_from b (x ∷ xs) (suc k) ≡ parts_from b xs k
from_suc b x xs k = rw leb-suc-suc

from-drop : (b a : ℕ) (s : List ℕ) (k : ℕ) → a ≤ length s → parts_from b (drop a s) k ≡ parts_from b s (a + k)
from-drop b zero s k h = rw zero-add
from-drop b (suc a) [] k h = absurd (omega arith)
from-drop b (suc a) (x ∷ xs) k h =
    from-drop b a xs k (omega arith) ∙ sym (from_suc b x xs (a + k)) ∙ ap (parts_from b (x ∷ xs)) (sym (suc-add a k))

parts-case : (b x : ℕ) (xs : List ℕ) → parts b xs ≡ take (till b xs) xs ∷ parts_from b xs (till b xs + 1) → (t : Bool)
    → cond t ([] ∷ parts b xs) (onto x (parts b xs))
    ≡ take (cond t 0 (suc (till b xs))) (x ∷ xs) ∷ parts_from b (x ∷ xs) (cond t 0 (suc (till b xs)) + 1)
parts-case b x xs e true = rw (leb-suc-suc, leb-zero)
parts-case b x xs e false = rw (e, suc-add, leb-suc-suc)

-- the first part, and the others
parts_first : (b : ℕ) (s : List ℕ) → parts b s ≡ take (till b s) s ∷ parts_from b s (till b s + 1)
parts_first b [] = refl
parts_first b (x ∷ xs) = parts-case b x xs (parts_first b xs) (eqb x b)

-- from the start on they are all
pub from_start : (b : ℕ) (s : List ℕ) → parts_from b s 0 ≡ parts b s
from_start b s = rw leb-zero

-- past the end there is none
pub from-none : (b : ℕ) (s : List ℕ) (at : ℕ) → length s < at → parts_from b s at ≡ []
from-none b s at h = rw (lt-leb at (length s) h)

module _ (b : ℕ) (s : List ℕ) (at r : ℕ) (h : at ≤ length s) (u : Until b s at r) where
  -- the part that begins at a place, and those after it
  pub from_more : parts_from b s at ≡ take (r - at) (drop at s) ∷ parts_from b s (r + 1)
  from_more =
      let t = till b (drop at s) in
      let e : r - at ≡ t = omega arith in
      let g : at + (t + 1) ≡ r + 1 = omega arith in
      rw (le-leb at (length s) h, parts_first b (drop at s), from-drop b at s (t + 1) h, g, e)

  -- how long it is
  pub part_length : length (take (r - at) (drop at s)) ≡ r - at
  part_length = rw (length-take, length-drop) (omega arith)

  -- the last part
  pub from_last : r ≡ length s → parts_from b s at ≡ take (r - at) (drop at s) ∷ []
  from_last e = from_more ∙ ap (λ (t : List (List ℕ)). take (r - at) (drop at s) ∷ t) (from-none b s (r + 1) (omega arith))

-- the first part from the start, as the code has it
pub parts-front : (b : ℕ) (s : List ℕ) (r : ℕ) → Until b s 0 r → parts b s ≡ take r s ∷ parts_from b s (r + 1)
parts-front b s r u =
    let e : till b s ≡ r = sym (u.is ∙ zero-add (till b s)) in
    rw e at (parts_first b s)

-- there is a part at each place up to the end
pub from_some : (b : ℕ) (s : List ℕ) (at : ℕ) → at ≤ length s
    → parts_from b s at ≡ take (till b (drop at s)) (drop at s) ∷ parts_from b (drop at s) (till b (drop at s) + 1)
from_some b s at h = rw (le-leb at (length s) h) (parts_first b (drop at s))

module _ (b : ℕ) (s : List ℕ) (a : ℕ) (h : a ≤ length s) where
  -- after a part that ends at a there is none where that is the end of the text
  pub after_last : a ≡ length s → parts_from b s (a + 1) ≡ []
  after_last e = from-none b s (a + 1) (omega arith)

  -- and one more where it is not
  pub after_more : (a ≡ length s → ⊥) → (r : ℕ) → Until b s (a + 1) r
      → parts_from b s (a + 1) ≡ take (r - (a + 1)) (drop (a + 1) s) ∷ parts_from b s (r + 1)
  after_more n r u = from_more b s (a + 1) r (omega (arith, n)) u

  pub after-some : (a ≡ length s → ⊥)
      → parts_from b s (a + 1) ≡ take (till b (drop (a + 1) s)) (drop (a + 1) s) ∷ parts_from b (drop (a + 1) s) (till b (drop (a + 1) s) + 1)
  after-some n = from_some b s (a + 1) (omega (arith, n))
