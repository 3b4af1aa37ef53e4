-- What a loop over a list goes by: the entry at a place, and the rest.
use lib.ListN.{drop, drop_of_length-le, get_or, length, length-drop, take}
use lib.Seq.{drop-cons, take_all}
use mathlib.Core.List.{List, [], ◌∷◌}
use mathlib.Core.Path.{◌≡◌, ap, ◌∙◌}
use native.Mathlib.Numerals.{add-one}
use native.Mathlib.Omega.{arith}
use Prim.Native.Nat.{◌+◌, ◌-◌, ◌<◌, max, suc, ℕ, ◌≤◌}
use Rattle.alists.specs.Lists.{largest}

module _ (s : List ℕ) (i : ℕ) where
  -- the entry at i, and the rest
  pub here : i < length s → drop i s ≡ get_or s i 0 ∷ drop (i + 1) s
  here h = rw (add-one, drop-cons s i 0)

  pub done : length s ≤ i → drop i s ≡ []
  done h = drop_of_length-le s h

  -- the entry before i
  pub back : 0 < i → i ≤ length s → drop (i - 1) s ≡ get_or s (i - 1) 0 ∷ drop i s
  back z h =
      let e : suc (i - 1) ≡ i = omega arith in
      drop-cons s (i - 1) 0 (omega arith) ∙ ap (λ (k : ℕ). get_or s (i - 1) 0 ∷ drop k s) e

  -- the largest, one place back
  pub largest-on : 0 < i → i ≤ length s → largest (drop (i - 1) s) ≡ max (get_or s (i - 1) 0) (largest (drop i s))
  largest-on z h = rw (back z h)

-- a part that runs to the end
pub tail_all : (s : List ℕ) (a : ℕ) → take (length s - a) (drop a s) ≡ drop a s
tail_all s a = take_all (length s - a) (drop a s) (rw length-drop (omega arith))
