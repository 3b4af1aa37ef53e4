-- What a loop over a text goes by: the byte at a place, and the rest.
use Prim.Native.Nat.{ℕ, suc, ◌+◌, ◌-◌, ◌≤◌, ◌<◌}
use borrow.Author.Tests.{eq-eqb, ne_eqb}
use lib.ListN.{length, take, drop, get_or, drop_of_length-le, length-drop}
use lib.Seq.{drop-cons, take_all}
use mathlib.Core.List.{List, [], ◌∷◌}
use mathlib.Core.Path.{◌≡◌, ◌∙◌, ap}
use native.Mathlib.Numerals.{add-one}
use native.Mathlib.Omega.{arith}
use Rattle.sheets.specs.Text.{till}

module _ (s : List ℕ) (i : ℕ) where
  -- the byte at i, and the rest
  pub here : i < length s → drop i s ≡ get_or s i 0 ∷ drop (i + 1) s
  here h = rw (add-one, drop-cons s i 0)

  pub done : length s ≤ i → drop i s ≡ []
  done h = drop_of_length-le s h

  pub till-stop : (b : ℕ) → i < length s → get_or s i 0 ≡ b → till b (drop i s) ≡ 0
  till-stop b h e = rw (here h, eq-eqb (get_or s i 0) b e)

  pub till-next : (b : ℕ) → i < length s → (get_or s i 0 ≡ b → ⊥) → till b (drop i s) ≡ suc (till b (drop (i + 1) s))
  till-next b h e = rw (here h, ne_eqb (get_or s i 0) b e)

  pub till-done : (b : ℕ) → length s ≤ i → till b (drop i s) ≡ 0
  till-done b h = rw (done h)

  -- the byte before i
  pub back : 0 < i → i ≤ length s → drop (i - 1) s ≡ get_or s (i - 1) 0 ∷ drop i s
  back z h =
      let e : suc (i - 1) ≡ i = omega arith in
      drop-cons s (i - 1) 0 (omega arith) ∙ ap (λ (k : ℕ). get_or s (i - 1) 0 ∷ drop k s) e

-- a part that runs to the end
pub tail_all : (s : List ℕ) (a : ℕ) → take (length s - a) (drop a s) ≡ drop a s
tail_all s a = take_all (length s - a) (drop a s) (rw length-drop (omega arith))
