-- A part of a list that was lent and came back: what stands in it, and what stands outside it.
use lib.ListN.{get_or-append, drop, get_or, length, length-append, length-drop, take}
use lib.Seq.{get_or-append-add, get_or-drop, length-take-le}
use mathlib.Core.List.{◌++◌, List}
use mathlib.Core.Path.{ap, subst, sym, ◌∙◌, ◌≡◌}
use native.Mathlib.Omega.{arith}
use Prim.Native.Nat.{◌+◌, ◌-◌, ◌<◌, ℕ, ◌≤◌}

module _ {ℓ} {A : Type ℓ} (xs ys : List A) (a k : ℕ) (size : length ys ≡ k) (room : a + k ≤ length xs) (z : A) where
  -- the list with the part from a on, k long, come back as ys
  abbrev back : List A
  back = take a xs ++ (ys ++ drop k (drop a xs))

  length_front : length (take a xs) ≡ a
  length_front = length-take-le a xs (omega arith)

  pub back-length : length back ≡ length xs
  back-length =
      length-append (take a xs) (ys ++ drop k (drop a xs))
      ∙ omega (arith, length_front, length-append ys (drop k (drop a xs)), length-drop k (drop a xs), length-drop a xs, size)

  pub back_inside : (i : ℕ) → i < k → get_or back (a + i) z ≡ get_or ys i z
  back_inside i h =
      subst (λ (m : ℕ). get_or back (m + i) z ≡ get_or (ys ++ drop k (drop a xs)) i z) length_front (get_or-append-add (take a xs) (ys ++ drop k (drop a xs)) i z)
      ∙ get_or-append ys (drop k (drop a xs)) z i (omega (arith, size))

  pub back-behind : (i : ℕ) → a + k ≤ i → get_or back i z ≡ get_or xs i z
  back-behind i h =
      let e : i ≡ a + (k + (i - (a + k))) = omega arith in
      ap (λ (m : ℕ). get_or back m z) e
      ∙ subst (λ (m : ℕ). get_or back (m + (k + (i - (a + k)))) z ≡ get_or (ys ++ drop k (drop a xs)) (k + (i - (a + k))) z) length_front (get_or-append-add (take a xs) (ys ++ drop k (drop a xs)) (k + (i - (a + k))) z)
      ∙ subst (λ (m : ℕ). get_or (ys ++ drop k (drop a xs)) (m + (i - (a + k))) z ≡ get_or (drop k (drop a xs)) (i - (a + k)) z) size (get_or-append-add ys (drop k (drop a xs)) (i - (a + k)) z)
      ∙ get_or-drop k (drop a xs) (i - (a + k)) z ∙ get_or-drop a xs (k + (i - (a + k))) z ∙ ap (λ (m : ℕ). get_or xs m z) (sym e)
