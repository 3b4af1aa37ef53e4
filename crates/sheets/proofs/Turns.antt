-- What is listed and what stands in order of position: lengths, places, and turning twice.
use Prim.Native.Nat.{ℕ, zero, suc, ◌+◌, ◌-◌, ◌<◌}
use lib.IntN.{ℤ}
use lib.ListN.{length, get_or, length-reverse, get_or-append}
use lib.Seq.{get_or_at}
use mathlib.Core.List.{List, [], ◌∷◌, reverse, reverse-cons}
use mathlib.Core.Path.{◌≡◌, refl, ◌∙◌, ap}
use native.Mathlib.Omega.{arith}
use Rattle.sheets.specs.Turning.{in_order, by_position}
use Rattle.sheets.specs.Readers.{listed_at}
use Rattle.sheets.specs.declared.Order.{Order}
use Rattle.sheets.specs.declared.Order.TheVariants.{First, Last}

module _ {A : Type 0} where
  -- turning keeps the length
  pub in-order-length : (order : Order) (xs : List A) → length (in_order order xs) ≡ length xs
  in-order-length First xs = refl
  in-order-length Last xs = length-reverse xs

  -- entry j from the left is entry i from the right
  pub far-end : (xs : List A) (i j : ℕ) (d : A) → i + j + 1 ≡ length xs → get_or (reverse xs) i d ≡ get_or xs j d
  far-end [] i j d h = absurd (omega arith)
  far-end (x ∷ xs) i zero d h = ap (λ (l : List A). get_or l i d) (reverse-cons x xs) ∙ get_or_at (reverse xs) x [] d i (length-reverse xs ∙ omega arith)
  far-end (x ∷ xs) i (suc j) d h =
      ap (λ (l : List A). get_or l i d) (reverse-cons x xs)
      ∙ get_or-append (reverse xs) (x ∷ []) d i (rw length-reverse (omega arith))
      ∙ far-end xs i j d (omega arith)

  -- the entry of a position is where it is listed
  pub in-order-entry : (order : Order) (xs : List A) (i : ℕ) (d : A) → i < length xs → get_or (in_order order xs) i d ≡ get_or xs (listed_at order (length xs) i) d
  in-order-entry First xs i d h = refl
  in-order-entry Last xs i d h = far-end xs i (length xs - 1 - i) d (omega arith)

-- as many blocks
pub by-position-length : (order : Order) (blocks : List (List ℤ)) → length (by_position order blocks) ≡ length blocks
by-position-length order [] = refl
by-position-length order (b ∷ bs) = ap suc (by-position-length order bs)

-- each of them turned
pub by-position-entry : (order : Order) (blocks : List (List ℤ)) (k : ℕ) → k < length blocks → get_or (by_position order blocks) k [] ≡ in_order order (get_or blocks k [])
by-position-entry order [] k h = absurd (omega arith)
by-position-entry order (b ∷ bs) zero h = refl
by-position-entry order (b ∷ bs) (suc k) h = by-position-entry order bs k (omega arith)
