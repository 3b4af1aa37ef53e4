-- A row is active in section t exactly if it begins at or before t and ends at or after t.
use lib.Dec.{T, leb, leb→le, le→leb}
use Prim.Native.Nat.{ℕ, ◌≤◌}
use Rattle.plates.proofs.Live.{and_left, and_right, and-true}
use Rattle.trellises.specs.States.{active}

module _ (f l : ℕ → ℕ) where
  pub is-active : (t j : ℕ) → f j ≤ t → t ≤ l j → T (active f l t j)
  is-active t j a b = and-true (leb (f j) t) (leb t (l j)) (le→leb (f j) t a) (le→leb t (l j) b)

  pub active-is : (t j : ℕ) → T (active f l t j) → (f j ≤ t) × (t ≤ l j)
  active-is t j a = (leb→le (f j) t (and_left (leb (f j) t) (leb t (l j)) a), leb→le t (l j) (and_right (leb (f j) t) (leb t (l j)) a))
