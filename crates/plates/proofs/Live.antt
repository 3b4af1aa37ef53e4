-- A row is live at t exactly if its first one is before t and its last one at t or after.
use lib.Dec.{T, leb, leb→le, le→leb, ltb, ltb→lt, lt→ltb}
use mathlib.Core.Bool.{◌&&◌, Bool, false, true}
use Prim.Native.Nat.{◌<◌, ℕ, ◌≤◌}
use Rattle.plates.specs.Profile.{live}

pub and_left : (a b : Bool) → T (a && b) → T a
and_left true b t = tt
and_left false b t = t

pub and_right : (a b : Bool) → T (a && b) → T b
and_right true b t = t
and_right false b t = absurd t

pub and-true : (a b : Bool) → T a → T b → T (a && b)
and-true true b s t = t
and-true false b s t = s

module _ (f l : ℕ → ℕ) where
  pub is_live : (t j : ℕ) → f j < t → t ≤ l j → T (live f l t j)
  is_live t j a b = and-true (ltb (f j) t) (leb t (l j)) (lt→ltb (f j) t a) (le→leb t (l j) b)

  pub live_is : (t j : ℕ) → T (live f l t j) → (f j < t) × (t ≤ l j)
  live_is t j a = (ltb→lt (f j) t (and_left (ltb (f j) t) (leb t (l j)) a), leb→le t (l j) (and_right (ltb (f j) t) (leb t (l j)) a))
