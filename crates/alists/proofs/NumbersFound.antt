-- Numbers, spaces and line feeds at a place of a text.
use borrow.Author.Tests.{eq-eqb, leb-true, ne_eqb}
use lib.Dec.{leb}
use lib.ListN.{drop, get_or, length}
use mathlib.Core.Bool.{Bool, ◌&&◌, false, true}
use mathlib.Core.List.{List, []}
use mathlib.Core.Path.{◌≡◌, refl}
use native.Mathlib.Decide.{dec_lt}
use native.Mathlib.Omega.{arith}
use Prim.Native.Nat.{◌*◌, ◌+◌, ◌-◌, ◌<◌, ℕ, ◌≤◌}
use Rattle.alists.proofs.Places.{done, here}
use Rattle.alists.specs.Lines.{faulty, feed_of, found, is_digit, more_of, next_of, nothing, number_of, reads, skipped}

pub both : (a b : Bool) → (a && b) ≡ true → (a ≡ true) × (b ≡ true)
both true b e = (refl, e)
both false b e = (e, cc)

pub all_true : {a b : Bool} → a ≡ true → b ≡ true → (a && b) ≡ true
all_true p q = rw (p, q)

-- what lies within a range lies between its ends
pub between : (l h x : ℕ) → (leb l x && leb x h) ≡ true → (l ≤ x) × (x ≤ h)
between l h x e = let p = both (leb l x) (leb x h) e in (leb-true l x p.0, leb-true x h p.1)

module _ (s : List ℕ) (at : ℕ) where
  -- ---- the line feed

  pub feed-end : length s ≤ at → feed_of (drop at s) ≡ faulty
  feed-end h = rw (done s at h)

  pub feed-other : at < length s → (get_or s at 0 ≡ 10 → ⊥) → feed_of (drop at s) ≡ faulty
  feed-other h e = rw (here s at h, ne_eqb (get_or s at 0) 10 e)

  pub feed-here : at < length s → get_or s at 0 ≡ 10 → feed_of (drop at s) ≡ reads [] (drop (at + 1) s)
  feed-here h e = rw (here s at h, eq-eqb (get_or s at 0) 10 e)

  -- ---- a number

  pub more-end : (d : ℕ) → length s ≤ at → more_of d (drop at s) ≡ found d (drop at s)
  more-end d h = rw (done s at h)

  pub more-other : (d : ℕ) → at < length s → is_digit (get_or s at 0) ≡ false → more_of d (drop at s) ≡ found d (drop at s)
  more-other d h e = rw (here s at h, e)

  pub more-zero : (d : ℕ) → at < length s → is_digit (get_or s at 0) ≡ true → d ≡ 0 → more_of d (drop at s) ≡ nothing
  more-zero d h e z = rw (here s at h, e, eq-eqb d 0 z)

  pub more-here : (d : ℕ) → at < length s → is_digit (get_or s at 0) ≡ true → (d ≡ 0 → ⊥)
      → more_of d (drop at s) ≡ found (d * 10 + (get_or s at 0 - 48)) (drop (at + 1) s)
  more-here d h e z = rw (here s at h, e, ne_eqb d 0 z)

  pub number-end : length s ≤ at → number_of (drop at s) ≡ nothing
  number-end h = rw (done s at h)

  pub number-other : at < length s → is_digit (get_or s at 0) ≡ false → number_of (drop at s) ≡ nothing
  number-other h e = rw (here s at h, e)

  -- no digit stands there
  pub number-none : (at < length s → is_digit (get_or s at 0) ≡ false) → number_of (drop at s) ≡ nothing
  number-none f = go (dec_lt at (length s))
    where
      go : Dec (at < length s) → number_of (drop at s) ≡ nothing
      go (yes h) = number-other h (f h)
      go (no h) = number-end (omega (arith, h))

  pub more-none : (d : ℕ) → (at < length s → is_digit (get_or s at 0) ≡ false) → more_of d (drop at s) ≡ found d (drop at s)
  more-none d f = go (dec_lt at (length s))
    where
      go : Dec (at < length s) → more_of d (drop at s) ≡ found d (drop at s)
      go (yes h) = more-other d h (f h)
      go (no h) = more-end d (omega (arith, h))

  pub number-here : at < length s → is_digit (get_or s at 0) ≡ true → number_of (drop at s) ≡ more_of (get_or s at 0 - 48) (drop (at + 1) s)
  number-here h e = rw (here s at h, e)

  -- ---- spaces

  pub skip-end : length s ≤ at → skipped (drop at s) ≡ drop at s
  skip-end h = rw (done s at h)

  pub skip-other : at < length s → (get_or s at 0 ≡ 32 → ⊥) → skipped (drop at s) ≡ drop at s
  skip-other h e = rw (here s at h, ne_eqb (get_or s at 0) 32 e)

  pub skip-here : at < length s → get_or s at 0 ≡ 32 → skipped (drop at s) ≡ skipped (drop (at + 1) s)
  skip-here h e = rw (here s at h, eq-eqb (get_or s at 0) 32 e)

  pub next-end : length s ≤ at → next_of (drop at s) ≡ nothing
  next-end h = rw (done s at h)

  pub next-other : at < length s → (get_or s at 0 ≡ 32 → ⊥) → next_of (drop at s) ≡ nothing
  next-other h e = rw (here s at h, ne_eqb (get_or s at 0) 32 e)

  pub next_here : at < length s → get_or s at 0 ≡ 32 → next_of (drop at s) ≡ number_of (skipped (drop (at + 1) s))
  next_here h e = rw (here s at h, eq-eqb (get_or s at 0) 32 e)
