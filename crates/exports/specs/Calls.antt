-- What every call of the interface promises: a code is returned, and the lent cells are left so.
use Rattle.std.specs.Prelude.{set, List, ◌⊎◌, ◌≡◌, ℕ}
use Rattle.plates.specs.declared.Refusal.{Refusal}
use Rattle.plates.specs.Refusals.{number, place}

-- the code of a call that is done
abbrev pub done : ℕ
done = 0

-- the code of the ordinary reply "no branch"
abbrev pub no_branch : ℕ
no_branch = 100

-- the code where a run is shorter than its use fixes, or a kind is neither G nor H
abbrev pub misshapen : ℕ
misshapen = 101

-- what crosses back: the code, and the lent cells as they are left
pub record Crossing (Lent : Type 0) : Type 0 where
  pub code : ℕ
  pub cells : Lent

-- some reply that the call below promises crosses as `out`
pub record Replies {Reply Lent : Type 0} (promise : Reply → Type 0) (crossing : Reply → Crossing Lent) (out : Crossing Lent) : Type 0 where
  pub reply : Reply
  pub promised : promise reply
  pub crosses : out ≡ crossing reply

-- The promise of a call: without the fixed shape the code says so and nothing lent changes; with it, a reply of the call below crosses
pub record Calls {Reply Lent : Type 0} (shape : Type 0) (before : Lent) (promise : Reply → Type 0) (crossing : Reply → Crossing Lent) (out : Crossing Lent) : Type 0 where
  pub by_shape : ((shape → ⊥) × (out ≡ record { code = misshapen; cells = before })) ⊎ (shape × Replies promise crossing out)

-- a refusal crosses by its number, and its place stands in the first cell
pub record RefusedAt (refusal : Refusal) (at : List ℕ) (r : ℕ) (at' : List ℕ) : Type 0 where
  pub number_is : r ≡ number refusal
  pub place_is : at' ≡ set at 0 (place refusal)
