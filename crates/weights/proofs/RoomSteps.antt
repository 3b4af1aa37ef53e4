-- The loops over a room: the counts copied one by one, and looked through one by one.
use lib.ListN.{get_or, length, length-set, set}
use lib.Seq.{get_or-set_other, get_or-set_same}
use mathlib.Core.List.{List}
use mathlib.Core.Path.{refl, subst, ◌∙◌, ◌≡◌}
use native.Mathlib.Decide.{dec_lt}
use native.Mathlib.Omega.{arith}
use Prim.Native.Nat.{◌+◌, ◌<◌, ℕ, ◌≤◌}
use Rattle.weights.specs.Rooms.{Copied}

module _ (working : List ℕ) (from : ℕ) (counts : List ℕ) where
  pub copied_none : Copied working from counts 0 counts
  copied_none = record { size = refl; here = λ w h. absurd (omega arith); behind = λ i h. refl }

  pub copied_more : {counts' : List ℕ} {m : ℕ} → m < length counts → Copied working from counts m counts'
      → Copied working from counts (m + 1) (set counts' m (get_or working (from + m) 0))
  copied_more {counts'} {m} l k = record {
    size = length-set counts' m (get_or working (from + m) 0) ∙ k.size;
    here = λ w h. here w h (dec_lt w m);
    behind = λ i h. get_or-set_other counts' m i (get_or working (from + m) 0) 0 (λ e. omega arith) ∙ k.behind i (omega arith);
  }
    where
      here : (w : ℕ) → w < m + 1 → Dec (w < m) → get_or (set counts' m (get_or working (from + m) 0)) w 0 ≡ get_or working (from + w) 0
      here w h (yes b) = get_or-set_other counts' m w (get_or working (from + m) 0) 0 (λ e. omega arith) ∙ k.here w b
      here w h (no b) =
          let e : m ≡ w = omega arith in
          subst (λ (x : ℕ). get_or (set counts' m (get_or working (from + m) 0)) x 0 ≡ get_or working (from + x) 0) e
          (get_or-set_same counts' m (get_or working (from + m) 0) 0 (omega (arith, k.size)))

-- the counts from weight 1 to before w are zero
abbrev pub NoneBefore : List ℕ → ℕ → Type 0
NoneBefore counts w = (v : ℕ) → 0 < v → v < w → get_or counts v 0 ≡ 0

pub none_more : (counts : List ℕ) (w : ℕ) → NoneBefore counts w → get_or counts w 0 ≤ 0 → NoneBefore counts (w + 1)
none_more counts w n z v a h = go (dec_lt v w)
  where
    go : Dec (v < w) → get_or counts v 0 ≡ 0
    go (yes b) = n v a b
    go (no b) = let e : w ≡ v = omega arith in subst (λ (x : ℕ). get_or counts x 0 ≡ 0) e (omega arith)
