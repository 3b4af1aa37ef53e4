-- A13, a code and its dual: in the same order of positions and without masks they have equal profiles. Stated of a matrix and two replies of
-- `prepare`, one to the matrix as G and one to it as H; "first depth over 12" is trellises/specs/Dual: `TooWideAt`.
use Rattle.std.proofs.Common.{Ok, Err}
use lib.ListN.{get_or, length}
use mathlib.Core.List.{List}
use mathlib.Core.Logic.{◌⊎◌}
use mathlib.Core.Path.{◌≡◌}
use Prim.Native.Nat.{◌+◌, ◌<◌, ◌^◌, ℕ, ◌≤◌}
use Rattle.plates.specs.Code.{InCode}
use Rattle.plates.specs.declared.Kind.TheVariants.{G, H}
use Rattle.plates.specs.declared.Prepared.{Prepared}
use Rattle.plates.specs.declared.Refusal.TheVariants.{TooWide}
use Rattle.plates.specs.Heads.{RowsOf}
use Rattle.plates.specs.Prepare.{Prepares}
use Rattle.plates.specs.Profile.{live_at}
use Rattle.trellises.proofs.DualProfiles.{dual-profiles}
use Rattle.trellises.proofs.DualReplies.{accepted-or-refused-both, dimensions-together, refused-at-same-depth, same_length, same_profile, same-verdict}
use Rattle.trellises.specs.Dual.{TooWideAt}
use Rattle.words.specs.Ends.{firsts, lasts}

-- the code and its dual have equal profiles: the rows of both plates, accepted or too wide
pub dual-profiles-equal : (n : ℕ) (matrix : List ℕ) → ((j : ℕ) → j < length matrix → get_or matrix j 0 < 2 ^ n)
    → (a b : List ℕ) → RowsOf (InCode G n matrix) a (firsts a) (lasts a) → RowsOf (InCode H n matrix) b (firsts b) (lasts b)
    → (t : ℕ) → t ≤ n → live_at a t ≡ live_at b t
dual-profiles-equal n matrix below a b p q = dual-profiles n matrix below a b p q

module _ (n : ℕ) (matrix : List ℕ) (r s : Prepared) (x : Prepares n G matrix 0 r) (y : Prepares n H matrix 0 s) where
  -- preparing the same valid matrix as G and as H is accepted both times or refused with 4 both times, and at the same depth
  pub dual-accepted-or-refused : 1 ≤ n → n ≤ 64 → length matrix ≤ 64 → ((j : ℕ) → j < length matrix → get_or matrix j 0 < 2 ^ n)
      → ((r.verdict ≡ Ok tt) × (s.verdict ≡ Ok tt)) ⊎ ((d : ℕ) × (r.verdict ≡ Err (TooWide d)) × (s.verdict ≡ Err (TooWide d)))
  dual-accepted-or-refused = accepted-or-refused-both n matrix r s x y

  -- that depth is the first over 12 of both plates
  pub dual-first-depth : (d : ℕ) → r.verdict ≡ Err (TooWide d)
      → (s.verdict ≡ Err (TooWide d)) × TooWideAt (InCode G n matrix) n d × TooWideAt (InCode H n matrix) n d
  dual-first-depth = refused-at-same-depth n matrix r s x y

  -- whatever the matrix, valid or not, the verdicts are the same
  pub dual-verdict : r.verdict ≡ s.verdict
  dual-verdict = same-verdict n matrix r s x y

  -- and so are the profiles that the two plates have, and their lengths
  pub dual-plate-profiles : (r.plate.profile ≡ s.plate.profile) × (r.plate.n ≡ s.plate.n)
  dual-plate-profiles = (same_profile n matrix r s x y, same_length n matrix r s x y)

  -- where they are accepted, k of the one and k of the other are n
  pub dual-dimensions : r.verdict ≡ Ok tt → r.plate.k + s.plate.k ≡ n
  dual-dimensions = dimensions-together n matrix r s x y
