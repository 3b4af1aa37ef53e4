-- Lines of a plate: refusal 5 comes first, and a prepared plate's lines fit 256 bytes.
use Rattle.std.proofs.Common.{Result, Err}
use Rattle.plates.specs.declared.Refusal.{Refusal}
use lib.ListN.{get_or, length}
use lib.Seq.{get_or-take, length-take-le}
use mathlib.Core.Bool.{Bool, false, true}
use mathlib.Core.List.{List}
use mathlib.Core.Path.{refl, sym, ◌≡◌}
use mir.Syntax.{w64}
use mir.Val.{Fits}
use native.Mathlib.Omega.{arith}
use Prim.Native.Nat.{◌+◌, ◌<◌, ℕ, ◌≤◌}
use Rattle.listings.proofs.Conditions.{passed_first, refused-first}
use Rattle.listings.proofs.Fits256.{profile-fits-256}
use Rattle.listings.specs.Lines.{profile_line}
use Rattle.listings.specs.Writing.{WritesLine, WritesOf, entries_of}
use Rattle.plates.proofs.SoundIsPrepared.{sound}
use Rattle.plates.specs.declared.Plate.{Plate}
use Rattle.plates.specs.declared.Refusal.TheVariants.{NotPrepared}
use Rattle.plates.specs.Prepare.{IsPrepared, Tests}

-- a plate that is not prepared
plate-refused : {plate : Plate} {line room : List ℕ} → (IsPrepared plate → ⊥) → WritesOf plate line room (Err NotPrepared) room
plate-refused h = refused-first (h, refl)

-- a prepared plate
pub plate-passed : {plate : Plate} {line room room' : List ℕ} {r : Result ℕ Refusal} → IsPrepared plate → WritesLine line room r room'
    → WritesOf plate line room r room'
plate-passed h w = passed_first (λ p f. f.0 h) w

module _ (plate : Plate) (p : IsPrepared plate) where
  -- n is at most 64
  pub short : plate.n ≤ 64
  short = (sound p).short

  -- the profile has the entries s(0) to s(n)
  pub entries-there : plate.n + 1 ≤ length plate.profile
  entries-there = omega (arith, (sound p).short, (sound p).entries)

  -- so many are in use
  pub entries-length : length (entries_of plate) ≡ plate.n + 1
  entries-length = length-take-le (plate.n + 1) plate.profile entries-there

  -- each is at most 12
  narrow : (t : ℕ) → t < length (entries_of plate) → get_or (entries_of plate) t 0 ≤ 12
  narrow t h =
      let l : t ≤ plate.n = omega (arith, entries-length) in
      let e : get_or (entries_of plate) t 0 ≡ get_or plate.profile t 0 = get_or-take (plate.n + 1) plate.profile t 0 (omega arith) in
      rw (e, (sound p).profile t l) ((sound p).narrow t l)

  -- so the line fits
  pub entries_fit : length (profile_line (entries_of plate)) ≤ 256
  entries_fit = profile-fits-256 (entries_of plate) (omega (arith, entries-length, short)) narrow

-- ---- by the test of the plate

module _ {plate : Plate} {p : Bool} (t : Tests plate p) where
  -- it says no
  pub untested : {line room : List ℕ} → p ≡ false → WritesOf plate line room (Err NotPrepared) room
  untested e = plate-refused (t.no_is e)

  -- it says yes
  module _ (e : p ≡ true) where
    given : IsPrepared plate
    given = t.yes_is e

    pub tested-short : plate.n ≤ 64
    tested-short = short plate given

    pub count_fits : Fits w64 (plate.n + 1)
    count_fits = record { fits = omega (arith, tested-short) }

    pub tested-length : plate.n + 1 ≡ length (entries_of plate)
    tested-length = sym (entries-length plate given)

    pub tested-fit : length (profile_line (entries_of plate)) ≤ 256
    tested-fit = entries_fit plate given

    pub tested : {line room room' : List ℕ} {r : Result ℕ Refusal} → WritesLine line room r room' → WritesOf plate line room r room'
    tested = plate-passed given
