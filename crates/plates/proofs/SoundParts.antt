-- A plate is sound exactly if its numbers are in range, its rows in use and their profile are sound, and its unused places are zero.
use lib.ListN.{get_or, length, take}
use mathlib.Core.List.{List}
use mathlib.Core.Path.{subst, sym, ◌≡◌}
use native.Mathlib.Omega.{arith}
use Prim.Native.Nat.{◌+◌, ◌<◌, ◌^◌, ℕ, ◌≤◌}
use Rattle.plates.proofs.HeadsClear.{cleared-reduced, reduced-cleared}
use Rattle.plates.proofs.SoundIsPrepared.{used-row, used-rows}
use Rattle.plates.specs.declared.Plate.{Plate}
use Rattle.plates.specs.Prepare.{of_parts}
use Rattle.plates.specs.Sound.{Sound}
use Rattle.plates.specs.Tested.{Standing, UsedSound, ZeroFrom}

module _ (n k mask : ℕ) (rows profile : List ℕ) (table : length rows ≡ 64) (entries : length profile ≡ 65) where
  -- the plate of these parts
  abbrev whole : Plate
  whole = of_parts n k mask rows profile

  -- the parts make it sound
  pub sound-parts : 1 ≤ n → n ≤ 64 → k ≤ 64 → mask < 2 ^ n → UsedSound n (take k rows) profile → ZeroFrom k rows → ZeroFrom (n + 1) profile
      → Sound (of_parts n k mask rows profile)
  sound-parts positive short few masked u r e = record {
    positive = positive;
    short = short;
    few = few;
    masked = masked;
    table = table;
    below = λ j l. subst (λ (x : ℕ). x < 2 ^ n) (used-row whole j l) (u.standing.below j (omega (arith, used-rows whole few table)));
    reduced = cleared-reduced (take k rows) u.standing.spans u.cleared;
    unused_rows = r.zeros;
    entries = entries;
    profile = u.profiled.entry;
    unused_entries = λ t h. e.zeros t (omega arith);
    narrow = u.profiled.narrow;
  }

  -- a sound plate has them all
  module _ (s : Sound (of_parts n k mask rows profile)) where
    pub used-part : UsedSound n (take k rows) profile
    used-part = record {
      standing = standing;
      cleared = reduced-cleared (take k rows) s.reduced.spans s.reduced;
      profiled = record { entry = s.profile; narrow = s.narrow };
    }
      where
        below : (j : ℕ) → j < length (take k rows) → get_or (take k rows) j 0 < 2 ^ n
        below j h =
            let l : j < k = omega (arith, used-rows whole s.few table) in
            subst (λ (x : ℕ). x < 2 ^ n) (sym (used-row whole j l)) (s.below j l)

        standing : Standing n (take k rows)
        standing = record { spans = s.reduced.spans; below = below }

    pub rows-part : (from : ℕ) → k ≤ from → ZeroFrom from rows
    rows-part from h = record { zeros = λ j l. s.unused_rows j (omega arith) }

    pub entries-part : ZeroFrom (n + 1) profile
    entries-part = record { zeros = λ t h. s.unused_entries t (omega arith) }
