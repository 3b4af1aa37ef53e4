-- The sizes that a prepared plate's profile gives fit its rows, and are what document 01 says that decoding needs.
use lib.ListN.{get_or, length}
use lib.Pow.{pow-add, pow_mono}
use mathlib.Core.List.{List}
use mathlib.Core.Path.{ap, ap₂, subst, sym, ◌∙◌, ◌≡◌}
use native.Mathlib.Decide.{dec_lt}
use native.Mathlib.Nat.{le_refl, le_trans, mul-le-mul_left, mul-le-mul_right}
use native.Mathlib.Omega.{arith}
use Prim.Native.Nat.{◌*◌, ◌+◌, ◌-◌, ◌/◌, ◌<◌, ◌^◌, max, suc, zero, zero-le, ℕ, ◌≤◌}
use Rattle.decoding.proofs.BegunRows.{all_begun}
use Rattle.decoding.proofs.LiveMarks.{in_order, none-live-last}
use Rattle.decoding.proofs.MaskedWords.{rest_of}
use Rattle.decoding.proofs.PlateRowsOf.{plate-rows-of}
use Rattle.decoding.proofs.PlateWays.{plate-chain}
use Rattle.decoding.proofs.WidestStates.{widest-least, widest-most}
use Rattle.decoding.specs.declared.sweep.Sizes.{Sizes}
use Rattle.decoding.specs.Decode.{section_words, widest, widest_to}
use Rattle.decoding.specs.Needs.{ProfileFits, SizesOf, widest_entry}
use Rattle.decoding.specs.Sweeping.{SizesFit}
use Rattle.plates.proofs.ProfileSteps.{profile-end}
use Rattle.plates.proofs.SoundIsPrepared.{sound, used-rows}
use Rattle.plates.specs.declared.Plate.{Plate}
use Rattle.plates.specs.Prepare.{IsPrepared, rows_of}
use Rattle.plates.specs.Profile.{live_at}
use Rattle.trellises.proofs.PlateTrellis.{plate-fits, plate-spans}
use Rattle.trellises.proofs.SectionAgrees.{section-agrees}
use Rattle.trellises.specs.SectionOf.{section_of}
use Rattle.words.specs.Ends.{firsts}

-- a room of 64 bits a word has a bit for each state
words-enough : (m : ℕ) → 2 ^ m ≤ max 1 (2 ^ m / 64) * 64
words-enough m = go (dec_lt m 6)
  where
    go : Dec (m < 6) → 2 ^ m ≤ max 1 (2 ^ m / 64) * 64
    go (yes h) = let k : m ≤ 6 = omega arith in omega (arith, pow_mono k)
    go (no h) =
        let e : 2 ^ m ≡ 2 ^ (m - 6) * 2 ^ 6 = ap (λ (x : ℕ). 2 ^ x) (omega arith) ∙ pow-add 2 (m - 6) 6 in
        omega (arith, e)

words-few : (m : ℕ) → m ≤ 12 → max 1 (2 ^ m / 64) ≤ 64
words-few m h = omega (arith, pow_mono h)

-- the largest entry of the profile is the largest s(t)
widest-same : (profile rows : List ℕ) (n : ℕ) → ((t : ℕ) → t ≤ n → get_or profile t 0 ≡ live_at rows t) → widest_entry profile n ≡ widest_to rows n
widest-same profile rows zero h = h 0 zero-le
widest-same profile rows (suc n) h = ap₂ max (h (suc n) (le_refl (suc n))) (widest-same profile rows n (λ t k. h t (omega arith)))

module _ (plate : Plate) (given : IsPrepared plate) where
  pub profile-fits : ProfileFits plate.profile plate.n
  profile-fits t h = omega (arith, (sound given).profile t h, (sound given).narrow t h)

  pub rows-there : plate.k ≤ length plate.rows
  rows-there = omega (arith, (sound given).few, (sound given).table)

  -- the sizes of the plate, and the rest of its mask
  abbrev pub plate_sizes : Sizes
  plate_sizes = record { n = plate.n; k = plate.k; half = 2 ^ widest plate; words = section_words plate; rest = rest_of plate }

  pub entry-widest : widest_entry plate.profile plate.n ≡ widest plate
  entry-widest = widest-same plate.profile (rows_of plate) plate.n (sound given).profile

  pub sizes-are : (z : Sizes) → SizesOf plate z → z ≡ plate_sizes
  sizes-are z o =
      ap₂ (λ (a b : ℕ). record { n = a; k = b; half = z.half; words = z.words; rest = z.rest }) o.n_is o.k_is
      ∙ ap (λ (a : ℕ). record { n = plate.n; k = plate.k; half = z.half; words = z.words; rest = a }) o.rest_is
      ∙ ap₂ (λ (a b : ℕ). record { n = plate.n; k = plate.k; half = a; words = b; rest = rest_of plate })
      (o.half_is ∙ ap (λ (m : ℕ). 2 ^ m) entry-widest) (o.words_is ∙ ap (λ (m : ℕ). max 1 (2 ^ m / 64)) entry-widest)

  widest-small : widest plate ≤ 12
  widest-small = omega (arith, entry-widest, widest-most plate.profile plate.n profile-fits)

  -- a section's states are at most those of the widest depth
  section-states : (t : ℕ) → t ≤ plate.n → 2 ^ (section_of (rows_of plate) t).live ≤ 2 ^ widest plate
  section-states t h =
      let k : (section_of (rows_of plate) t).live ≤ widest plate =
      omega (arith, (section-agrees (rows_of plate) (plate-spans plate given) t).states, (sound given).profile t h, widest-least plate.profile plate.n t h, entry-widest) in
      pow_mono k

  pub plate-sizes-fit : SizesFit plate.rows plate_sizes
  plate-sizes-fit = record {
    plate = plate-rows-of (sound given);
    short = (sound given).short;
    chain = plate-chain plate given;
    half_room = section-states;
    half_small = pow_mono widest-small;
    words_room = λ w t h. omega (arith, section-states t (omega arith), words-enough (widest plate));
    words_small = words-few (widest plate) widest-small;
    end_state = omega (arith, (section-agrees (rows_of plate) (plate-spans plate given) plate.n).states, end);
    end_live = none-live-last (rows_of plate) plate.n (plate-fits plate given);
    all_begun = all_begun (rows_of plate) plate.n begun ∙ used-rows plate (sound given).few (sound given).table;
  }
    where
      begun : (j : ℕ) → j < length (rows_of plate) → firsts (rows_of plate) j < plate.n
      begun j h = omega (arith, plate-fits plate given j h, in_order (rows_of plate) (plate-spans plate given) j h)

      end : live_at (rows_of plate) plate.n ≡ 0
      end = profile-end plate (sound given)

  pub decision-need-small : plate.n * section_words plate ≤ 4096
  decision-need-small = le_trans (mul-le-mul_left plate.n (words-few (widest plate) widest-small)) (mul-le-mul_right 64 (sound given).short)

  -- the needs of sizes that were found
  module _ {z : Sizes} (of : SizesOf plate z) where
    pub metrics-fit : z.half + z.half < 2 ^ 64
    metrics-fit = omega (arith, ap (λ (y : Sizes). y.half) (sizes-are z of), plate-sizes-fit.half_small)

    pub decisions-fit : plate.n * z.words < 2 ^ 64
    decisions-fit = subst (λ (x : ℕ). plate.n * x < 2 ^ 64) (sym (ap (λ (y : Sizes). y.words) (sizes-are z of))) (omega (arith, decision-need-small))
