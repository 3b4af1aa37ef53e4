-- What `branch_parts` asks and replies, by the test of the plate, the section found and its weight.
use Rattle.std.proofs.Common.{Ok, Err, Option}
use lib.Bits.{bit_xor}
use lib.ListN.{length}
use lib.Seq.{length-take-le}
use mathlib.Core.Bool.{Bool, false, true}
use mathlib.Core.Logic.{inl, inr}
use mathlib.Core.Path.{ap, ap₂, refl, subst, sym, ◌∙◌, ◌≡◌}
use native.Mathlib.Omega.{arith}
use Prim.Native.Nat.{◌<◌, ◌^◌, ℕ, ◌≤◌}
use Rattle.plates.proofs.SoundIsPrepared.{sound}
use Rattle.plates.specs.declared.Plate.{Plate}
use Rattle.plates.specs.declared.Refusal.TheVariants.{NoSuchBranch, NotPrepared}
use Rattle.plates.specs.Prepare.{Tests, rows_of}
use Rattle.plates.specs.Sound.{Sound}
use Rattle.trellises.proofs.NextIsBranch.{found, found-live, next-branches, refused-twelve}
use Rattle.trellises.specs.Branching.{Branches}
use Rattle.trellises.specs.declared.Section.{Section}
use Rattle.trellises.specs.Following.{next_of}
use Rattle.trellises.specs.SectionOf.{held, section_of}
use Rattle.words.specs.Word.{bit}

module _ {plate : Plate} {p : Bool} (t : Tests plate p) where
  pub refused-five : {depth state asked : ℕ} → p ≡ false → Branches plate depth state asked (Err NotPrepared)
  refused-five e = inl (t.no_is e, refl)

  module _ (e : p ≡ true) where
    s : Sound plate
    s = sound (t.yes_is e)

    pub depth-over : {depth state asked : ℕ} → plate.n ≤ depth → Branches plate depth state asked (Err NoSuchBranch)
    depth-over h = refused-twelve plate s _ _ _ (inl h)

    pub bit-over : {depth state asked : ℕ} → 1 < asked → Branches plate depth state asked (Err NoSuchBranch)
    bit-over h = refused-twelve plate s _ _ _ (inr (inr h))

    -- the rows in use, as many as k
    pub used-count : plate.k ≡ length (rows_of plate)
    used-count = sym (length-take-le plate.k plate.rows (omega (arith, s.few, s.table)))

    module _ {depth : ℕ} (h : depth < plate.n) {c : Section} (is : c ≡ held (section_of (rows_of plate) depth)) where
      pub live-few : c.live ≤ 12
      live-few = (found-live s depth h c is).1

      pub live_small : c.live < 64
      live_small = omega (arith, (found-live s depth h c is).1)

      module _ {weight : ℕ} (w : weight ≡ 2 ^ c.live) {state : ℕ} where
        pub state-over : {asked : ℕ} → weight ≤ state → Branches plate depth state asked (Err NoSuchBranch)
        state-over l =
            refused-twelve plate s _ _ _
            (inr (inl (omega (arith, w, ap (λ (n : ℕ). 2 ^ n) (found-live s depth h c is).0, l))))

        pub state-there : state < weight → state < 2 ^ c.live
        state-there l = omega (arith, w, l)

        -- the branch of the section with the code's bit is the plate's with the bit that was asked for
        pub answered : {asked digit : ℕ} {r : Option ℕ} → state < weight → asked ≤ 1 → digit ≡ bit plate.mask depth
            → r ≡ next_of c state (bit_xor asked digit) → Branches plate depth state asked (Ok r)
        answered {asked} l small d e =
            subst (λ (z : Option ℕ). Branches plate depth state asked (Ok z))
            (sym (e ∙ ap₂ (λ (z : Section) (b : ℕ). next_of z state (bit_xor asked b)) (found s depth h c is) d))
            (next-branches plate s depth state asked h (omega (arith, w, ap (λ (n : ℕ). 2 ^ n) (found-live s depth h c is).0, l)) small)
