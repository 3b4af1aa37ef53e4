-- Tests of the replies of branch, encode and read back.
use Rattle.std.proofs.Common.{Result, Ok, Err, Option, Some, None}
use Rattle.plates.specs.declared.Refusal.{Refusal}
use lib.ListN.{length}
use mathlib.Core.Logic.{inl, inr, ◌⊎◌}
use mathlib.Core.Path.{refl, subst}
use native.Mathlib.Omega.{arith}
use Prim.Native.Nat.{◌<◌, ◌^◌, ℕ, ◌≤◌}
use Rattle.coding.proofs.PlateWords.{made-is-word}
use Rattle.coding.specs.Coding.{Encodes, ReadsBack, word_of}
use Rattle.demands.proofs.Checking.{Check, at_most, both, by, each, either, equal, less, some, unequal}
use Rattle.demands.proofs.CodeWords.{plate_words}
use Rattle.demands.proofs.PlatesChecked.{is_prepared}
use Rattle.demands.proofs.RefusalsChecked.{refusal}
use Rattle.plates.specs.declared.Plate.{Plate}
use Rattle.plates.specs.declared.Refusal.TheVariants.{InformationBeyond, NoCodeword, NoSuchBranch}
use Rattle.plates.specs.Prepare.{IsPrepared, IsWord, rows_of}
use Rattle.plates.specs.Profile.{live_at}
use Rattle.plates.specs.Refusals.{Passes}
use Rattle.trellises.specs.Branching.{Branches, branch_conditions, trellis_of}
use Rattle.trellises.specs.Graph.{Has, branch_at}

-- ---- branch

module _ (plate : Plate) (depth state bit : ℕ) where
  -- the question is not refused
  abbrev pub Asked : Type 0
  Asked = IsPrepared plate × ((depth < plate.n) × ((state < 2 ^ live_at (rows_of plate) depth) × (bit ≤ 1)))

  -- its test
  abbrev pub asked : Check Asked
  asked = both (is_prepared plate) (both (less depth plate.n) (both (less state (2 ^ live_at (rows_of plate) depth)) (at_most bit 1)))

  -- neither 5 nor 12
  pub asked-passes : Asked → Passes (branch_conditions plate depth state bit)
  asked-passes p = ((λ q c. c.0 p.0), ((λ q c. there c.0), tt))
    where
      there : (plate.n ≤ depth) ⊎ ((2 ^ live_at (rows_of plate) depth ≤ state) ⊎ (1 < bit)) → ⊥
      there (inl h) = omega (arith, h, p.1.0)
      there (inr (inl h)) = omega (arith, h, p.1.1.0)
      there (inr (inr h)) = omega (arith, h, p.1.1.1)

  -- some branch of the section leaves the state with the bit for the next
  abbrev pub leading : (next : ℕ) → Check (Has (trellis_of plate) depth state bit next)
  leading next =
      by (λ p. record { place = p.0; there = p.1; leaves = p.2.0; spells = p.2.1.0; leads = p.2.1.1 })
      (some (length ((trellis_of plate).branches depth)) (λ i.
      both (equal (branch_at (trellis_of plate) depth i).from state)
      (both (equal (branch_at (trellis_of plate) depth i).out bit) (equal (branch_at (trellis_of plate) depth i).to next))))

  -- each branch leaves another state, or has the other bit
  abbrev pub none_leading : Check ((next : ℕ) → Has (trellis_of plate) depth state bit next → ⊥)
  none_leading =
      by (λ p next h. elim (p h.place h.there) [ inl d ↦ d h.leaves | inr d ↦ d h.spells ])
      (each (length ((trellis_of plate).branches depth)) (λ i.
      either (unequal (branch_at (trellis_of plate) depth i).from state) (unequal (branch_at (trellis_of plate) depth i).out bit)))

  -- the reply to a branch asked for
  abbrev pub answered : (r : Result (Option ℕ) Refusal) → Check (Branches plate depth state bit r)
  answered (Ok (Some next)) = by (λ p. (asked-passes p.0, p.1)) (both asked (leading next))
  answered (Ok None) = by (λ p. (asked-passes p.0, p.1)) (both asked none_leading)
  answered (Err q) =
      by (λ p. inr ((λ x c. c.0 p.0), inl (p.1.0, p.1.1)))
      (both (is_prepared plate)
      (both (either (at_most plate.n depth) (either (at_most (2 ^ live_at (rows_of plate) depth) state) (less 1 bit))) (refusal q NoSuchBranch)))

-- ---- encode

-- the word, or refusal 13
abbrev pub encoded : (plate : Plate) (information : ℕ) (r : Result ℕ Refusal) → Check (Encodes plate information r)
encoded plate information (Ok word) =
    by (λ p. (((λ q c. c.0 p.0), ((λ q c. omega (arith, c.0, p.1.0)), tt)), p.1.1))
    (both (is_prepared plate) (both (less information (2 ^ plate.k)) (equal word (word_of plate information))))
encoded plate information (Err q) =
    by (λ p. inr ((λ x c. c.0 p.0), inl p.1)) (both (is_prepared plate) (both (at_most (2 ^ plate.k) information) (refusal q InformationBeyond)))

-- ---- read back

-- the information, or refusal 14
abbrev pub read_back : (plate : Plate) (word : ℕ) (r : Result ℕ Refusal) → Check (ReadsBack plate word r)
read_back plate word (Ok information) =
    by (λ p. (((λ q c. c.0 p.0), ((λ q c. c.0 (subst (IsWord plate) p.1.1 (made-is-word plate information))), tt)), p.1.0, p.1.1))
    (both (is_prepared plate) (both (less information (2 ^ plate.k)) (equal (word_of plate information) word)))
read_back plate word (Err q) =
    by (λ p. inr ((λ x c. c.0 p.0), inl ((λ g. p.1.0 word g refl), p.1.1)))
    (both (is_prepared plate) (both (plate_words plate (λ w. unequal w word)) (refusal q NoCodeword)))
