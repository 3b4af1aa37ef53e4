-- Determined: two replies with rooms that meet the promise of a call are equal.
use Rattle.std.proofs.Common.{Result, Ok, Err}
use lib.IntN.{ℤ}
use lib.ListN.{drop, length}
use mathlib.Core.List.{◌++◌, List}
use mathlib.Core.Path.{ap, refl, sym, ◌∙◌, ◌≡◌}
use Prim.Native.Nat.{ℕ}
use Rattle.listings.specs.declared.Tally.{Tally}
use Rattle.listings.specs.Writing.{Writes, WritesAs, WritesEnd, WritesLeast, WritesLine, WritesNoLeast, WritesOf, WritesPlate, WritesProfile, WritesRefused, WritesTally, WritesWeight, WritesWord}
use Rattle.plates.proofs.Refusing.{Single, never_both, refuses-once}
use Rattle.plates.specs.declared.Plate.{Plate}
use Rattle.plates.specs.declared.Refusal.{Refusal}
use Rattle.plates.specs.Refusals.{Passes, Refuses}

-- one reply, and one room after it
abbrev pub Same : Result ℕ Refusal → Result ℕ Refusal → List ℕ → List ℕ → Type 0
Same r s a b = (r ≡ s) × (a ≡ b)

module _ (cs : List (Refusal → Type 0)) (single : Single cs) (line room : List ℕ) where
  -- by cases on the two replies
  by_cases : (r s : Result ℕ Refusal) (a b : List ℕ) → WritesAs cs line room a r → WritesAs cs line room b s → Same r s a b
  by_cases (Err p) (Err q) a b x y = (ap Err (refuses-once cs single p q x.0 y.0), x.1 ∙ sym y.1)
  by_cases (Err p) (Ok m) a b x y = absurd (never_both cs y.0 p x.0)
  by_cases (Ok l) (Err q) a b x y = absurd (never_both cs x.0 q y.0)
  by_cases (Ok l) (Ok m) a b x y = (ap Ok (x.1 ∙ sym y.1), x.2 ∙ sym y.2)

  -- two replies, with the rooms after them, that meet one promise are equal
  pub determined : {r s : Result ℕ Refusal} {a b : List ℕ} → Writes cs line room r a → Writes cs line room s b → Same r s a b
  determined {r} {s} {a} {b} x y = by_cases r s a b x.reply y.reply

  -- a condition refuses: the reply is its refusal, and the room is as it was
  pub must-refuse : {r : Result ℕ Refusal} {room' : List ℕ} → Writes cs line room r room' → (q : Refusal) → Refuses cs q → Same r (Err q) room' room
  must-refuse w q h = determined w (record { reply = (h, refl) })

  -- none does: the line is written
  pub must-write : {r : Result ℕ Refusal} {room' : List ℕ} → Writes cs line room r room' → Passes cs
      → Same r (Ok (length line)) room' (line ++ drop (length line) room)
  must-write w h = determined w (record { reply = (h, refl, refl) })

-- ---- the calls

-- each condition gives one refusal
once : {refusal : Refusal} {holds : Type 0} (p q : Refusal) → holds × (p ≡ refusal) → holds × (q ≡ refusal) → p ≡ q
once p q x y = x.1 ∙ sym y.1

module _ {room : List ℕ} {r s : Result ℕ Refusal} {a b : List ℕ} where
  -- a line that takes no plate
  line-determined : {line : List ℕ} → WritesLine line room r a → WritesLine line room s b → Same r s a b
  line-determined {line} = determined _ (once, tt) line room

  -- a line that takes one
  plate-determined : {plate : Plate} {line : List ℕ} → WritesOf plate line room r a → WritesOf plate line room s b → Same r s a b
  plate-determined {line = line} = determined _ (once, (once, tt)) line room

  pub write-plate-determined : (plate : Plate) → WritesPlate plate room r a → WritesPlate plate room s b → Same r s a b
  write-plate-determined plate = plate-determined

  pub write-profile-determined : (plate : Plate) → WritesProfile plate room r a → WritesProfile plate room s b → Same r s a b
  write-profile-determined plate = plate-determined

  pub write-word-determined : (plate : Plate) (word : ℕ) (metric : ℤ) (additions comparisons : ℕ)
      → WritesWord plate word metric additions comparisons room r a → WritesWord plate word metric additions comparisons room s b → Same r s a b
  write-word-determined plate word metric additions comparisons = plate-determined

  pub write-refused-determined : (number place field : ℕ) → WritesRefused number place field room r a → WritesRefused number place field room s b → Same r s a b
  write-refused-determined number place field = line-determined

  pub write-end-determined : (blocks : ℕ) → WritesEnd blocks room r a → WritesEnd blocks room s b → Same r s a b
  write-end-determined blocks = line-determined

  pub write-weight-determined : (weight count : ℕ) → WritesWeight weight count room r a → WritesWeight weight count room s b → Same r s a b
  write-weight-determined weight count = line-determined

  pub write-least-determined : (weight : ℕ) → WritesLeast weight room r a → WritesLeast weight room s b → Same r s a b
  write-least-determined weight = line-determined

  pub write-no-least-determined : WritesNoLeast room r a → WritesNoLeast room s b → Same r s a b
  write-no-least-determined = line-determined

  pub write-tally-determined : (tally : Tally) → WritesTally tally room r a → WritesTally tally room s b → Same r s a b
  write-tally-determined tally = line-determined
