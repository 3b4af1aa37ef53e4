-- A line written under a call's conditions, one condition after the other.
use Rattle.std.proofs.Common.{Result, Ok, Err}
use lib.ListN.{drop, length, length-drop, replicate, take}
use lib.Seq.{take_all}
use mathlib.Core.List.{◌++◌, List, [], ◌∷◌}
use mathlib.Core.Logic.{inl, inr}
use mathlib.Core.Path.{refl, ◌∙◌, ◌≡◌}
use native.Mathlib.Omega.{arith}
use Prim.Native.Nat.{◌-◌, ◌<◌, ℕ, ◌≤◌}
use Rattle.listings.proofs.Prepending.{built-stands}
use Rattle.listings.specs.Building.{Ends, Prepends}
use Rattle.listings.specs.Writing.{Writes, WritesLine}
use Rattle.plates.specs.declared.Refusal.{Refusal}
use Rattle.plates.specs.declared.Refusal.TheVariants.{LineRoom}

-- the first condition holds: the reply is its refusal
pub refused-first : {c : Refusal → Type 0} {cs : List (Refusal → Type 0)} {line room : List ℕ} {q : Refusal} → c q → Writes (c ∷ cs) line room (Err q) room
refused-first h = record { reply = (inl h, refl) }

-- the first condition does not hold: the reply is that of the others
pub passed_first : {c : Refusal → Type 0} {cs : List (Refusal → Type 0)} {line room room' : List ℕ} {r : Result ℕ Refusal} → ((p : Refusal) → c p → ⊥)
    → Writes cs line room r room' → Writes (c ∷ cs) line room r room'
passed_first {r = Err q} none w = record { reply = (inr (none, w.reply.0), w.reply.1) }
passed_first {r = Ok size} none w = record { reply = ((none, w.reply.0), w.reply.1, w.reply.2) }

-- no condition is left: the line is written
pub written : (line room : List ℕ) → Writes [] line room (Ok (length line)) (line ++ drop (length line) room)
written line room = record { reply = (tt, refl, refl) }

-- ---- a line and its room

-- a room that is too short
pub too_long : (line room : List ℕ) → length room < length line → WritesLine line room (Err LineRoom) room
too_long line room h = refused-first (h, refl)

-- a room that is long enough
pub fits-room : (line room : List ℕ) → length line ≤ length room → WritesLine line room (Ok (length line)) (line ++ drop (length line) room)
fits-room line room h = passed_first (λ p f. omega (arith, f.0)) (written line room)

-- the part of an array from `at` on, copied
pub tail_written : (array room copied : List ℕ) (at : ℕ) → Ends array at → 256 - at ≤ length room → copied ≡ take (256 - at) (drop at array)
    → WritesLine (drop at array) room (Ok (256 - at)) (copied ++ drop (256 - at) room)
tail_written array room copied at s h e =
    let l : length (drop at array) ≡ 256 - at = length-drop at array ∙ rw s.size in
    let a = take_all (256 - at) (drop at array) (omega (arith, l)) in
    rw (e, a, ← l) (fits-room (drop at array) room (omega (arith, l)))

-- a built line, written
pub built-written : {line array room room' : List ℕ} {at : ℕ} {r : Result ℕ Refusal} → length line ≤ 256 → Prepends (replicate 256 0) 256 line array at
    → WritesLine (drop at array) room r room' → WritesLine line room r room'
built-written short put w = rw (built-stands short put) at w
