-- What is told of two sheets: that they have the same words, that one has the other's from the far end, or the earliest word that one of them has alone.
use Rattle.plates.specs.declared.Refusal.{Refusal}
use Rattle.std.specs.Prelude.{List, [], ◌∷◌, ◌↔◌, ◌⊎◌, ◌≡◌, ◌<◌, ◌^◌, ℕ, Result, Ok, Err}
use Rattle.listings.specs.Lines.{line, positions}
use Rattle.listings.specs.Writing.{WritesLine}
use Rattle.outlines.specs.declared.comparing.Told.{Told}
use Rattle.outlines.specs.declared.comparing.Told.TheVariants.{First, Lengths, Mirrored, Same, Second}
use Rattle.outlines.specs.declared.Compared.{Compared}
use Rattle.outlines.specs.declared.Compared.TheVariants as C
use Rattle.outlines.specs.declared.Uncompared.{Uncompared}
use Rattle.outlines.specs.declared.Uncompared.TheVariants as U
use Rattle.outlines.specs.declared.opening.Which.TheVariants.{Own}
use Rattle.outlines.specs.Opening.{Opened}
use Rattle.plates.specs.declared.Plate.{Plate}
use Rattle.plates.specs.declared.Prepared.{Prepared}
use Rattle.plates.specs.Prepare.{IsWord}
use Rattle.words.specs.Letters.{bytes}
use Rattle.words.specs.Reversed.{reversed}
use Rattle.words.specs.Word.{Earlier}

-- ---- two sets of words

-- the words of one are those of the other
abbrev pub Equal : (P Q : ℕ → Type 0) → Type 0
Equal P Q = (w : ℕ) → P w ↔ Q w

-- the words of n positions of one are those of the other from the far end
abbrev pub Mirrors : ℕ → (P Q : ℕ → Type 0) → Type 0
Mirrors n P Q = (w : ℕ) → w < 2 ^ n → P w ↔ Q (reversed n w)

-- a word that the first has alone
abbrev pub Alone : (P Q : ℕ → Type 0) → ℕ → Type 0
Alone P Q w = P w × (Q w → ⊥)

-- no word that either has alone is earlier
abbrev pub NoneEarlier : (P Q : ℕ → Type 0) → ℕ → Type 0
NoneEarlier P Q w = (v : ℕ) → Alone P Q v ⊎ Alone Q P v → Earlier v w → ⊥

-- what is told of words P of length n and words Q of length m: same comes before mirrored, and a word only where neither holds
abbrev pub Tells : (n m : ℕ) (P Q : ℕ → Type 0) → Told → Type 0
Tells n m P Q Lengths = n ≡ m → ⊥
Tells n m P Q Same = (n ≡ m) × Equal P Q
Tells n m P Q Mirrored = (n ≡ m) × (Equal P Q → ⊥) × Mirrors n P Q
Tells n m P Q (First w) = (n ≡ m) × (Mirrors n P Q → ⊥) × Alone P Q w × NoneEarlier P Q w
Tells n m P Q (Second w) = (n ≡ m) × (Mirrors n P Q → ⊥) × Alone Q P w × NoneEarlier P Q w

-- ---- the line

-- same; mirrored; other; or other, the word with position 0 at the left, and whose it is
unfoldable pub told_line : ℕ → Told → List ℕ
told_line n Same = line (bytes "same") []
told_line n Mirrored = line (bytes "mirrored") []
told_line n Lengths = line (bytes "other") []
told_line n (First w) = line (bytes "other") (positions w 0 n ∷ bytes "first" ∷ [])
told_line n (Second w) = line (bytes "other") (positions w 0 n ∷ bytes "second" ∷ [])

-- ---- the call

-- the line's length, and whether it says same
abbrev pub compared_as : Told → ℕ → Compared
compared_as Same size = C.Same size
compared_as Mirrored size = C.Different size
compared_as Lengths size = C.Different size
compared_as (First w) size = C.Different size
compared_as (Second w) size = C.Different size

-- or refusal 11
abbrev pub replied_as : Told → Result ℕ Refusal → Result Compared Uncompared
replied_as told (Err q) = Err (U.Room q)
replied_as told (Ok size) = Ok (compared_as told size)

-- two plates: the line that is told of their words at the start of the room, or 11
pub record WritesTold (a b : Plate) (room : List ℕ) (r : Result Compared Uncompared) (room' : List ℕ) : Type 0 where
  pub told : Told
  pub tells : Tells a.n b.n (IsWord a) (IsWord b) told
  pub written : Result ℕ Refusal
  pub puts : WritesLine (told_line a.n told) room written room'
  pub is : r ≡ replied_as told written

-- by the verdict on the second input: its refusal, and the room as it was; or the line
abbrev pub SecondBy : Result (Unit {0}) Refusal → Plate → Plate → List ℕ → Result Compared Uncompared → List ℕ → Type 0
SecondBy (Err q) a b room r room' = (r ≡ Err (U.Second q)) × (room' ≡ room)
SecondBy (Ok _) a b room r room' = WritesTold a b room r room'

-- a plate, and an input
pub record ComparesPlate (a : Plate) (second room : List ℕ) (r : Result Compared Uncompared) (room' : List ℕ) : Type 0 where
  pub prepared : Prepared
  pub opened : Opened Own second prepared
  pub is : SecondBy prepared.verdict a prepared.plate room r room'

-- by the verdict on the first input, which comes before the second's
abbrev pub FirstBy : Result (Unit {0}) Refusal → Plate → List ℕ → List ℕ → Result Compared Uncompared → List ℕ → Type 0
FirstBy (Err q) a second room r room' = (r ≡ Err (U.First q)) × (room' ≡ room)
FirstBy (Ok _) a second room r room' = ComparesPlate a second room r room'

-- the promise of `write_same`
pub record WritesSame (first second room : List ℕ) (r : Result Compared Uncompared) (room' : List ℕ) : Type 0 where
  pub prepared : Prepared
  pub opened : Opened Own first prepared
  pub is : FirstBy prepared.verdict prepared.plate second room r room'

-- what is told of two inputs that are not refused, and the text that is written for them where there is room
pub record PrintsTold (first second text : List ℕ) (told : Told) : Type 0 where
  pub one : Prepared
  pub other : Prepared
  pub opened_one : Opened Own first one
  pub opened_other : Opened Own second other
  pub accepted_one : one.verdict ≡ Ok tt
  pub accepted_other : other.verdict ≡ Ok tt
  pub tells : Tells one.plate.n other.plate.n (IsWord one.plate) (IsWord other.plate) told
  pub is : text ≡ told_line one.plate.n told
