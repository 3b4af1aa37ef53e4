-- What the functions that compare plates promise one another: a search for the first of a plate's words that another plate does not have.
use Rattle.std.specs.Int.Bits.{bit_xor}
use Rattle.std.specs.Prelude.{None, Option, Some, eqb, Bool, cond, false, true, List, [], ◌∷◌, ◌⊎◌, ◌≡◌, ℕ}
use Rattle.decoding.specs.Cosets.{taken_off}
use Rattle.outlines.specs.Comparing.{Alone, Mirrors, Tells}
use Rattle.words.specs.Reversed.{reversed}
use Rattle.outlines.specs.declared.comparing.Told.{Told}
use Rattle.outlines.specs.declared.comparing.Told.TheVariants as T
use Rattle.plates.specs.declared.Plate.{Plate}
use Rattle.plates.specs.Prepare.{IsWord}
use Rattle.sheets.specs.declared.Order.{Order}
use Rattle.sheets.specs.declared.Order.TheVariants.{First, Last}
use Rattle.words.specs.Word.{Earlier}

-- a word as it is, or from the far end
abbrev pub read_from : Order → ℕ → ℕ → ℕ
read_from First n w = w
read_from Last n w = reversed n w

-- what is left of a word so read once a plate's mask and rows are taken off: nothing exactly of the plate's words
unfoldable pub left_of : Order → ℕ → List ℕ → ℕ → ℕ → ℕ
left_of order n rows mask w = taken_off rows (bit_xor (read_from order n w) mask)

-- what was found before, or the word where something is left of it
abbrev pub or_word : Option ℕ → ℕ → ℕ → Option ℕ
or_word (Some v) left w = Some v
or_word None left w = cond (eqb left 0) None (Some w)

-- the first word of which something is left: of the rest, and of each row from the last to the first, the later rows taken off and the rest added
abbrev pub first_out : (ℕ → ℕ) → ℕ → List ℕ → Option ℕ
first_out left rest [] = or_word None (left rest) rest
first_out left rest (row ∷ rows) = or_word (first_out left rest rows) (left (bit_xor (taken_off rows row) rest)) (bit_xor (taken_off rows row) rest)

-- the earliest word that is in P and not in Q, or that all words of P are in Q
abbrev pub OutsideAs : (P Q : ℕ → Type 0) → Option ℕ → Type 0
OutsideAs P Q None = (w : ℕ) → P w → Q w
OutsideAs P Q (Some w) = Alone P Q w × ((v : ℕ) → Alone P Q v → Earlier v w → ⊥)

-- of a plate's words, those that another plate has when they are so read
pub record Outside (order : Order) (a b : Plate) (r : Option ℕ) : Type 0 where
  pub is : OutsideAs (IsWord a) (λ w. IsWord b (read_from order a.n w)) r

-- whether all words of a plate are words of another from the far end
pub record TellsAll (a b : Plate) (r : Bool) : Type 0 where
  pub yes_is : r ≡ true → (w : ℕ) → IsWord a w → IsWord b (reversed a.n w)
  pub is_yes : ((w : ℕ) → IsWord a w → IsWord b (reversed a.n w)) → r ≡ true

-- whether the words of one plate are those of the other from the far end
pub record TellsMirrored (a b : Plate) (r : Bool) : Type 0 where
  pub yes_is : r ≡ true → Mirrors a.n (IsWord a) (IsWord b)
  pub is_yes : Mirrors a.n (IsWord a) (IsWord b) → r ≡ true

-- whether the first of two words that differ is the earlier one
pub record ComesFirst (w v : ℕ) (r : Bool) : Type 0 where
  pub yes_is : r ≡ true → (w ≡ v → ⊥) → Earlier w v
  pub no_is : r ≡ false → (w ≡ v → ⊥) → Earlier v w

-- the earlier of two words that differ, the first's or the second's
pub record EarlierTold (w v : ℕ) (r : Told) : Type 0 where
  pub is : (w ≡ v → ⊥) → ((r ≡ T.First w) × Earlier w v) ⊎ ((r ≡ T.Second v) × Earlier v w)

-- by the earliest word that each has alone
abbrev pub SettlesAs : Option ℕ → Option ℕ → Told → Type 0
SettlesAs (Some w) (Some v) r = EarlierTold w v r
SettlesAs (Some w) None r = r ≡ T.First w
SettlesAs None (Some v) r = r ≡ T.Second v
SettlesAs None None r = r ≡ T.Same

pub record Settles (first second : Option ℕ) (r : Told) : Type 0 where
  pub is : SettlesAs first second r

-- same where that is told, and else mirrored
abbrev pub unless_same : Told → Told
unless_same T.Same = T.Same
unless_same T.Mirrored = T.Mirrored
unless_same T.Lengths = T.Mirrored
unless_same (T.First w) = T.Mirrored
unless_same (T.Second w) = T.Mirrored

-- what is told of two plates
pub record ToldOf (a b : Plate) (r : Told) : Type 0 where
  pub is : Tells a.n b.n (IsWord a) (IsWord b) r
