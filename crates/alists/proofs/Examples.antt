-- Texts read, and texts in our form, as examples.
use lib.ListN.{get_or, length}
use mathlib.Core.Bool.{false, true}
use mathlib.Core.List.{List, [], ◌∷◌}
use mathlib.Core.Path.{◌≡◌, ap, refl}
use native.Mathlib.Omega.{arith}
use Prim.Native.Nat.{ℕ}
use Rattle.alists.proofs.OwnFormKeeps.{own-form-keeps, own-spaces}
use Rattle.alists.specs.Accepted.{ordered}
use Rattle.alists.specs.Lists.{indices, weight}
use Rattle.alists.specs.OwnForm.{OwnForm, ascend}
use Rattle.alists.specs.Reading.{fault_in, matrix, reading}
use Rattle.alists.specs.Text.{matrix_text}

-- one row with a one in each of two columns
plain : reading (50 ∷ 32 ∷ 49 ∷ 10 ∷ 49 ∷ 32 ∷ 50 ∷ 10 ∷ 49 ∷ 32 ∷ 49 ∷ 10 ∷ 50 ∷ 10 ∷ 49 ∷ 10 ∷ 49 ∷ 10 ∷ 49 ∷ 32 ∷ 50 ∷ 10 ∷ []) ≡ matrix 2 (3 ∷ [])
unfolding reading
plain = refl

-- several spaces for one, and indices in any order
loose : reading (50 ∷ 32 ∷ 49 ∷ 10 ∷ 49 ∷ 32 ∷ 50 ∷ 10 ∷ 49 ∷ 32 ∷ 49 ∷ 10 ∷ 50 ∷ 10 ∷ 49 ∷ 10 ∷ 49 ∷ 10 ∷ 50 ∷ 32 ∷ 32 ∷ 32 ∷ 49 ∷ 10 ∷ []) ≡ matrix 2 (3 ∷ [])
unfolding reading
loose = refl

-- an index twice in the last line
repeated : reading (50 ∷ 32 ∷ 49 ∷ 10 ∷ 49 ∷ 32 ∷ 50 ∷ 10 ∷ 49 ∷ 32 ∷ 49 ∷ 10 ∷ 50 ∷ 10 ∷ 49 ∷ 10 ∷ 49 ∷ 10 ∷ 49 ∷ 32 ∷ 49 ∷ 10 ∷ []) ≡ fault_in 7
unfolding reading
repeated = refl

-- a space after the last number
trailing : reading (50 ∷ 32 ∷ 49 ∷ 10 ∷ 49 ∷ 32 ∷ 50 ∷ 10 ∷ 49 ∷ 32 ∷ 49 ∷ 10 ∷ 50 ∷ 10 ∷ 49 ∷ 10 ∷ 49 ∷ 10 ∷ 49 ∷ 32 ∷ 50 ∷ 32 ∷ 10 ∷ []) ≡ fault_in 7
unfolding reading
trailing = refl

-- the last line is not ended
unended : reading (50 ∷ 32 ∷ 49 ∷ 10 ∷ 49 ∷ 32 ∷ 50 ∷ 10 ∷ 49 ∷ 32 ∷ 49 ∷ 10 ∷ 50 ∷ 10 ∷ 49 ∷ 10 ∷ 49 ∷ 10 ∷ 49 ∷ 32 ∷ 50 ∷ []) ≡ fault_in 7
unfolding reading
unended = refl

-- the last line is missing
missing : reading (50 ∷ 32 ∷ 49 ∷ 10 ∷ 49 ∷ 32 ∷ 50 ∷ 10 ∷ 49 ∷ 32 ∷ 49 ∷ 10 ∷ 50 ∷ 10 ∷ 49 ∷ 10 ∷ 49 ∷ 10 ∷ []) ≡ fault_in 7
unfolding reading
missing = refl

-- a line more
extra : reading (50 ∷ 32 ∷ 49 ∷ 10 ∷ 49 ∷ 32 ∷ 50 ∷ 10 ∷ 49 ∷ 32 ∷ 49 ∷ 10 ∷ 50 ∷ 10 ∷ 49 ∷ 10 ∷ 49 ∷ 10 ∷ 49 ∷ 32 ∷ 50 ∷ 10 ∷ 10 ∷ []) ≡ fault_in 8
unfolding reading
extra = refl

-- a largest column weight that is not met
unmet : reading (50 ∷ 32 ∷ 50 ∷ 10 ∷ 50 ∷ 32 ∷ 50 ∷ 10 ∷ 49 ∷ 32 ∷ 49 ∷ 10 ∷ 50 ∷ 32 ∷ 48 ∷ 10 ∷ []) ≡ fault_in 3
unfolding reading
unmet = refl

-- no ones: lists of no numbers
zeros : reading (49 ∷ 32 ∷ 49 ∷ 10 ∷ 48 ∷ 32 ∷ 48 ∷ 10 ∷ 48 ∷ 10 ∷ 48 ∷ 10 ∷ 10 ∷ 10 ∷ []) ≡ matrix 1 (0 ∷ [])
unfolding reading
zeros = refl

-- ---- our form

-- the first text is in our form
plain-own : OwnForm (50 ∷ 32 ∷ 49 ∷ 10 ∷ 49 ∷ 32 ∷ 50 ∷ 10 ∷ 49 ∷ 32 ∷ 49 ∷ 10 ∷ 50 ∷ 10 ∷ 49 ∷ 10 ∷ 49 ∷ 10 ∷ 49 ∷ 32 ∷ 50 ∷ 10 ∷ [])
plain-own = record {
  lines = (2 ∷ 1 ∷ []) ∷ (1 ∷ 2 ∷ []) ∷ (1 ∷ 1 ∷ []) ∷ (2 ∷ []) ∷ (1 ∷ []) ∷ (1 ∷ []) ∷ (1 ∷ 2 ∷ []) ∷ [];
  numbers = refl;
  is = refl;
  indices = refl;
}

-- with two spaces in its last line it reads as the same matrix and is not
abbrev spaced : List ℕ
spaced = 50 ∷ 32 ∷ 49 ∷ 10 ∷ 49 ∷ 32 ∷ 50 ∷ 10 ∷ 49 ∷ 32 ∷ 49 ∷ 10 ∷ 50 ∷ 10 ∷ 49 ∷ 10 ∷ 49 ∷ 10 ∷ 49 ∷ 32 ∷ 32 ∷ 50 ∷ 10 ∷ []

spaced-read : reading spaced ≡ matrix 2 (3 ∷ [])
unfolding reading
spaced-read = refl

spaced-not-own : OwnForm spaced → ⊥
spaced-not-own f = let l : ◌≡◌ {A = ℕ} 22 23 = ap length (own-spaces spaced f) in omega (arith, l)

-- with its last indices the other way round likewise
abbrev turned : List ℕ
turned = 50 ∷ 32 ∷ 49 ∷ 10 ∷ 49 ∷ 32 ∷ 50 ∷ 10 ∷ 49 ∷ 32 ∷ 49 ∷ 10 ∷ 50 ∷ 10 ∷ 49 ∷ 10 ∷ 49 ∷ 10 ∷ 50 ∷ 32 ∷ 49 ∷ 10 ∷ []

turned-read : reading turned ≡ matrix 2 (3 ∷ [])
unfolding reading
turned-read = refl

turned-not-own : OwnForm turned → ⊥
unfolding matrix_text weight indices
turned-not-own f =
    let c : ◌≡◌ {A = ℕ} 49 50 = ap (λ (s : List ℕ). get_or s 18 0) (own-form-keeps turned 2 (3 ∷ []) f turned-read) in
    omega (arith, c)

-- zeros behind the indices are no indices, and an index twice does not ascend
zeros-behind : ascend (3 ∷ 5 ∷ 0 ∷ 0 ∷ []) ≡ true
zeros-behind = refl

twice : ascend (3 ∷ 3 ∷ []) ≡ false
twice = refl

-- what reading accepts is put in order up to the zeros
put-in-order : ordered (5 ∷ 1 ∷ 3 ∷ 0 ∷ 0 ∷ []) ≡ 1 ∷ 3 ∷ 5 ∷ 0 ∷ 0 ∷ []
put-in-order = refl

zero-first : ordered (5 ∷ 0 ∷ 3 ∷ []) ≡ 5 ∷ 0 ∷ 3 ∷ []
zero-first = refl
