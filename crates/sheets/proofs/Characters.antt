-- How large the word of a row's characters is.
use Prim.Native.Nat.{ℕ, ◌+◌, ◌*◌, ◌^◌, ◌<◌}
use lib.Dec.{eqb}
use lib.ListN.{length}
use mathlib.Core.Bool.{Bool, true, false, cond}
use mathlib.Core.List.{List, [], ◌∷◌}
use native.Mathlib.Omega.{arith}
use Rattle.sheets.specs.Rows.{bit_of, word_from}
use Rattle.sheets.proofs.Digits.{grow, grown}

bit-case : (t : Bool) → cond t 1 0 < 2
bit-case true = omega arith
bit-case false = omega arith

pub bit_small : (x : ℕ) → bit_of x < 2
bit_small x = bit-case (eqb x 49)

-- a word of so many characters stays below that power of 2
pub word_small : (s : List ℕ) → word_from s < 2 ^ length s
word_small [] = omega arith
word_small (x ∷ xs) = grow 2 (word_from xs) (bit_of x) (length xs) (word_small xs) (bit_small x)

pub word_room : (s : List ℕ) (d m : ℕ) → length s < m → d < 2 → word_from s * 2 + d < 2 ^ m
word_room s d m h k = grown 2 (word_from s) d (length s) m (omega arith) (word_small s) k h
