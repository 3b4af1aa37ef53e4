-- Texts as this library's files have them: bytes and words, by their characters.
use Prim.Native.Char.{code}
use Rattle.std.specs.Prelude.{◌*◌, ◌+◌, ◌-◌, ℕ, List, [] as nothing, ◌∷◌ as ◌before◌}
use Prim.Native.String.{String, [], ◌∷◌}

-- the bytes of a text: the code of each of its characters
abbrev pub bytes : String → List ℕ
bytes [] = nothing
bytes (c ∷ text) = code c before bytes text

-- the word whose characters 0 and 1 these are, position 0 at the left
abbrev pub word : String → ℕ
word [] = 0
word (c ∷ text) = (code c - 48) + 2 * word text
