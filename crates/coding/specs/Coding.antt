-- What encode and read back reply.
use Rattle.std.specs.Prelude.{ℕ, ◌^◌, ◌≤◌, ◌<◌, List, [], ◌∷◌, ◌≡◌, Result, Ok, Err}
use Rattle.std.specs.Int.Bits.{bit_xor}
use Rattle.words.specs.Sum.{sum_of}
use Rattle.plates.specs.declared.Plate.{Plate}
use Rattle.plates.specs.declared.Refusal.{Refusal}
use Rattle.plates.specs.declared.Refusal.TheVariants.{InformationBeyond, NoCodeword}
use Rattle.plates.specs.Prepare.{IsWord, not_prepared, rows_of}
use Rattle.plates.specs.Refusals.{Refuses, Passes}

-- 13: the information has a one at k or beyond
abbrev pub overlong : Plate → ℕ → Refusal → Type 0
overlong plate information q = (2 ^ plate.k ≤ information) × (q ≡ InformationBeyond)

-- 14: the word is no word of the plate
abbrev pub no_word : Plate → ℕ → Refusal → Type 0
no_word plate word q = (IsWord plate word → ⊥) × (q ≡ NoCodeword)

abbrev pub encode_conditions : Plate → ℕ → List (Refusal → Type 0)
encode_conditions plate information = not_prepared plate ∷ overlong plate information ∷ []

abbrev pub read_conditions : Plate → ℕ → List (Refusal → Type 0)
read_conditions plate word = not_prepared plate ∷ no_word plate word ∷ []

-- the word of the plate that information makes: bit j takes row j, and the mask is added
abbrev pub word_of : Plate → ℕ → ℕ
word_of plate information = bit_xor (sum_of (rows_of plate) information) plate.mask

-- encode: the word that the information makes
abbrev pub Encodes : Plate → ℕ → Result ℕ Refusal → Type 0
Encodes plate information (Ok word) = Passes (encode_conditions plate information) × (word ≡ word_of plate information)
Encodes plate information (Err q) = Refuses (encode_conditions plate information) q

-- read back: the information, with no one at k or beyond, that encodes to the word
abbrev pub ReadsBack : Plate → ℕ → Result ℕ Refusal → Type 0
ReadsBack plate word (Ok information) =
    Passes (read_conditions plate word) × (information < 2 ^ plate.k) × (word_of plate information ≡ word)
ReadsBack plate word (Err q) = Refuses (read_conditions plate word) q
