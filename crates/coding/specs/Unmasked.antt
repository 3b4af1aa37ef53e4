-- What encode and read back promised before plates had masks. With a zero mask they promise the same (proofs/ZeroMask).
use Rattle.std.specs.Prelude.{ℕ, ◌^◌, ◌<◌, List, [], ◌∷◌, ◌≡◌, Result, Ok, Err}
use Rattle.words.specs.Sum.{sum_of, IsSum}
use Rattle.plates.specs.declared.Plate.{Plate}
use Rattle.plates.specs.declared.Refusal.{Refusal}
use Rattle.plates.specs.declared.Refusal.TheVariants.{NoCodeword}
use Rattle.plates.specs.Prepare.{not_prepared, rows_of}
use Rattle.plates.specs.Refusals.{Refuses, Passes}
use Rattle.coding.specs.Coding.{encode_conditions}

-- encode: bit j of the information takes row j
abbrev pub EncodesCodeword : Plate → ℕ → Result ℕ Refusal → Type 0
EncodesCodeword plate information (Ok word) = Passes (encode_conditions plate information) × (word ≡ sum_of (rows_of plate) information)
EncodesCodeword plate information (Err q) = Refuses (encode_conditions plate information) q

-- 14: the word is no codeword
abbrev pub no_codeword : Plate → ℕ → Refusal → Type 0
no_codeword plate word q = (IsSum (rows_of plate) word → ⊥) × (q ≡ NoCodeword)

abbrev pub codeword_conditions : Plate → ℕ → List (Refusal → Type 0)
codeword_conditions plate word = not_prepared plate ∷ no_codeword plate word ∷ []

-- read back: the information, with no one at k or beyond, whose rows add up to the word
abbrev pub ReadsCodeword : Plate → ℕ → Result ℕ Refusal → Type 0
ReadsCodeword plate word (Ok information) =
    Passes (codeword_conditions plate word) × (information < 2 ^ plate.k) × (sum_of (rows_of plate) information ≡ word)
ReadsCodeword plate word (Err q) = Refuses (codeword_conditions plate word) q
