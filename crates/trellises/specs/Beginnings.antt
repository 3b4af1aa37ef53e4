-- Beginnings of words: their continuations, from which Massey makes the states of his trellis, and their partial syndrome, from which Wolf makes his.
use Rattle.std.specs.Prelude.{get_or, length, List, ◌↔◌, ◌≡◌, ◌%◌, ◌*◌, ◌+◌, ◌/◌, ◌<◌, ◌^◌, suc, zero, ℕ}
use Rattle.words.specs.Parity.{parity}

-- the positions of a before t, and those of b from t on
unfoldable pub splice : ℕ → ℕ → ℕ → ℕ
splice zero a b = b
splice (suc t) a b = splice t (a / 2) (b / 2) * 2 + a % 2

-- the beginnings of a and b at depth t have the same continuations: what makes the one a word of C makes the other one too
abbrev pub SameContinuations : (ℕ → Type 0) → ℕ → ℕ → ℕ → Type 0
SameContinuations C t a b = (c : ℕ) → C (splice t a c) ↔ C (splice t b c)

-- the beginning of a word at depth t: its first t positions
abbrev pub beginning : ℕ → ℕ → ℕ
beginning t w = w % 2 ^ t

-- Wolf's state at depth t is H^h c^h, from the first t columns of the parity-check matrix and the first t positions of the word; its
-- entry for a check is the parity of the check with the beginning
abbrev pub syndrome : List ℕ → ℕ → ℕ → ℕ → ℕ
syndrome checks t w j = parity (get_or checks j 0) (beginning t w)

-- the beginnings of a and b at depth t have the same partial syndrome
abbrev pub SameSyndrome : List ℕ → ℕ → ℕ → ℕ → Type 0
SameSyndrome checks t a b = (j : ℕ) → j < length checks → syndrome checks t a j ≡ syndrome checks t b j
