-- Some of k places, chosen by a test: how many pass, and a number's digits put to those places or gathered from them.
use Rattle.std.specs.Prelude.{ℕ, zero, suc, ◌+◌, ◌*◌, ◌/◌, ◌%◌, Bool, true, false}

abbrev pub more : Bool → ℕ → ℕ
more true n = suc n
more false n = n

-- how many of the places 0 to k - 1 pass
abbrev pub count : ℕ → (ℕ → Bool) → ℕ
count zero P = 0
count (suc k) P = more (P 0) (count k (λ j. P (suc j)))

abbrev pub pull : Bool → ℕ → ℕ → ℕ
pull true d rest = rest * 2 + d
pull false d rest = rest

-- the digits that u has at the places that pass, as one number: the lowest place has weight 1, the next 2, and so on
abbrev pub gather : ℕ → (ℕ → Bool) → ℕ → ℕ
gather zero P u = 0
gather (suc k) P u = pull (P 0) (u % 2) (gather k (λ j. P (suc j)) (u / 2))

abbrev pub put : Bool → (ℕ → ℕ) → ℕ → ℕ
put true rest v = rest (v / 2) * 2 + v % 2
put false rest v = rest v * 2

-- the digits of v, lowest first, at the places that pass, and 0 at the others
abbrev pub spread : ℕ → (ℕ → Bool) → ℕ → ℕ
spread zero P v = 0
spread (suc k) P v = put (P 0) (spread k (λ j. P (suc j))) v
