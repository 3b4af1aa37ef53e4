-- A tally on paper: heard lines of one sample each, with the counters 65535, 0, 0, 40000, 3 and a refused one.
use Rattle.plates.specs.declared.Refusal.{Refusal}
use Rattle.decoding.specs.declared.Answer.{Answer}
use Rattle.std.proofs.Common.{◌≡◌, ℕ, List, [], ◌∷◌, pos, negsuc, refl, Result, Ok, Err}
use Rattle.plates.specs.declared.Refusal.TheVariants.{SampleCount}
use Rattle.reports.specs.Tally.{Heard, heards_of, tally_of}

abbrev found : ℕ → ℕ → Result Answer Refusal
found word size = Ok (record { word = word; metric = pos size; counts = record { additions = 2; comparisons = 1 } })

-- the second line's answer opposes its sample, the third repeats the second, the fourth is out of turn with a zero sample, the fifth
-- leaves 1 and 2 missing, the last is refused
abbrev heard : List Heard
heard =
    heards_of (65535 ∷ 0 ∷ 0 ∷ 40000 ∷ 3 ∷ 3 ∷ [])
    ((pos 5 ∷ []) ∷ (negsuc 4 ∷ []) ∷ (pos 7 ∷ []) ∷ (pos 0 ∷ []) ∷ (pos 1 ∷ []) ∷ [] ∷ [])
    (found 0 5 ∷ found 0 3 ∷ found 0 7 ∷ found 0 0 ∷ found 0 1 ∷ Err SampleCount ∷ [])

tally-on-paper : tally_of heard
    ≡ record { decoded = 4; refused = 1; repeated = 1; late = 1; missing = 2; opposing = 1; zeros = 1; above = 9; below = 0 }
tally-on-paper = refl
