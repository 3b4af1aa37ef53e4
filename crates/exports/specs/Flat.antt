-- A plate as it crosses the interface: a flat run of 132 words, n, k, 64 rows, 65 profile entries and the mask.
use Rattle.std.specs.Prelude.{drop, get_or, take, ◌++◌, List, [], ◌∷◌, ℕ}
use Rattle.plates.specs.declared.Plate.{Plate}
use Rattle.plates.specs.Prepare.{of_parts}

-- the rows of a flat plate
abbrev pub flat_rows : List ℕ → List ℕ
flat_rows words = take 64 (drop 2 words)

-- its profile
abbrev pub flat_profile : List ℕ → List ℕ
flat_profile words = take 65 (drop 66 words)

-- the plate that a run of words holds; whatever the words are, the calls decide whether it is prepared
abbrev pub plate_of : List ℕ → Plate
plate_of words = of_parts (get_or words 0 0) (get_or words 1 0) (get_or words 131 0) (flat_rows words) (flat_profile words)

-- the words of a plate, the mask last
abbrev pub flat : Plate → List ℕ
flat plate = plate.n ∷ plate.k ∷ (plate.rows ++ plate.profile ++ (plate.mask ∷ []))
