-- A plate put into a run: it is what the run then holds.
use lib.ListN.{drop, get_or, length, length-append, set, take}
use lib.Seq.{drop_at, drop-cons, drop-drop, drop-set-lt, get_or_at, get_or-set_same, lt-length-set, paste, take_all, take_at}
use mathlib.Core.List.{◌++◌, List, [], append_assoc, ◌∷◌}
use mathlib.Core.Path.{ap, ap₂, refl, sym, ◌∙◌, ◌≡◌}
use native.Mathlib.Omega.{arith}
use Prim.Native.Nat.{◌+◌, ℕ, ◌≤◌}
use Rattle.exports.specs.Flat.{flat, plate_of}
use Rattle.plates.specs.declared.Plate.{Plate}

-- what begins with a is continued by b
continued : (run run' a b : List ℕ) (i k : ℕ) → length a ≡ i → length b ≡ k → run' ≡ paste (a ++ drop i run) i b k → run' ≡ (a ++ b) ++ drop (i + k) run
continued run run' a b i k size-a size-b e =
    e
    ∙ ap (λ (x : List ℕ). x ++ take k b ++ drop (i + k) (a ++ drop i run)) (take_at a (drop i run) i size-a)
    ∙ ap (λ (x : List ℕ). a ++ x ++ drop (i + k) (a ++ drop i run)) (take_all k b (omega arith))
    ∙ ap (λ (x : List ℕ). a ++ b ++ x) behind
  where
    behind : drop (i + k) (a ++ drop i run) ≡ drop (i + k) run
    behind = sym (drop-drop k i (a ++ drop i run)) ∙ ap (drop k) (drop_at a (drop i run) i size-a) ∙ drop-drop k i run

-- two numbers at the start
pub headed : (run : List ℕ) (n k : ℕ) → 2 ≤ length run → set (set run 0 n) 1 k ≡ n ∷ k ∷ drop 2 run
headed [] n k h = absurd (omega arith)
headed (x ∷ []) n k h = absurd (omega arith)
headed (x ∷ y ∷ run) n k h = refl

-- the mask's place and what follows it
masked-tail : (run : List ℕ) (mask : ℕ) → 132 ≤ length run → drop 131 (set run 131 mask) ≡ mask ∷ drop 132 run
masked-tail run mask h =
    drop-cons (set run 131 mask) 131 0 (lt-length-set run 131 mask (omega arith))
    ∙ ap₂ (λ (m : ℕ) (l : List ℕ). m ∷ l) (get_or-set_same run 131 mask 0 (omega arith)) (drop-set-lt 132 run 131 mask (omega arith))

module _ (run : List ℕ) (plate : Plate) (rows : length plate.rows ≡ 64) (entries : length plate.profile ≡ 65) (long : 132 ≤ length run) where
  -- n, k and the rows
  abbrev front : List ℕ
  front = plate.n ∷ plate.k ∷ plate.rows

  front_length : length front ≡ 66
  front_length = omega (arith, rows)

  -- the three steps of putting a plate into a run
  pub put_whole : (run₁ run₂ run₃ : List ℕ) → run₁ ≡ plate.n ∷ plate.k ∷ drop 2 (set run 131 plate.mask) → run₂ ≡ paste run₁ 2 plate.rows 64
      → run₃ ≡ paste run₂ 66 plate.profile 65 → run₃ ≡ flat plate ++ drop 132 run
  put_whole run₁ run₂ run₃ e₁ e₂ e₃ =
      continued masked run₃ front plate.profile 66 65 front_length entries (e₃ ∙ ap (λ (x : List ℕ). paste x 66 plate.profile 65) after-rows)
      ∙ ap (λ (x : List ℕ). front ++ plate.profile ++ x) (masked-tail run plate.mask long)
      ∙ sym (append_assoc (front ++ plate.profile) (plate.mask ∷ []) (drop 132 run))
    where
      masked : List ℕ
      masked = set run 131 plate.mask

      after-rows : run₂ ≡ front ++ drop 66 masked
      after-rows = continued masked run₂ (plate.n ∷ plate.k ∷ []) plate.rows 2 64 refl rows (e₂ ∙ ap (λ (x : List ℕ). paste x 2 plate.rows 64) e₁)

-- what is put into a run is the plate that the run then holds
pub put-then-read : (plate : Plate) (rest : List ℕ) → length plate.rows ≡ 64 → length plate.profile ≡ 65 → plate_of (flat plate ++ rest) ≡ plate
put-then-read plate rest rows entries =
    ap (λ (m : ℕ). record { n = plate.n; k = plate.k; mask = m; rows = take 64 whole; profile = take 65 (drop 64 whole) }) mask-read
    ∙ ap₂ (λ (r p : List ℕ). record { n = plate.n; k = plate.k; mask = plate.mask; rows = r; profile = p })
    (ap (take 64) parted ∙ take_at plate.rows (plate.profile ++ (plate.mask ∷ rest)) 64 rows)
    (ap (λ (l : List ℕ). take 65 (drop 64 l)) parted
    ∙ ap (take 65) (drop_at plate.rows (plate.profile ++ (plate.mask ∷ rest)) 64 rows)
    ∙ take_at plate.profile (plate.mask ∷ rest) 65 entries)
  where
    whole : List ℕ
    whole = plate.rows ++ plate.profile ++ (plate.mask ∷ []) ++ rest

    tables : length (plate.rows ++ plate.profile) ≡ 129
    tables = omega (arith, length-append plate.rows plate.profile)

    before-mask : whole ≡ plate.rows ++ plate.profile ++ (plate.mask ∷ rest)
    before-mask = append_assoc (plate.rows ++ plate.profile) (plate.mask ∷ []) rest

    parted : whole ≡ plate.rows ++ (plate.profile ++ (plate.mask ∷ rest))
    parted = before-mask ∙ append_assoc plate.rows plate.profile (plate.mask ∷ rest)

    mask-read : get_or (plate.n ∷ plate.k ∷ whole) 131 0 ≡ plate.mask
    mask-read = ap (λ (l : List ℕ). get_or l 129 0) before-mask ∙ get_or_at (plate.rows ++ plate.profile) plate.mask rest 0 129 tables
