-- How long a text is, and what a table holds of it.
use lib.Dec.{ltb}
use lib.ListN.{drop, length, length-append, length-replicate, replicate, take}
use lib.Seq.{length-sets, sets, sets-eq, take-append_seam}
use mathlib.Core.Bool.{Bool, cond, false, true}
use mathlib.Core.List.{◌++◌, List, [], append_assoc, map, ◌∷◌}
use mathlib.Core.Path.{◌≡◌, ap, refl, sym, ◌∙◌}
use native.Mathlib.Omega.{arith}
use Prim.Native.Nat.{◌%◌, ◌*◌, ◌+◌, ◌/◌, suc, zero, ℕ, ◌≤◌}
use Rattle.alists.proofs.ListsPut.{largest-few}
use Rattle.alists.specs.Lists.{columns_from, indices, largest, list_of, padded}
use Rattle.alists.specs.Text.{decimal, following, line, lists_of, matrix_text, text_of, weights}

-- ---- lengths

decimal-case : (t : Bool) (x y z : ℕ) → length (cond t (x ∷ []) (y ∷ z ∷ [])) ≤ 2
decimal-case true x y z = omega arith
decimal-case false x y z = omega arith

decimal-short : (x : ℕ) → length (decimal x) ≤ 2
decimal-short x = decimal-case (ltb x 10) (48 + x) (48 + x / 10) (48 + x % 10)

following-short : (xs : List ℕ) → length (following xs) ≤ 3 * length xs + 1
following-short [] = omega arith
following-short (x ∷ xs) =
    let a = decimal-short x in
    let b = following-short xs in
    let e = length-append (decimal x) (following xs) in
    omega (arith, a, b, e)

line-short : (xs : List ℕ) → length (line xs) ≤ 3 * length xs + 1
line-short [] = omega arith
line-short (x ∷ xs) =
    let a = decimal-short x in
    let b = following-short xs in
    let e = length-append (decimal x) (following xs) in
    omega (arith, a, b, e)

pub padded-length : (most : ℕ) (xs : List ℕ) → length (padded most xs) ≡ most
padded-length zero xs = refl
padded-length (suc most) [] = ap suc (padded-length most [])
padded-length (suc most) (x ∷ xs) = ap suc (padded-length most xs)

lists-short : (most : ℕ) → most ≤ 64 → (ws : List ℕ) → length (text_of (map (list_of most) ws)) ≤ 193 * length ws
lists-short most h [] = omega arith
lists-short most h (w ∷ ws) =
    let a = line-short (list_of most w) in
    let p = padded-length most (indices w) in
    let b = lists-short most h ws in
    let e = length-append (line (list_of most w)) (text_of (map (list_of most) ws)) in
    omega (arith, a, p, b, e, h)

pub length-weights : (ws : List ℕ) → length (weights ws) ≡ length ws
length-weights [] = refl
length-weights (w ∷ ws) = ap suc (length-weights ws)

pub columns-length : (rows : List ℕ) (i k : ℕ) → length (columns_from rows i k) ≡ k
columns-length rows i zero = refl
columns-length rows i (suc k) = ap suc (columns-length rows (suc i) k)

-- ---- the six parts of a text

pub text-append : (a b : List (List ℕ)) → text_of (a ++ b) ≡ text_of a ++ text_of b
text-append [] b = refl
text-append (l ∷ a) b = ap (λ (r : List ℕ). line l ++ r) (text-append a b) ∙ sym (append_assoc (line l) (text_of a) (text_of b))

module _ (cols rows : List ℕ) where
  abbrev pub sizes_part : List ℕ
  sizes_part = line (length cols ∷ length rows ∷ [])

  abbrev pub most_part : List ℕ
  most_part = line (largest (weights cols) ∷ largest (weights rows) ∷ [])

  abbrev pub last_parts : List ℕ
  last_parts = text_of (lists_of cols) ++ text_of (lists_of rows)

  abbrev pub parts : List ℕ
  parts = sizes_part ++ (most_part ++ (line (weights cols) ++ (line (weights rows) ++ last_parts)))

  pub text-parts : matrix_text cols rows ≡ parts
  unfolding matrix_text
  text-parts =
      ap (λ (r : List ℕ). sizes_part ++ (most_part ++ (line (weights cols) ++ (line (weights rows) ++ r)))) (text-append (lists_of cols) (lists_of rows))

  pub text-short : length cols ≤ 64 → length rows ≤ 64 → 0 + length parts ≤ 32768
  text-short h k =
      let a = line-short (length cols ∷ length rows ∷ []) in
      let b = line-short (largest (weights cols) ∷ largest (weights rows) ∷ []) in
      let c = line-short (weights cols) in
      let d = line-short (weights rows) in
      let e = lists-short (largest (weights cols)) (largest-few cols) cols in
      let f = lists-short (largest (weights rows)) (largest-few rows) rows in
      let l = length-weights cols in
      let m = length-weights rows in
      let s₁ = length-append sizes_part (most_part ++ (line (weights cols) ++ (line (weights rows) ++ last_parts))) in
      let s₂ = length-append most_part (line (weights cols) ++ (line (weights rows) ++ last_parts)) in
      let s₃ = length-append (line (weights cols)) (line (weights rows) ++ last_parts) in
      let s₄ = length-append (line (weights rows)) last_parts in
      let s₅ = length-append (text_of (lists_of cols)) (text_of (lists_of rows)) in
      omega (arith, a, b, c, d, e, f, l, m, s₁, s₂, s₃, s₄, s₅, h, k)

-- ---- what a table holds

pub front : (xs : List ℕ) (n : ℕ) → length xs ≡ n → n ≤ 64 → take n (sets (replicate 64 0) 0 xs) ≡ xs
front xs n e h =
    let g : sets (replicate 64 0) 0 xs ≡ xs ++ drop (0 + length xs) (replicate 64 0) =
    sets-eq xs (replicate 64 0) 0 (omega (arith, e, h, length-replicate {A = ℕ} 64 0)) in
    rw (g, ← e) (take-append_seam xs (drop (0 + length xs) (replicate 64 0)))

pub held : (xs : List ℕ) {table' : List ℕ} → table' ≡ sets (replicate 64 0) 0 xs → length table' ≡ 64
held xs e = ap length e ∙ length-sets (replicate 64 0) 0 xs ∙ length-replicate {A = ℕ} 64 0
