-- The sum of the rows that a number takes, built from the last row to the first.
use lib.Bits.{bit_xor}
use lib.ListN.{drop, drop_of_length-le, get_or, length, take}
use lib.Pow.{shr-shr}
use lib.Seq.{drop-cons, get_or-take, length-take-le}
use mathlib.Core.List.{List, [], ◌∷◌}
use mathlib.Core.Path.{ap, ap₂, sym, ◌∙◌, ◌≡◌}
use native.Mathlib.Numerals.{add-one}
use native.Mathlib.Omega.{arith}
use Prim.Native.Nat.{◌%◌, ◌-◌, ◌/◌, ◌<◌, ◌^◌, suc, ℕ, ◌≤◌}
use Rattle.words.proofs.Word.{bit-div}
use Rattle.words.specs.Sum.{sum_of, taken}
use Rattle.words.specs.Word.{bit}

-- the sum of the rows from j on, of the first k
abbrev pub sum_from : List ℕ → ℕ → ℕ → ℕ → ℕ
sum_from rows k u j = sum_of (drop j (take k rows)) (u / 2 ^ j)

module _ (rows : List ℕ) (k u : ℕ) (size : length rows ≡ 64) (few : k ≤ 64) where
  length-k : length (take k rows) ≡ k
  length-k = length-take-le k rows (omega arith)

  pub sum-start : 0 ≡ sum_from rows k u k
  sum-start =
      let e : drop k (take k rows) ≡ [] = drop_of_length-le (take k rows) {i = k} (omega (arith, length-k)) in
      sym (ap (λ (l : List ℕ). sum_of l (u / 2 ^ k)) e)

  pub sum-on : (j : ℕ) → j < k → bit_xor (taken (bit u j) (get_or rows j 0)) (sum_from rows k u (suc j)) ≡ sum_from rows k u j
  sum-on j h =
      let c : drop j (take k rows) ≡ get_or (take k rows) j 0 ∷ drop (suc j) (take k rows) = drop-cons (take k rows) j 0 (omega (arith, length-k)) in
      let d : u / 2 ^ j / 2 ≡ u / 2 ^ suc j = shr-shr u j 1 ∙ ap (λ (x : ℕ). u / 2 ^ x) (add-one j) in
      sym (ap (λ (l : List ℕ). sum_of l (u / 2 ^ j)) c
      ∙ ap₂ (λ (r x : ℕ). bit_xor (taken (u / 2 ^ j % 2) r) (sum_of (drop (suc j) (take k rows)) x)) (get_or-take k rows j 0 h) d
      ∙ ap (λ (x : ℕ). bit_xor (taken x (get_or rows j 0)) (sum_from rows k u (suc j))) (sym (bit-div j u)))

  -- the loop's step, from j down to j - 1
  pub sum-down : (j s : ℕ) → 0 < j → j ≤ k → s ≡ sum_from rows k u j → bit_xor (taken (bit u (j - 1)) (get_or rows (j - 1) 0)) s ≡ sum_from rows k u (j - 1)
  sum-down j s p h e =
      let d : j ≡ suc (j - 1) = omega arith in
      ap (bit_xor (taken (bit u (j - 1)) (get_or rows (j - 1) 0))) (e ∙ ap (sum_from rows k u) d) ∙ sum-on (j - 1) (omega arith)

  pub sum-end : (j s : ℕ) → j ≤ 0 → s ≡ sum_from rows k u j → s ≡ sum_of (take k rows) u
  sum-end j s h e =
      let z : j ≡ 0 = omega arith in
      let one : u / 1 ≡ u = omega arith in
      e ∙ ap (sum_from rows k u) z ∙ ap (sum_of (take k rows)) one
