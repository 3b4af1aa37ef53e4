-- A row that gains another row, and two rows exchanged: the sums stay the same, both ways.
use lib.Bits.{bit_xor, xor_comm}
use lib.ListN.{get_or, length, length-set, set}
use lib.Seq.{get_or-set_other, get_or-set_same, set_out}
use mathlib.Core.List.{List}
use mathlib.Core.Logic.{◌↔◌, ◌≢◌}
use mathlib.Core.Path.{ap, ap₂, subst, sym, ◌∙◌, ◌≡◌}
use native.Mathlib.Decide.{dec_lt, ℕ_discrete}
use native.Mathlib.Omega.{arith}
use Prim.Native.Nat.{◌<◌, ℕ}
use Rattle.words.proofs.Sums.{in_all, in_row, in-xor}
use Rattle.words.proofs.Word.{xor-cancel}
use Rattle.words.specs.Sum.{IsSum, add_row, swap_rows}

-- it keeps the code, whatever i and j are, if they differ: past the list it does nothing
module _ (rows : List ℕ) (i j : ℕ) (ne : i ≢ j) where
  module _ (hi : i < length rows) where
    new-i : get_or (add_row rows i j) i 0 ≡ bit_xor (get_or rows i 0) (get_or rows j 0)
    new-i = get_or-set_same rows i (bit_xor (get_or rows i 0) (get_or rows j 0)) 0 hi

    new-other : (k : ℕ) → k ≢ i → get_or (add_row rows i j) k 0 ≡ get_or rows k 0
    new-other k = get_or-set_other rows i k (bit_xor (get_or rows i 0) (get_or rows j 0)) 0

    forth : (k : ℕ) → Dec (k ≡ i) → IsSum rows (get_or (add_row rows i j) k 0)
    forth k (yes e) = subst (λ (x : ℕ). IsSum rows (get_or (add_row rows i j) x 0)) (sym e) (subst (IsSum rows) (sym new-i) (in-xor (in_row rows i) (in_row rows j)))
    forth k (no d) = subst (IsSum rows) (sym (new-other k d)) (in_row rows k)

    back-i : IsSum (add_row rows i j) (get_or rows i 0)
    back-i =
        let e : bit_xor (get_or (add_row rows i j) j 0) (get_or (add_row rows i j) i 0) ≡ get_or rows i 0 =
        ap₂ bit_xor (new-other j (λ q. ne (sym q))) (new-i ∙ xor_comm (get_or rows i 0) (get_or rows j 0)) ∙ xor-cancel (get_or rows j 0) (get_or rows i 0) in
        subst (IsSum (add_row rows i j)) e (in-xor (in_row (add_row rows i j) j) (in_row (add_row rows i j) i))

    back : (k : ℕ) → Dec (k ≡ i) → IsSum (add_row rows i j) (get_or rows k 0)
    back k (yes e) = subst (λ (x : ℕ). IsSum (add_row rows i j) (get_or rows x 0)) (sym e) back-i
    back k (no d) = subst (IsSum (add_row rows i j)) (new-other k d) (in_row (add_row rows i j) k)

    inside : (w : ℕ) → IsSum (add_row rows i j) w ↔ IsSum rows w
    inside w = (in_all (add_row rows i j) rows (λ k l. forth k (ℕ_discrete k i)) w, in_all rows (add_row rows i j) (λ k l. back k (ℕ_discrete k i)) w)

  pub same_code : (w : ℕ) → IsSum (add_row rows i j) w ↔ IsSum rows w
  same_code w = go (dec_lt i (length rows))
    where
      go : Dec (i < length rows) → IsSum (add_row rows i j) w ↔ IsSum rows w
      go (yes h) = inside h w
      go (no h) =
          let e : add_row rows i j ≡ rows = set_out rows i (bit_xor (get_or rows i 0) (get_or rows j 0)) (omega arith) in
          subst (λ (x : List ℕ). IsSum x w ↔ IsSum rows w) (sym e) ((λ g. g), λ g. g)

-- two rows exchanged: each row stands in the other list, so the sums are the same
module _ (rows : List ℕ) (i j : ℕ) (hi : i < length rows) (hj : j < length rows) where
  pub swap-j : get_or (swap_rows rows i j) j 0 ≡ get_or rows i 0
  swap-j = get_or-set_same (set rows i (get_or rows j 0)) j (get_or rows i 0) 0 (omega (arith, length-set rows i (get_or rows j 0)))

  pub swap-i : get_or (swap_rows rows i j) i 0 ≡ get_or rows j 0
  swap-i = go (ℕ_discrete i j)
    where
      go : Dec (i ≡ j) → get_or (swap_rows rows i j) i 0 ≡ get_or rows j 0
      go (yes e) = subst (λ (x : ℕ). get_or (swap_rows rows i j) x 0 ≡ get_or rows j 0) (sym e) (swap-j ∙ ap (λ (x : ℕ). get_or rows x 0) e)
      go (no d) = get_or-set_other (set rows i (get_or rows j 0)) j i (get_or rows i 0) 0 d ∙ get_or-set_same rows i (get_or rows j 0) 0 hi

  pub swap-other : (k : ℕ) → k ≢ i → k ≢ j → get_or (swap_rows rows i j) k 0 ≡ get_or rows k 0
  swap-other k d e = get_or-set_other (set rows i (get_or rows j 0)) j k (get_or rows i 0) 0 e ∙ get_or-set_other rows i k (get_or rows j 0) 0 d

  -- the rows of the exchanged list, one for one
  pub swap-rows : (Q : ℕ → ℕ → Type 0) → Q i (get_or rows j 0) → Q j (get_or rows i 0) → ((k : ℕ) → k ≢ i → k ≢ j → Q k (get_or rows k 0))
      → (k : ℕ) → Q k (get_or (swap_rows rows i j) k 0)
  swap-rows Q qi qj qk k = go (ℕ_discrete k i) (ℕ_discrete k j)
    where
      go : Dec (k ≡ i) → Dec (k ≡ j) → Q k (get_or (swap_rows rows i j) k 0)
      go (yes e) d = subst (λ (x : ℕ). Q x (get_or (swap_rows rows i j) x 0)) (sym e) (subst (Q i) (sym swap-i) qi)
      go (no d) (yes e) = subst (λ (x : ℕ). Q x (get_or (swap_rows rows i j) x 0)) (sym e) (subst (Q j) (sym swap-j) qj)
      go (no d) (no e) = subst (Q k) (sym (swap-other k d e)) (qk k d e)

  pub same-swap : (w : ℕ) → IsSum (swap_rows rows i j) w ↔ IsSum rows w
  same-swap w = (
    in_all (swap_rows rows i j) rows (λ k l. swap-rows (λ k x. IsSum rows x) (in_row rows j) (in_row rows i) (λ k d e. in_row rows k) k) w,
    in_all rows (swap_rows rows i j) (λ k l. back k (ℕ_discrete k i) (ℕ_discrete k j)) w,
  )
    where
      S : List ℕ
      S = swap_rows rows i j

      back : (k : ℕ) → Dec (k ≡ i) → Dec (k ≡ j) → IsSum S (get_or rows k 0)
      back k (yes e) d = subst (IsSum S) (swap-j ∙ ap (λ (x : ℕ). get_or rows x 0) (sym e)) (in_row S j)
      back k (no d) (yes e) = subst (IsSum S) (swap-i ∙ ap (λ (x : ℕ). get_or rows x 0) (sym e)) (in_row S i)
      back k (no d) (no e) = subst (IsSum S) (swap-other k d e) (in_row S k)
