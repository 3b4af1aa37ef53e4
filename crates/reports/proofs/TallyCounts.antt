-- Samples counted one after the other: what the loops over them keep.
use Rattle.std.proofs.Common.{lt-ltb, le-ltb, rules, ◌≡◌, int_eq, ℕ, ◌+◌, ◌<◌, ◌≤◌, zero, suc, negsuc, refl, sym, cond, count_by, List, ◌∷◌, length, get_or, drop, ℤ, pos, ap, add-one, arith, drop_of_length-le, drop-cons}
use Rattle.std.proofs.lemmas.List.Recursion.{is_count_by}
use Rattle.words.specs.Word.{bit}
use Rattle.reports.specs.Tally.{opposes, opposing, zeros}

-- so many are counted before position i, and those from it on make up all
pub record Counted (all left i count : ℕ) : Type 0 where
  pub few : count ≤ i
  pub sum : count + left ≡ all

pub counted-first : (all : ℕ) → Counted all all 0 0
counted-first all = record { few = omega arith; sum = omega arith }

-- a sample is zero where it favours neither bit
zeros-more : (x : ℤ) (xs : List ℤ) → zeros (x ∷ xs) ≡ cond (int_eq x (pos 0)) (1 + zeros xs) (zeros xs)
zeros-more (pos zero) xs = refl
zeros-more (pos (suc n)) xs = search (rules, lt-ltb 0 (suc n) (omega arith), le-ltb (suc n) 0 (omega arith))
zeros-more (negsuc n) xs = omega arith

pub zeros-counted : (xs : List ℤ) → count_by (λ x. int_eq x (pos 0)) xs ≡ zeros xs
zeros-counted xs = sym (is_count_by zeros (λ x. int_eq x (pos 0)) refl zeros-more xs)

module _ (ys : List ℤ) (i : ℕ) where
  here : i < length ys → drop i ys ≡ get_or ys i (pos 0) ∷ drop (i + 1) ys
  here h = rw (add-one i) (drop-cons ys i (pos 0) h)

  pub opposing-on : {all count : ℕ} (word one : ℕ) → i < length ys → one ≡ cond (opposes (get_or ys i (pos 0)) (bit word i)) 1 0 → one ≤ 1
      → Counted all (opposing word i (drop i ys)) i count → Counted all (opposing word (i + 1) (drop (i + 1) ys)) (i + 1) (count + one)
  opposing-on word one h e l c = record { few = omega (arith, c.few); sum = omega (arith, c.sum, ap (opposing word i) (here h), e) }

  pub opposing-end : {all count : ℕ} (word : ℕ) → length ys ≤ i → Counted all (opposing word i (drop i ys)) i count → count ≡ all
  opposing-end word h c = omega (arith, c.sum, ap (opposing word i) (drop_of_length-le ys {i = i} h))
