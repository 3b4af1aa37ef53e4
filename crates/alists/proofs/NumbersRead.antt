-- Numbers and lines as written are read as they were, and in no other way.
use borrow.Author.Tests.{le-leb, ne_eqb}
use lib.ListN.{length}
use mathlib.Core.Bool.{false, true}
use mathlib.Core.List.{◌++◌, List, [], append_assoc, ◌∷◌}
use mathlib.Core.Path.{◌≡◌, refl, sym, ◌∙◌}
use native.Mathlib.Decide.{dec_lt}
use native.Mathlib.Omega.{arith}
use Prim.Native.Nat.{◌%◌, ◌*◌, ◌+◌, ◌-◌, ◌/◌, ◌<◌, suc, zero, ℕ, ◌≤◌}
use Rattle.alists.proofs.Putting.{decimal-one, decimal-two}
use Rattle.alists.specs.Lines.{Line, before, faulty, feed_of, found, is_digit, line_of, next_of, number_of, reads, rest_of, skipped}
use Rattle.alists.specs.Text.{decimal, following, line}
use Rattle.alists.specs.Working.{Small}

-- a character of a digit is one
digit-is : (d : ℕ) → d < 10 → is_digit (48 + d) ≡ true
digit-is d h = rw (le-leb 48 (48 + d) (omega arith), le-leb (48 + d) 57 (omega arith))

-- a number is read where no digit follows
pub number_read : (x y : ℕ) (s : List ℕ) → x < 100 → is_digit y ≡ false → number_of (decimal x ++ (y ∷ s)) ≡ found x (y ∷ s)
number_read x y s h f = go (dec_lt x 10)
  where
    go : Dec (x < 10) → number_of (decimal x ++ (y ∷ s)) ≡ found x (y ∷ s)
    go (yes l) =
        let e : 48 + x - 48 ≡ x = omega arith in
        rw (decimal-one x l, digit-is x l, f, e)
    go (no l) =
        let k : 10 ≤ x = omega (arith, l) in
        let a : 48 + x / 10 - 48 ≡ x / 10 = omega arith in
        let b : (x / 10) * 10 + (48 + x % 10 - 48) ≡ x = omega arith in
        rw (decimal-two x k, digit-is (x / 10) (omega (arith, h)), digit-is (x % 10) (omega arith), a, ne_eqb (x / 10) 0 (λ z. omega (arith, z, k)), b)

-- no space stands before a number
no-space : (x : ℕ) (s : List ℕ) → skipped (decimal x ++ s) ≡ decimal x ++ s
no-space x s = go (dec_lt x 10)
  where
    go : Dec (x < 10) → skipped (decimal x ++ s) ≡ decimal x ++ s
    go (yes l) = rw (decimal-one x l, ne_eqb (48 + x) 32 (λ z. omega (arith, z)))
    go (no l) = rw (decimal-two x (omega (arith, l)), ne_eqb (48 + x / 10) 32 (λ z. omega (arith, z)))

-- what follows a number begins with no digit
number-then : (x : ℕ) (xs s : List ℕ) → x < 100 → number_of (decimal x ++ (following xs ++ s)) ≡ found x (following xs ++ s)
number-then x [] s h = number_read x 10 s h refl
number-then x (y ∷ xs) s h = number_read x 32 ((decimal y ++ following xs) ++ s) h refl

next-read : (x : ℕ) (xs s : List ℕ) → x < 100 → next_of (following (x ∷ xs) ++ s) ≡ found x (following xs ++ s)
next-read x xs s h = rw (append_assoc (decimal x) (following xs) s, no-space x (following xs ++ s)) (number-then x xs s h)

small-tail : {x : ℕ} {xs : List ℕ} → Small (x ∷ xs) → Small xs
small-tail h = record { below = λ j. h.below (suc j) }

rest_read : (xs s : List ℕ) → Small xs → rest_of (length xs) (following xs ++ s) ≡ reads xs s
rest_read [] s h = refl
rest_read (x ∷ xs) s h = rw (next-read x xs s (h.below 0), rest_read xs s (small-tail h))

-- a line is read as its numbers
pub line_read : (xs s : List ℕ) → Small xs → line_of (length xs) (line xs ++ s) ≡ reads xs s
line_read [] s h = refl
line_read (x ∷ xs) s h = rw (append_assoc (decimal x) (following xs) s, number-then x xs s (h.below 0), rest_read xs s (small-tail h))

-- ---- in no other way

before-known : (x : ℕ) (l : Line) (xs s : List ℕ) → ((ws u : List ℕ) → l ≡ reads ws u → (ws ≡ xs) × (u ≡ s)) → (vs t : List ℕ) → before x l ≡ reads vs t
    → (vs ≡ x ∷ xs) × (t ≡ s)
before-known x (reads ws u) xs s f vs t e =
    let p = f ws u refl in
    let a : (x ∷ ws) ≡ vs = cc in
    let b : u ≡ t = cc in
    (rw (← a, p.0), sym b ∙ p.1)
before-known x faulty xs s f vs t e = absurd (let z : ◌≡◌ {A = ℕ} 0 1 = cc in omega arith)

rest-known : (k : ℕ) (xs s : List ℕ) → Small xs → (vs t : List ℕ) → rest_of k (following xs ++ s) ≡ reads vs t → (vs ≡ xs) × (t ≡ s)
rest-known zero [] s h vs t e = (let a : [] ≡ vs = cc in sym a, let b : s ≡ t = cc in sym b)
rest-known zero (x ∷ xs) s h vs t e = absurd (let z : ◌≡◌ {A = ℕ} 0 1 = cc in omega arith)
rest-known (suc k) [] s h vs t e = absurd (let z : ◌≡◌ {A = ℕ} 0 1 = cc in omega arith)
rest-known (suc k) (x ∷ xs) s h vs t e =
    before-known x (rest_of k (following xs ++ s)) xs s (rest-known k xs s (small-tail h)) vs t (rw (next-read x xs s (h.below 0)) at e)

-- no line feed stands before a number
no-feed : (x : ℕ) (r s vs t : List ℕ) → feed_of ((decimal x ++ r) ++ s) ≡ reads vs t → ⊥
no-feed x r s vs t e = go (dec_lt x 10)
  where
    go : Dec (x < 10) → ⊥
    go (yes l) =
        let d = rw (decimal-one x l, ne_eqb (48 + x) 10 (λ z. omega (arith, z))) at e in
        let z : ◌≡◌ {A = ℕ} 0 1 = cc in
        omega arith
    go (no l) =
        let d = rw (decimal-two x (omega (arith, l)), ne_eqb (48 + x / 10) 10 (λ z. omega (arith, z))) at e in
        let z : ◌≡◌ {A = ℕ} 0 1 = cc in
        omega arith

-- a line read is the line as written, however many numbers were asked for
pub line_known : (k : ℕ) (xs s : List ℕ) → Small xs → (vs t : List ℕ) → line_of k (line xs ++ s) ≡ reads vs t → (vs ≡ xs) × (t ≡ s)
line_known zero [] s h vs t e = (let a : [] ≡ vs = cc in sym a, let b : s ≡ t = cc in sym b)
line_known zero (x ∷ xs) s h vs t e = absurd (no-feed x (following xs) s vs t e)
line_known (suc k) [] s h vs t e = absurd (let z : ◌≡◌ {A = ℕ} 0 1 = cc in omega arith)
line_known (suc k) (x ∷ xs) s h vs t e =
    before-known x (rest_of k (following xs ++ s)) xs s (rest-known k xs s (small-tail h)) vs t
    (rw (append_assoc (decimal x) (following xs) s, number-then x xs s (h.below 0)) at e)
