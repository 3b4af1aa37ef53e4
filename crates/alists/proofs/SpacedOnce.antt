-- Several spaces for one: a line read is the line as written with one space for several.
use borrow.Author.Tests.{eqb-false, eqb-true, lt-ltb, ltb-true, ne_eqb}
use lib.Dec.{eqb, ltb}
use lib.ListN.{get_or, length}
use mathlib.Core.Bool.{Bool, cond, false, true}
use mathlib.Core.List.{◌++◌, List, [], append_assoc, ◌∷◌}
use mathlib.Core.Path.{◌≡◌, ap, refl, sym, ◌∙◌}
use native.Mathlib.Decide.{dec_lt}
use native.Mathlib.Omega.{arith}
use Prim.Native.Nat.{◌%◌, ◌*◌, ◌+◌, ◌-◌, ◌/◌, ◌<◌, suc, zero, ℕ}
use Rattle.alists.proofs.NumbersFound.{between, both}
use Rattle.alists.proofs.NumbersRead.{line_known, line_read}
use Rattle.alists.proofs.Putting.{decimal-one, decimal-two}
use Rattle.alists.specs.Accepted.{spaced_from, spaced_once}
use Rattle.alists.specs.Lines.{Found, Line, before, faulty, feed_of, found, further, is_digit, line_of, more_of, next_of, nothing, number_of, reads, rest_of, skipped}
use Rattle.alists.specs.OwnForm.{each, short}
use Rattle.alists.specs.Text.{decimal, following, line, text_of}
use Rattle.alists.specs.Working.{Small}

-- ---- a number

-- the number found, and what follows it
pub record NumberTaken (s : List ℕ) (v : ℕ) (t : List ℕ) : Type 0 where
  pub is : s ≡ decimal v ++ t
  pub below : v < 100

-- the digit of a character
digit-of : (x : ℕ) → is_digit x ≡ true → (48 + (x - 48) ≡ x) × (x - 48 < 10)
digit-of x e =
    let b = between 48 57 x e in
    let l = b.0 in
    let h = b.1 in
    (omega (arith, l), omega (arith, h))

one-digit : (x : ℕ) (s t : List ℕ) (v : ℕ) → is_digit x ≡ true → found (x - 48) s ≡ found v t → NumberTaken (x ∷ s) v t
one-digit x s t v d e =
    let a : x - 48 ≡ v = cc in
    let b : s ≡ t = cc in
    let g = digit-of x d in
    let h = g.1 in
    let k = decimal-one (x - 48) h in
    record { is = rw (← a, ← b, k, g.0); below = omega (arith, a, h) }

two_digits : (x y : ℕ) (s t : List ℕ) (v : ℕ) → is_digit x ≡ true → is_digit y ≡ true → (x - 48 ≡ 0 → ⊥) → found ((x - 48) * 10 + (y - 48)) s ≡ found v t
    → NumberTaken (x ∷ y ∷ s) v t
two_digits x y s t v d f z e =
    let a : (x - 48) * 10 + (y - 48) ≡ v = cc in
    let b : s ≡ t = cc in
    let g = digit-of x d in
    let h = digit-of y f in
    let gl = g.1 in
    let hl = h.1 in
    let q : v / 10 ≡ x - 48 = omega (arith, a, hl) in
    let r : v % 10 ≡ y - 48 = omega (arith, a, hl) in
    let k = decimal-two v (omega (arith, a, z)) in
    record { is = rw (← b, k, q, r, g.0, h.0); below = omega (arith, a, gl, hl) }

more-taken : (x : ℕ) (s : List ℕ) (v : ℕ) (t : List ℕ) → is_digit x ≡ true → more_of (x - 48) s ≡ found v t → NumberTaken (x ∷ s) v t
more-taken x [] v t d e = one-digit x [] t v d e
more-taken x (y ∷ s) v t d e = go (is_digit y) refl (eqb (x - 48) 0) refl e
  where
    go : (b : Bool) → is_digit y ≡ b → (c : Bool) → eqb (x - 48) 0 ≡ c
        → cond b (cond c nothing (found ((x - 48) * 10 + (y - 48)) s)) (found (x - 48) (y ∷ s)) ≡ found v t → NumberTaken (x ∷ y ∷ s) v t
    go true f true g p = absurd (let z : ◌≡◌ {A = ℕ} 0 1 = cc in omega arith)
    go true f false g p = two_digits x y s t v d f (eqb-false (x - 48) 0 g) p
    go false f c g p = one-digit x (y ∷ s) t v d p

pub number-taken : (s : List ℕ) (v : ℕ) (t : List ℕ) → number_of s ≡ found v t → NumberTaken s v t
number-taken [] v t e = absurd (let z : ◌≡◌ {A = ℕ} 0 1 = cc in omega arith)
number-taken (x ∷ s) v t e = go (is_digit x) refl e
  where
    go : (b : Bool) → is_digit x ≡ b → cond b (more_of (x - 48) s) nothing ≡ found v t → NumberTaken (x ∷ s) v t
    go true f p = more-taken x s v t f p
    go false f p = absurd (let z : ◌≡◌ {A = ℕ} 0 1 = cc in omega arith)

-- ---- spaces

-- a number has none
spaced-number : (space : Bool) (x : ℕ) (s : List ℕ) → spaced_from space (decimal x ++ s) ≡ decimal x ++ spaced_once s
spaced-number space x s = go (dec_lt x 10)
  where
    go : Dec (x < 10) → spaced_from space (decimal x ++ s) ≡ decimal x ++ spaced_once s
    go (yes l) = rw (decimal-one x l, ne_eqb (48 + x) 32 (λ z. omega (arith, z)))
    go (no l) = rw (decimal-two x (omega (arith, l)), ne_eqb (48 + x / 10) 32 (λ z. omega (arith, z)), ne_eqb (48 + x % 10) 32 (λ z. omega (arith, z)))

-- those after a space are passed over
spaced-skipped : (s : List ℕ) → spaced_from true s ≡ spaced_from true (skipped s)
spaced-skipped [] = refl
spaced-skipped (x ∷ s) = go (eqb x 32) refl (spaced-skipped s)
  where
    go : (b : Bool) → eqb x 32 ≡ b → spaced_from true s ≡ spaced_from true (skipped s)
        → cond b (spaced_from true s) (x ∷ spaced_from false s) ≡ spaced_from true (cond b (skipped s) (x ∷ s))
    go true e r = r
    go false e r = rw e

-- what is written keeps its spaces
spaced-following : (xs s : List ℕ) → spaced_once (following xs ++ s) ≡ following xs ++ spaced_once s
spaced-following [] s = refl
spaced-following (x ∷ xs) s =
    let a = append_assoc (decimal x) (following xs) s in
    let b = append_assoc (decimal x) (following xs) (spaced_once s) in
    rw (a, spaced-number true x (following xs ++ s), spaced-following xs s, b)

spaced-line : (xs s : List ℕ) → spaced_once (line xs ++ s) ≡ line xs ++ spaced_once s
spaced-line [] s = refl
spaced-line (x ∷ xs) s =
    let a = append_assoc (decimal x) (following xs) s in
    let b = append_assoc (decimal x) (following xs) (spaced_once s) in
    rw (a, spaced-number false x (following xs ++ s), spaced-following xs s, b)

pub spaced-text : (ls : List (List ℕ)) → spaced_once (text_of ls) ≡ text_of ls
spaced-text [] = refl
spaced-text (l ∷ ls) = spaced-line l (text_of ls) ∙ ap (λ (r : List ℕ). line l ++ r) (spaced-text ls)

-- ---- a line

-- the numbers of a line read, with one space for several
pub record LineTaken (written : List ℕ → List ℕ) (s xs t : List ℕ) : Type 0 where
  pub is : spaced_once s ≡ written xs ++ spaced_once t
  pub numbers : short xs ≡ true

feed-taken : (s xs t : List ℕ) → feed_of s ≡ reads xs t → (s ≡ 10 ∷ t) × (xs ≡ [])
feed-taken [] xs t e = absurd (let z : ◌≡◌ {A = ℕ} 0 1 = cc in omega arith)
feed-taken (x ∷ s) xs t e = go (eqb x 10) refl e
  where
    go : (b : Bool) → eqb x 10 ≡ b → cond b (reads [] s) faulty ≡ reads xs t → ((x ∷ s) ≡ 10 ∷ t) × (xs ≡ [])
    go true d p =
        let a = eqb-true x 10 d in
        let b : s ≡ t = cc in
        let c : [] ≡ xs = cc in
        (rw (a, b), sym c)
    go false d p = absurd (let z : ◌≡◌ {A = ℕ} 0 1 = cc in omega arith)

-- a number and those after it
record FurtherTaken (f : Found) (on : List ℕ → Line) (xs t : List ℕ) : Type 0 where
  pub first : ℕ
  pub after : List ℕ
  pub others : List ℕ
  pub number : f ≡ found first after
  pub rest : on after ≡ reads others t
  pub are : xs ≡ first ∷ others

further-taken : (f : Found) (on : List ℕ → Line) (xs t : List ℕ) → further f on ≡ reads xs t → FurtherTaken f on xs t
further-taken (found v u) on xs t e = go (on u) refl e
  where
    go : (l : Line) → on u ≡ l → before v l ≡ reads xs t → FurtherTaken (found v u) on xs t
    go (reads vs r) d p =
        let a : (v ∷ vs) ≡ xs = cc in
        let b : r ≡ t = cc in
        record { first = v; after = u; others = vs; number = refl; rest = rw (← b) d; are = sym a }
    go faulty d p = absurd (let z : ◌≡◌ {A = ℕ} 0 1 = cc in omega arith)
further-taken nothing on xs t e = absurd (let z : ◌≡◌ {A = ℕ} 0 1 = cc in omega arith)

-- a number after spaces
next-taken : (s : List ℕ) (v : ℕ) (t : List ℕ) → next_of s ≡ found v t → (spaced_once s ≡ 32 ∷ (decimal v ++ spaced_once t)) × (v < 100)
next-taken [] v t e = absurd (let z : ◌≡◌ {A = ℕ} 0 1 = cc in omega arith)
next-taken (x ∷ s) v t e = go (eqb x 32) refl e
  where
    go : (b : Bool) → eqb x 32 ≡ b → cond b (number_of (skipped s)) nothing ≡ found v t
        → (spaced_once (x ∷ s) ≡ 32 ∷ (decimal v ++ spaced_once t)) × (v < 100)
    go true d p =
        let a = eqb-true x 32 d in
        let k = number-taken (skipped s) v t p in
        (rw a (ap (λ (r : List ℕ). 32 ∷ r) (spaced-skipped s ∙ rw k.is (spaced-number true v t))), k.below)
    go false d p = absurd (let z : ◌≡◌ {A = ℕ} 0 1 = cc in omega arith)

short_on : (x : ℕ) (xs : List ℕ) → x < 100 → short xs ≡ true → short (x ∷ xs) ≡ true
short_on x xs h e = rw (lt-ltb x 100 h, e)

rest-taken : (k : ℕ) (s xs t : List ℕ) → rest_of k s ≡ reads xs t → LineTaken following s xs t
rest-taken zero s xs t e = let f = feed-taken s xs t e in record { is = rw (f.0, f.1); numbers = rw f.1 }
rest-taken (suc k) s xs t e =
    let f = further-taken (next_of s) (rest_of k) xs t e in
    let p = next-taken s f.first f.after f.number in
    let r = rest-taken k f.after f.others t f.rest in
    let a = append_assoc (decimal f.first) (following f.others) (spaced_once t) in
    record { is = rw (f.are, a) (p.0 ∙ rw r.is); numbers = rw f.are (short_on f.first f.others p.1 r.numbers) }

pub line_taken : (k : ℕ) (s xs t : List ℕ) → line_of k s ≡ reads xs t → LineTaken line s xs t
line_taken zero s xs t e = let f = feed-taken s xs t e in record { is = rw (f.0, f.1); numbers = rw f.1 }
line_taken (suc k) s xs t e =
    let f = further-taken (number_of s) (rest_of k) xs t e in
    let p = number-taken s f.first f.after f.number in
    let r = rest-taken k f.after f.others t f.rest in
    let a = append_assoc (decimal f.first) (following f.others) (spaced_once t) in
    record {
      is = rw (f.are, a) (ap spaced_once p.is ∙ spaced-number false f.first f.after ∙ rw r.is);
      numbers = rw f.are (short_on f.first f.others p.below r.numbers);
    }

-- ---- the lines of a text

pub short-small : (xs : List ℕ) → short xs ≡ true → Small xs
short-small xs e = record { below = go xs e }
  where
    go : (ys : List ℕ) → short ys ≡ true → (j : ℕ) → get_or ys j 0 < 100
    go [] d j = omega arith
    go (y ∷ ys) d zero = ltb-true y 100 (both (ltb y 100) (short ys) d).0
    go (y ∷ ys) d (suc j) = go ys (both (ltb y 100) (short ys) d).1 j

pub each_both : (test : List ℕ → Bool) (a b : List (List ℕ)) → each test a ≡ true → each test b ≡ true → each test (a ++ b) ≡ true
each_both test [] b p q = q
each_both test (x ∷ a) b p q = let d = both (test x) (each test a) p in rw d.0 (each_both test a b d.1 q)

-- a line is not empty
line-some : (l s : List ℕ) → line l ++ s ≡ [] → ⊥
line-some [] s e = let z : ◌≡◌ {A = ℕ} 0 1 = cc in omega arith
line-some (x ∷ l) s e = go (dec_lt x 10)
  where
    go : Dec (x < 10) → ⊥
    go (yes d) = let f = rw (decimal-one x d) at e in let z : ◌≡◌ {A = ℕ} 0 1 = cc in omega arith
    go (no d) = let f = rw (decimal-two x (omega (arith, d))) at e in let z : ◌≡◌ {A = ℕ} 0 1 = cc in omega arith

-- a text has one list of lines
pub lines-once : (ls ks : List (List ℕ)) → each short ls ≡ true → each short ks ≡ true → text_of ls ≡ text_of ks → ls ≡ ks
lines-once [] [] a b e = refl
lines-once [] (k ∷ ks) a b e = absurd (line-some k (text_of ks) (sym e))
lines-once (l ∷ ls) [] a b e = absurd (line-some l (text_of ls) e)
lines-once (l ∷ ls) (k ∷ ks) a b e =
    let p = both (short l) (each short ls) a in
    let q = both (short k) (each short ks) b in
    let r = rw e at (line_read l (text_of ls) (short-small l p.0)) in
    let g = line_known (length l) k (text_of ks) (short-small k q.0) l (text_of ls) r in
    rw (g.0, lines-once ls ks p.1 q.1 g.1)
