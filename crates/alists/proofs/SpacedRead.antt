-- Several spaces are read as one.
use borrow.Author.Tests.{eqb-true}
use lib.Dec.{eqb}
use lib.ListN.{length}
use mathlib.Core.Bool.{Bool, cond, false, true}
use mathlib.Core.List.{◌++◌, List, [], ◌∷◌}
use mathlib.Core.Path.{◌≡◌, ap, refl, sym, ◌∙◌}
use native.Mathlib.Omega.{arith}
use Prim.Native.Nat.{◌*◌, ◌+◌, ◌-◌, suc, zero, ℕ}
use Rattle.alists.proofs.NumbersRead.{line_read}
use Rattle.alists.specs.Accepted.{spaced_from, spaced_once}
use Rattle.alists.specs.Lines.{Found, Line, before, faulty, feed_of, found, further, is_digit, line_of, more_of, next_of, nothing, number_of, reads, rest_of, skipped}
use Rattle.alists.specs.Text.{line}
use Rattle.alists.specs.Working.{Small}

-- ---- numbers

-- a number with one space for several after it
abbrev spaced_found : Found → Found
spaced_found (found v s) = found v (spaced_once s)
spaced_found nothing = nothing

-- another character than a space
not-space : (space : Bool) (x : ℕ) (s : List ℕ) → eqb x 32 ≡ false → spaced_from space (x ∷ s) ≡ x ∷ spaced_once s
not-space space x s e = rw e

more-spaced : (d : ℕ) (s : List ℕ) → more_of d (spaced_once s) ≡ spaced_found (more_of d s)
more-spaced d [] = refl
more-spaced d (y ∷ s) = go (eqb y 32) refl
  where
    by-digit : (b c : Bool) → spaced_once (y ∷ s) ≡ y ∷ spaced_once s
        → cond b (cond c nothing (found (d * 10 + (y - 48)) (spaced_once s))) (found d (y ∷ spaced_once s))
        ≡ spaced_found (cond b (cond c nothing (found (d * 10 + (y - 48)) s)) (found d (y ∷ s)))
    by-digit true true e = refl
    by-digit true false e = refl
    by-digit false c e = sym (ap (found d) e)

    go : (b : Bool) → eqb y 32 ≡ b → more_of d (spaced_once (y ∷ s)) ≡ spaced_found (more_of d (y ∷ s))
    go true e = rw (eqb-true y 32 e)
    go false e = let n = not-space false y s e in ap (more_of d) n ∙ by-digit (is_digit y) (eqb d 0) n

number-spaced : (s : List ℕ) → number_of (spaced_once s) ≡ spaced_found (number_of s)
number-spaced [] = refl
number-spaced (x ∷ s) = go (eqb x 32) refl
  where
    by-digit : (b : Bool) → cond b (more_of (x - 48) (spaced_once s)) nothing ≡ spaced_found (cond b (more_of (x - 48) s) nothing)
    by-digit true = more-spaced (x - 48) s
    by-digit false = refl

    go : (b : Bool) → eqb x 32 ≡ b → number_of (spaced_once (x ∷ s)) ≡ spaced_found (number_of (x ∷ s))
    go true e = rw (eqb-true x 32 e)
    go false e = ap number_of (not-space false x s e) ∙ by-digit (is_digit x)

skipped-spaced : (s : List ℕ) → skipped (spaced_from true s) ≡ spaced_once (skipped s)
skipped-spaced [] = refl
skipped-spaced (x ∷ s) = go (eqb x 32) refl (skipped-spaced s)
  where
    go : (b : Bool) → eqb x 32 ≡ b → skipped (spaced_from true s) ≡ spaced_once (skipped s)
        → skipped (cond b (spaced_from true s) (x ∷ spaced_from false s)) ≡ spaced_once (cond b (skipped s) (x ∷ s))
    go true e r = r
    go false e r = rw e

next-spaced : (s : List ℕ) → next_of (spaced_once s) ≡ spaced_found (next_of s)
next-spaced [] = refl
next-spaced (x ∷ s) = go (eqb x 32) refl
  where
    go : (b : Bool) → eqb x 32 ≡ b → next_of (spaced_once (x ∷ s)) ≡ spaced_found (next_of (x ∷ s))
    go true e = rw (eqb-true x 32 e) (ap number_of (skipped-spaced s) ∙ number-spaced (skipped s))
    go false e = rw (not-space false x s e, e)

-- ---- lines

-- a line with one space for several after it
abbrev spaced_line : Line → Line
spaced_line (reads vs s) = reads vs (spaced_once s)
spaced_line faulty = faulty

feed-spaced : (s : List ℕ) → feed_of (spaced_once s) ≡ spaced_line (feed_of s)
feed-spaced [] = refl
feed-spaced (x ∷ s) = go (eqb x 32) refl
  where
    by-feed : (b : Bool) → cond b (reads [] (spaced_once s)) faulty ≡ spaced_line (cond b (reads [] s) faulty)
    by-feed true = refl
    by-feed false = refl

    go : (b : Bool) → eqb x 32 ≡ b → feed_of (spaced_once (x ∷ s)) ≡ spaced_line (feed_of (x ∷ s))
    go true e = rw (eqb-true x 32 e)
    go false e = ap feed_of (not-space false x s e) ∙ by-feed (eqb x 10)

before-spaced : (v : ℕ) (l : Line) → before v (spaced_line l) ≡ spaced_line (before v l)
before-spaced v (reads vs s) = refl
before-spaced v faulty = refl

further-spaced : (f : Found) (on : List ℕ → Line) → ((s : List ℕ) → on (spaced_once s) ≡ spaced_line (on s))
    → further (spaced_found f) on ≡ spaced_line (further f on)
further-spaced (found v s) on h = ap (before v) (h s) ∙ before-spaced v (on s)
further-spaced nothing on h = refl

rest-spaced : (k : ℕ) (s : List ℕ) → rest_of k (spaced_once s) ≡ spaced_line (rest_of k s)
rest-spaced zero s = feed-spaced s
rest-spaced (suc k) s = ap (λ (f : Found). further f (rest_of k)) (next-spaced s) ∙ further-spaced (next_of s) (rest_of k) (rest-spaced k)

-- a line is read as the one with one space for several
line-spaced : (k : ℕ) (s : List ℕ) → line_of k (spaced_once s) ≡ spaced_line (line_of k s)
line-spaced zero s = feed-spaced s
line-spaced (suc k) s = ap (λ (f : Found). further f (rest_of k)) (number-spaced s) ∙ further-spaced (number_of s) (rest_of k) (rest-spaced k)

-- ---- a line as written

-- it is read but for its spaces, and so may be what follows
pub record LineBack (xs s r : List ℕ) : Type 0 where
  pub after : List ℕ
  pub is : line_of (length xs) s ≡ reads xs after
  pub rest : spaced_once after ≡ r

pub line-back : (xs s r : List ℕ) → Small xs → spaced_once s ≡ line xs ++ r → LineBack xs s r
line-back xs s r h e = go (line_of (length xs) s) refl (sym (line-spaced (length xs) s) ∙ ap (line_of (length xs)) e ∙ line_read xs r h)
  where
    go : (l : Line) → line_of (length xs) s ≡ l → spaced_line l ≡ reads xs r → LineBack xs s r
    go (reads vs t) d p =
        let a : vs ≡ xs = cc in
        let b : spaced_once t ≡ r = cc in
        record { after = t; is = d ∙ ap (λ (v : List ℕ). reads v t) a; rest = b }
    go faulty d p = absurd (let z : ◌≡◌ {A = ℕ} 0 1 = cc in omega arith)
