-- A line that the alist reader reads is the text up to its first line feed, and says the numbers read; a line that it does not read says none of that many.
use borrow.Author.Tests.{eqb-true, ne_eqb}
use lib.Dec.{eqb, ltb}
use lib.ListN.{length, length-append, take}
use lib.Seq.{take-append_seam}
use mathlib.Core.Bool.{Bool, cond, false, true}
use mathlib.Core.List.{◌++◌, List, [], append_assoc, ◌∷◌}
use mathlib.Core.Path.{ap, refl, subst, sym, ◌∙◌, ◌≡◌}
use native.Mathlib.Omega.{arith}
use Prim.Native.Nat.{◌%◌, ◌+◌, ◌/◌, suc, zero, ℕ}
use Rattle.alists.proofs.NumbersRead.{line_known, line_read}
use Rattle.alists.proofs.SpacedOnce.{line_taken, number-taken, short-small}
use Rattle.alists.proofs.SpacedRead.{line-back}
use Rattle.alists.specs.Accepted.{spaced_from, spaced_once}
use Rattle.alists.specs.Lines.{Found, Line, before, faulty, feed_of, found, further, line_of, next_of, nothing, number_of, reads, rest_of, skipped}
use Rattle.alists.specs.Text.{decimal, line}
use Rattle.demands.specs.AlistFaults.{Says}
use Rattle.sheets.specs.Text.{lines, onto}

-- ---- up to the first line feed

-- no line feed in it
abbrev pub Clear : List ℕ → Type 0
Clear [] = Unit {0}
Clear (x ∷ xs) = (eqb x 10 ≡ false) × Clear xs

clear_both : (p q : List ℕ) → Clear p → Clear q → Clear (p ++ q)
clear_both [] q a b = b
clear_both (x ∷ p) q a b = (a.0, clear_both p q a.1 b)

-- s is a line and its line feed, and t behind them
pub record Cut (s t : List ℕ) : Type 0 where
  pub bytes : List ℕ
  pub are : s ≡ bytes ++ 10 ∷ t
  pub clear : Clear bytes

behind : (p u t s : List ℕ) → s ≡ p ++ u → Clear p → Cut u t → Cut s t
behind p u t s e h c = record {
  bytes = p ++ c.bytes;
  are = e ∙ ap (λ (x : List ℕ). p ++ x) c.are ∙ sym (append_assoc p c.bytes (10 ∷ t));
  clear = clear_both p c.bytes h c.clear;
}

decimal-clear : (v : ℕ) → Clear (decimal v)
decimal-clear v = go (ltb v 10)
  where
    go : (b : Bool) → Clear (cond b ((48 + v) ∷ []) ((48 + v / 10) ∷ (48 + v % 10) ∷ []))
    go true = (ne_eqb (48 + v) 10 (λ e. omega (arith, e)), tt)
    go false = (ne_eqb (48 + v / 10) 10 (λ e. omega (arith, e)), (ne_eqb (48 + v % 10) 10 (λ e. omega (arith, e)), tt))

-- the spaces before a number
skipped-behind : (s t : List ℕ) → Cut (skipped s) t → Cut s t
skipped-behind [] t c = c
skipped-behind (x ∷ s) t c = go (eqb x 32) refl c (skipped-behind s t)
  where
    go : (b : Bool) → eqb x 32 ≡ b → Cut (cond b (skipped s) (x ∷ s)) t → (Cut (skipped s) t → Cut s t) → Cut (x ∷ s) t
    go true e d on =
        let a = eqb-true x 32 e in
        behind (x ∷ []) s t (x ∷ s) refl (ne_eqb x 10 (λ z. omega (arith, a, z)), tt) (on d)
    go false e d on = d

feed-cut : (s vs t : List ℕ) → feed_of s ≡ reads vs t → Cut s t
feed-cut [] vs t e = absurd (let z : ◌≡◌ {A = ℕ} 0 1 = cc in omega arith)
feed-cut (x ∷ s) vs t e = go (eqb x 10) refl e
  where
    go : (b : Bool) → eqb x 10 ≡ b → cond b (reads [] s) faulty ≡ reads vs t → Cut (x ∷ s) t
    go true d p =
        let a = eqb-true x 10 d in
        let b : s ≡ t = cc in
        record { bytes = []; are = rw (a, b); clear = tt }
    go false d p = absurd (let z : ◌≡◌ {A = ℕ} 0 1 = cc in omega arith)

-- a number and those after it
further-cut : (f : Found) (on : List ℕ → Line) (vs s t : List ℕ) → further f on ≡ reads vs t
    → ((v : ℕ) (u : List ℕ) → f ≡ found v u → Cut u t → Cut s t) → ((u ws : List ℕ) → on u ≡ reads ws t → Cut u t) → Cut s t
further-cut nothing on vs s t e first rest = absurd (let z : ◌≡◌ {A = ℕ} 0 1 = cc in omega arith)
further-cut (found v u) on vs s t e first rest = go (on u) refl e
  where
    go : (l : Line) → on u ≡ l → before v l ≡ reads vs t → Cut s t
    go (reads ws r) d p = let b : r ≡ t = cc in first v u refl (rest u ws (d ∙ ap (reads ws) b))
    go faulty d p = absurd (let z : ◌≡◌ {A = ℕ} 0 1 = cc in omega arith)

number_behind : (s t : List ℕ) (v : ℕ) (u : List ℕ) → number_of s ≡ found v u → Cut u t → Cut s t
number_behind s t v u e c = behind (decimal v) u t s (number-taken s v u e).is (decimal-clear v) c

next-behind : (s t : List ℕ) (v : ℕ) (u : List ℕ) → next_of s ≡ found v u → Cut u t → Cut s t
next-behind [] t v u e c = absurd (let z : ◌≡◌ {A = ℕ} 0 1 = cc in omega arith)
next-behind (x ∷ s) t v u e c = go (eqb x 32) refl e
  where
    go : (b : Bool) → eqb x 32 ≡ b → cond b (number_of (skipped s)) nothing ≡ found v u → Cut (x ∷ s) t
    go true d p =
        let a = eqb-true x 32 d in
        behind (x ∷ []) s t (x ∷ s) refl (ne_eqb x 10 (λ z. omega (arith, a, z)), tt) (skipped-behind s t (number_behind (skipped s) t v u p c))
    go false d p = absurd (let z : ◌≡◌ {A = ℕ} 0 1 = cc in omega arith)

rest-cut : (k : ℕ) (s vs t : List ℕ) → rest_of k s ≡ reads vs t → Cut s t
rest-cut zero s vs t e = feed-cut s vs t e
rest-cut (suc k) s vs t e = further-cut (next_of s) (rest_of k) vs s t e (next-behind s t) (λ u ws f. rest-cut k u ws t f)

-- a line that is read is one
pub line-cut : (k : ℕ) (s vs t : List ℕ) → line_of k s ≡ reads vs t → Cut s t
line-cut zero s vs t e = feed-cut s vs t e
line-cut (suc k) s vs t e = further-cut (number_of s) (rest_of k) vs s t e (number_behind s t) (λ u ws f. rest-cut k u ws t f)

-- ---- the lines of a text

pub lines_cut : (l t : List ℕ) → Clear l → lines (l ++ 10 ∷ t) ≡ l ∷ lines t
lines_cut [] t h = refl
lines_cut (x ∷ l) t h = rw (h.0, lines_cut l t h.1)

onto-some : (x : ℕ) (ps : List (List ℕ)) → onto x ps ≡ [] → ⊥
onto-some x [] e = let z : ◌≡◌ {A = ℕ} 0 1 = cc in omega arith
onto-some x (p ∷ ps) e = let z : ◌≡◌ {A = ℕ} 0 1 = cc in omega arith

-- there is at least what follows the last line feed
pub lines-some : (s : List ℕ) → lines s ≡ [] → ⊥
lines-some [] e = let z : ◌≡◌ {A = ℕ} 0 1 = cc in omega arith
lines-some (x ∷ s) e = go (eqb x 10) e
  where
    go : (b : Bool) → cond b ([] ∷ lines s) (onto x (lines s)) ≡ [] → ⊥
    go true f = let z : ◌≡◌ {A = ℕ} 0 1 = cc in omega arith
    go false f = onto-some x (lines s) f

-- a text of two lines or more begins with the first and its line feed
pub record Begun (s l : List ℕ) : Type 0 where
  pub after : List ℕ
  pub are : s ≡ l ++ 10 ∷ after

begun_more : (x : ℕ) (s l m : List ℕ) (ls : List (List ℕ)) (ps : List (List ℕ)) → onto x ps ≡ l ∷ m ∷ ls
    → ((p : List ℕ) → ps ≡ p ∷ m ∷ ls → Begun s p) → Begun (x ∷ s) l
begun_more x s l m ls [] e on = absurd (let z : ◌≡◌ {A = ℕ} 0 1 = cc in omega arith)
begun_more x s l m ls (p ∷ ps) e on =
    let a : (x ∷ p) ≡ l = cc in
    let b : ps ≡ m ∷ ls = cc in
    let r = on p (ap (λ (q : List (List ℕ)). p ∷ q) b) in
    record { after = r.after; are = rw (← a) (ap (λ (y : List ℕ). x ∷ y) r.are) }

pub begun : (s l m : List ℕ) (ls : List (List ℕ)) → lines s ≡ l ∷ m ∷ ls → Begun s l
begun [] l m ls e = absurd (let z : ◌≡◌ {A = ℕ} 0 1 = cc in omega arith)
begun (x ∷ s) l m ls e = go (eqb x 10) refl e (λ p f. begun s p m ls f)
  where
    go : (b : Bool) → eqb x 10 ≡ b → cond b ([] ∷ lines s) (onto x (lines s)) ≡ l ∷ m ∷ ls → ((p : List ℕ) → lines s ≡ p ∷ m ∷ ls → Begun s p) → Begun (x ∷ s) l
    go true d f on =
        let a = eqb-true x 10 d in
        let b : [] ≡ l = cc in
        record { after = s; are = rw (← b, a) }
    go false d f on = begun_more x s l m ls (lines s) f on

-- ---- what a line says

-- several spaces for one, up to a line feed and behind it
spaced-cut : (b : Bool) (l t : List ℕ) → spaced_from b (l ++ 10 ∷ t) ≡ spaced_from b (l ++ 10 ∷ []) ++ spaced_once t
spaced-cut b [] t = refl
spaced-cut b (x ∷ l) t =
    go (eqb x 32) b (spaced_from true (l ++ 10 ∷ t)) (spaced_from true (l ++ 10 ∷ [])) (spaced_from false (l ++ 10 ∷ t)) (spaced_from false (l ++ 10 ∷ []))
    (spaced-cut true l t) (spaced-cut false l t)
  where
    go : (e b : Bool) (p q r s : List ℕ) → p ≡ q ++ spaced_once t → r ≡ s ++ spaced_once t
        → cond e (cond b p (x ∷ p)) (x ∷ r) ≡ cond e (cond b q (x ∷ q)) (x ∷ s) ++ spaced_once t
    go true true p q r s h k = h
    go true false p q r s h k = ap (λ (y : List ℕ). x ∷ y) h
    go false b p q r s h k = ap (λ (y : List ℕ). x ∷ y) k

cancel : (xs ys zs : List ℕ) → xs ++ zs ≡ ys ++ zs → xs ≡ ys
cancel xs ys zs e =
    let n : length xs ≡ length ys = omega (arith, ap length e, length-append xs zs, length-append ys zs) in
    sym (take-append_seam xs zs) ∙ ap (take (length xs)) e ∙ ap (λ (k : ℕ). take k (ys ++ zs)) n ∙ take-append_seam ys zs

-- a line that is read says what was read
pub read-says : (k : ℕ) (s vs t : List ℕ) → line_of k s ≡ reads vs t → (c : Cut s t) → Says c.bytes vs
read-says k s vs t e c =
    let h = line_taken k s vs t e in record {
      below = h.numbers;
      is = cancel (spaced_once (c.bytes ++ 10 ∷ [])) (line vs) (spaced_once t) (sym (spaced-cut false c.bytes t) ∙ ap spaced_once (sym c.are) ∙ h.is);
    }

-- a line says one list of numbers
pub says-once : (l vs ws : List ℕ) → Says l vs → Says l ws → vs ≡ ws
says-once l vs ws a b =
    let e : line vs ≡ line ws = sym a.is ∙ b.is in
    (line_known (length vs) ws [] (short-small ws b.below) vs []
    (ap (λ (x : List ℕ). line_of (length vs) (x ++ [])) (sym e) ∙ line_read vs [] (short-small vs a.below))).0

-- a line that is not read as k numbers says no k numbers
pub unread-says : (k : ℕ) (s l m : List ℕ) (ls : List (List ℕ)) → line_of k s ≡ faulty → lines s ≡ l ∷ m ∷ ls → (vs : List ℕ) → Says l vs → length vs ≡ k → ⊥
unread-says k s l m ls f e vs a n =
    let b = begun s l m ls e in
    let h : spaced_once s ≡ line vs ++ spaced_once b.after =
    ap spaced_once b.are ∙ spaced-cut false l b.after ∙ ap (λ (x : List ℕ). x ++ spaced_once b.after) a.is in
    let r = line-back vs s (spaced_once b.after) (short-small vs a.below) h in
    let c : line_of k s ≡ reads vs r.after = subst (λ (j : ℕ). line_of j s ≡ reads vs r.after) n r.is in
    let d : reads vs r.after ≡ faulty = sym c ∙ f in
    let z : ◌≡◌ {A = ℕ} 0 1 = cc in
    omega arith
