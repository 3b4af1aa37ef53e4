-- Indices in any order: a list put in order is the list of its word.
use borrow.Author.Tests.{lt-ltb, le-leb, le-ltb, ne_eqb}
use lib.Dec.{eqb, ltb}
use lib.ListN.{drop, length, length-drop, take}
use lib.Seq.{length-take-le}
use mathlib.Core.Bool.{Bool, ◌&&◌, cond, false, true}
use mathlib.Core.List.{◌++◌, List, [], map, ◌∷◌}
use mathlib.Core.Path.{◌≡◌, ap, refl, sym, ◌∙◌}
use native.Mathlib.Decide.{dec_lt}
use native.Mathlib.Nat.{pow-suc}
use native.Mathlib.Omega.{arith}
use Prim.Native.Nat.{◌%◌, ◌*◌, ◌+◌, ◌-◌, ◌/◌, ◌<◌, ◌^◌, suc, zero, zero-le, ℕ, ◌≤◌}
use Rattle.alists.proofs.Ascending.{FirstIndex, above, first-index, ones-known, padded-known, word-judged}
use Rattle.alists.proofs.NumbersFound.{both}
use Rattle.alists.specs.Accepted.{inserted, ordered}
use Rattle.alists.specs.Lists.{indices, list_of, ones_from, padded, weight}
use Rattle.alists.specs.OwnForm.{ascend, ascend_from, each}
use Rattle.alists.specs.Reading.{fits, ones_of, word, word_of, zeros_only}
use Rattle.words.specs.Word.{bit}

-- ---- two indices change places

-- a one more at a position without one
bit-new : (p u : ℕ) → bit u p ≡ 0 → bit (u + 2 ^ p) p ≡ 1
bit-new zero u e = let b : u % 2 ≡ 0 = e in omega (arith, b)
bit-new (suc p) u e =
    let g : 2 ^ suc p ≡ 2 ^ p * 2 = pow-suc 2 p in
    let h : (u + 2 ^ suc p) / 2 ≡ u / 2 + 2 ^ p = omega (arith, g) in
    rw h (bit-new p (u / 2) e)

bit-other : (p q u : ℕ) → bit u p ≡ 0 → (q ≡ p → ⊥) → bit (u + 2 ^ p) q ≡ bit u q
bit-other zero zero u e n = absurd (n refl)
bit-other zero (suc q) u e n =
    let b : u % 2 ≡ 0 = e in
    let h : (u + 1) / 2 ≡ u / 2 = omega (arith, b) in
    rw h
bit-other (suc p) zero u e n =
    let g : 2 ^ suc p ≡ 2 ^ p * 2 = pow-suc 2 p in
    let h : (u + 2 ^ suc p) % 2 ≡ u % 2 = omega (arith, g) in
    h
bit-other (suc p) (suc q) u e n =
    let g : 2 ^ suc p ≡ 2 ^ p * 2 = pow-suc 2 p in
    let h : (u + 2 ^ suc p) / 2 ≡ u / 2 + 2 ^ p = omega (arith, g) in
    rw h (bit-other p q (u / 2) e (λ z. n (ap suc z)))

fits-of : (size used x : ℕ) → 1 ≤ x → x ≤ size → bit used (x - 1) ≡ 0 → fits size used x ≡ true
fits-of size used x l h b = rw (ne_eqb x 0 (λ z. omega (arith, z, l)), le-leb x size h, b)

-- two indices one after the other differ, and either may come first
pub record Swapped (size used x y : ℕ) (ys : List ℕ) (w : ℕ) : Type 0 where
  pub differ : x ≡ y → ⊥
  pub is : ones_of size used (y ∷ x ∷ ys) ≡ word w

pub swap : (size used x y : ℕ) (ys : List ℕ) (w : ℕ) → ones_of size used (x ∷ y ∷ ys) ≡ word w → Swapped size used x y ys w
swap size used x y ys w e = record { differ = apart; is = rw (y-fits, x_fits, order) g.others }
  where
    f : FirstIndex size used x (y ∷ ys) w
    f = first-index size used x (y ∷ ys) w e

    g : FirstIndex size (used + 2 ^ (x - 1)) y ys w
    g = first-index size (used + 2 ^ (x - 1)) y ys w f.others

    apart : x ≡ y → ⊥
    apart q =
        let a = bit-new (x - 1) used f.new in
        let b = rw (← q) at g.new in
        omega (arith, a, b)

    places : 1 ≤ x → 1 ≤ y → y - 1 ≡ x - 1 → ⊥
    places a b c = apart (omega (arith, a, b, c))

    y-new : bit used (y - 1) ≡ 0
    y-new = sym (bit-other (x - 1) (y - 1) used f.new (places f.low g.low)) ∙ g.new

    y-fits : fits size used y ≡ true
    y-fits = fits-of size used y g.low g.high y-new

    x_fits : fits size (used + 2 ^ (y - 1)) x ≡ true
    x_fits =
        fits-of size (used + 2 ^ (y - 1)) x f.low f.high
        (bit-other (y - 1) (x - 1) used y-new (λ z. places f.low g.low (sym z)) ∙ f.new)

    order : used + 2 ^ (y - 1) + 2 ^ (x - 1) ≡ used + 2 ^ (x - 1) + 2 ^ (y - 1)
    order = omega arith

-- ---- an index among others

pub record InOrder (size used last count w : ℕ) (xs : List ℕ) : Type 0 where
  pub ascends : ascend_from last xs ≡ true
  pub ones : ones_of size used xs ≡ word w
  pub long : length xs ≡ count

ascend-on : (last x : ℕ) (xs : List ℕ) → last < x → ascend_from x xs ≡ true → ascend_from last (x ∷ xs) ≡ true
ascend-on last x xs h e = rw (ne_eqb x 0 (λ z. omega (arith, z, h)), lt-ltb last x h, e)

inserted-known : (size x w : ℕ) (ys : List ℕ) (used last : ℕ) → last < x → ascend_from last ys ≡ true → ones_of size used (x ∷ ys) ≡ word w
    → InOrder size used last (suc (length ys)) w (inserted x ys)
inserted-known size x w [] used last h a e = record { ascends = ascend-on last x [] h refl; ones = e; long = refl }
inserted-known size x w (y ∷ ys) used last h a e = go (dec_lt x y) (inserted-known size x w ys (used + 2 ^ (y - 1)) y)
  where
    s : Swapped size used x y ys w
    s = swap size used x y ys w e

    f : FirstIndex size used y (x ∷ ys) w
    f = first-index size used y (x ∷ ys) w s.is

    b : (last < y) × (ascend_from y ys ≡ true)
    b = above last y ys f.low a

    n : eqb y 0 ≡ false
    n = let l = f.low in ne_eqb y 0 (λ z. omega (arith, z, l))

    go : Dec (x < y)
        → (y < x → ascend_from y ys ≡ true → ones_of size (used + 2 ^ (y - 1)) (x ∷ ys) ≡ word w
        → InOrder size (used + 2 ^ (y - 1)) y (suc (length ys)) w (inserted x ys))
        → InOrder size used last (suc (suc (length ys))) w (inserted x (y ∷ ys))
    go (yes l) on = rw (n, lt-ltb x y l) (record { ascends = ascend-on last x (y ∷ ys) h (ascend-on x y ys l b.1); ones = e; long = refl })
    go (no l) on =
        let d = s.differ in
        let r = on (omega (arith, l, d)) b.1 f.others in
        rw (n, le-ltb x y (omega (arith, l)))
        (record { ascends = ascend-on last y (inserted x ys) b.0 r.ascends; ones = rw f.fit r.ones; long = ap suc r.long })

-- indices in order
ordered-known : (size w : ℕ) (xs : List ℕ) (used : ℕ) → ones_of size used xs ≡ word w → InOrder size used 0 (length xs) w (ordered xs)
ordered-known size w [] used e = record { ascends = refl; ones = e; long = refl }
ordered-known size w (x ∷ xs) used e =
    let f = first-index size used x xs w e in
    let l = f.low in
    let r = ordered-known size w xs (used + 2 ^ (x - 1)) f.others in
    let k = inserted-known size x w (ordered xs) used 0 (omega (arith, l)) r.ascends (rw f.fit r.ones) in
    rw (ne_eqb x 0 (λ z. omega (arith, z, l))) (rw r.long at k)

-- ---- zeros behind

inserted-zeros : (x : ℕ) (ys zs : List ℕ) → zeros_only zs ≡ true → inserted x (ys ++ zs) ≡ inserted x ys ++ zs
inserted-zeros x [] [] z = refl
inserted-zeros x [] (y ∷ zs) z = go (eqb y 0) z
  where
    go : (t : Bool) → (t && zeros_only zs) ≡ true → cond t (x ∷ y ∷ zs) (cond (ltb x y) (x ∷ y ∷ zs) (y ∷ inserted x zs)) ≡ x ∷ y ∷ zs
    go true e = refl
    go false e = absurd (let f : ◌≡◌ {A = ℕ} 0 1 = cc in omega arith)
inserted-zeros x (y ∷ ys) zs z = go (eqb y 0) (ltb x y) (inserted-zeros x ys zs z)
  where
    go : (s t : Bool) → inserted x (ys ++ zs) ≡ inserted x ys ++ zs
        → cond s (x ∷ y ∷ (ys ++ zs)) (cond t (x ∷ y ∷ (ys ++ zs)) (y ∷ inserted x (ys ++ zs)))
        ≡ cond s (x ∷ y ∷ ys) (cond t (x ∷ y ∷ ys) (y ∷ inserted x ys)) ++ zs
    go true t r = refl
    go false true r = refl
    go false false r = ap (λ (l : List ℕ). y ∷ l) r

-- zeros are in order
ordered-zeros : (zs : List ℕ) → zeros_only zs ≡ true → ordered zs ≡ zs
ordered-zeros [] z = refl
ordered-zeros (x ∷ zs) z = go (eqb x 0) z
  where
    go : (t : Bool) → (t && zeros_only zs) ≡ true → cond t (x ∷ zs) (inserted x (ordered zs)) ≡ x ∷ zs
    go true e = refl
    go false e = absurd (let f : ◌≡◌ {A = ℕ} 0 1 = cc in omega arith)

ordered-split : (size w count : ℕ) (xs : List ℕ) (used : ℕ) → ones_of size used (take count xs) ≡ word w → zeros_only (drop count xs) ≡ true
    → ordered xs ≡ ordered (take count xs) ++ drop count xs
ordered-split size w zero xs used e z = ordered-zeros xs z
ordered-split size w (suc count) [] used e z = refl
ordered-split size w (suc count) (x ∷ xs) used e z =
    let f = first-index size used x (take count xs) w e in
    let l = f.low in
    let r = ordered-split size w count xs (used + 2 ^ (x - 1)) f.others z in
    rw (ne_eqb x 0 (λ g. omega (arith, g, l)), r) (inserted-zeros x (ordered (take count xs)) (drop count xs) z)

padded-zeros : (xs zs : List ℕ) (k : ℕ) → k ≡ length xs + length zs → zeros_only zs ≡ true → padded k xs ≡ xs ++ zs
padded-zeros [] zs k e z = let d : k ≡ length zs = omega (arith, e) in rw d (padded-known zero zs zero-le z)
padded-zeros (x ∷ xs) zs zero e z = absurd (omega (arith, e))
padded-zeros (x ∷ xs) zs (suc k) e z = ap (λ (r : List ℕ). x ∷ r) (padded-zeros xs zs k (omega (arith, e)) z)

-- ---- a list

-- what a list judged as a word is, once in order
pub record ListOrdered (count : ℕ) (xs : List ℕ) (w : ℕ) : Type 0 where
  pub weighs : count ≡ weight w
  pub is : ordered xs ≡ list_of (length xs) w

list-among : (size span count : ℕ) (xs : List ℕ) (w : ℕ) → size ≤ span → word_of size count xs ≡ word w
    → (count ≡ length (ones_from w 0 span)) × (ordered xs ≡ padded (length xs) (ones_from w 0 span))
list-among size span count xs w h e =
    let j = word-judged size count xs w e in
    let o = ordered-known size w (take count xs) 0 j.ones in
    let k = (ones-known size w 0 span 0 (ordered (take count xs)) (omega arith) (omega arith) o.ascends o.ones).0 in
    let c : length (ones_from w 0 span) ≡ count = sym (ap length k) ∙ o.long ∙ length-take-le count xs j.long in
    let d = length-drop count xs in
    let g = j.long in
    let p = padded-zeros (ones_from w 0 span) (drop count xs) (length xs) (omega (arith, c, d, g)) j.zeros in
    (sym c, ordered-split size w count xs 0 j.ones j.zeros ∙ rw k (sym p))

pub list-ordered : (size count : ℕ) (xs : List ℕ) (w : ℕ) → size ≤ 64 → word_of size count xs ≡ word w → ListOrdered count xs w
unfolding weight indices
list-ordered size count xs w h e = let p = list-among size 64 count xs w h e in record { weighs = p.0; is = p.1 }

-- an index before others that are above it
inserted-first : (x : ℕ) (xs : List ℕ) → ascend_from x xs ≡ true → inserted x xs ≡ x ∷ xs
inserted-first x [] a = refl
inserted-first x (y ∷ xs) a = go (eqb y 0) a
  where
    go : (t : Bool) → cond t true (ltb x y && ascend_from y xs) ≡ true
        → cond t (x ∷ y ∷ xs) (cond (ltb x y) (x ∷ y ∷ xs) (y ∷ inserted x xs)) ≡ x ∷ y ∷ xs
    go true e = refl
    go false e = rw (both (ltb x y) (ascend_from y xs) e).0

-- a list that ascends is in order
ascend-ordered : (last : ℕ) (xs : List ℕ) → ascend_from last xs ≡ true → ordered xs ≡ xs
ascend-ordered last [] a = refl
ascend-ordered last (x ∷ xs) a = go (eqb x 0) a (ascend-ordered x xs)
  where
    go : (t : Bool) → cond t true (ltb last x && ascend_from x xs) ≡ true → (ascend_from x xs ≡ true → ordered xs ≡ xs)
        → cond t (x ∷ xs) (inserted x (ordered xs)) ≡ x ∷ xs
    go true e r = refl
    go false e r = let b = (both (ltb last x) (ascend_from x xs) e).1 in rw (r b) (inserted-first x xs b)

pub lists-ordered : (ls : List (List ℕ)) → each ascend ls ≡ true → map ordered ls ≡ ls
lists-ordered [] e = refl
lists-ordered (l ∷ ls) e = let b = both (ascend l) (each ascend ls) e in rw (ascend-ordered 0 l b.0, lists-ordered ls b.1)
