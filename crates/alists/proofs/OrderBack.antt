-- A list that is the list of a word once in order is judged as that word.
use borrow.Author.Tests.{eqb-false, eqb-true, le-leb}
use lib.Dec.{eqb, ltb}
use lib.ListN.{drop, length, take}
use mathlib.Core.Bool.{Bool, cond, false, true}
use mathlib.Core.List.{List, [], ◌∷◌}
use mathlib.Core.Path.{◌≡◌, ap, refl, sym, ◌∙◌}
use native.Mathlib.Omega.{arith}
use Prim.Native.Nat.{◌+◌, ◌-◌, ◌<◌, ◌^◌, suc, zero, ℕ, ◌≤◌}
use Rattle.alists.proofs.Ascending.{first-index}
use Rattle.alists.proofs.Bounds.{padded-length}
use Rattle.alists.proofs.OnesBack.{indices-back, zeros-padded}
use Rattle.alists.proofs.Ordered.{swap}
use Rattle.alists.specs.Accepted.{inserted, ordered}
use Rattle.alists.specs.Lists.{indices, list_of, padded, weight}
use Rattle.alists.specs.Reading.{ones_of, word, word_of, zeros_only}

-- ---- an index taken out

-- the first of some padded indices
record FirstOut (x : ℕ) (zs : List ℕ) (k : ℕ) (bs : List ℕ) : Type 0 where
  pub others : List ℕ
  pub width : ℕ
  pub wide : k ≡ suc width
  pub are : bs ≡ x ∷ others
  pub is : zs ≡ padded width others

first_out : (x : ℕ) (zs : List ℕ) (k : ℕ) (bs : List ℕ) → (x ≡ 0 → ⊥) → x ∷ zs ≡ padded k bs → FirstOut x zs k bs
first_out x zs zero bs h e = absurd (let z : ◌≡◌ {A = ℕ} 0 1 = cc in omega arith)
first_out x zs (suc k) [] h e = absurd (h (cc))
first_out x zs (suc k) (b ∷ bs) h e =
    let p : x ≡ b = cc in
    let q : zs ≡ padded k bs = cc in
    record { others = bs; width = k; wide = refl; are = rw p; is = q }

-- one that was inserted
record TakenOut (size used x w : ℕ) (ys : List ℕ) (k : ℕ) (bs : List ℕ) : Type 0 where
  pub others : List ℕ
  pub width : ℕ
  pub wide : k ≡ suc width
  pub is : ys ≡ padded width others
  pub ones : ones_of size used (x ∷ others) ≡ word w
  pub long : length bs ≡ suc (length others)

module _ (size x w : ℕ) (some : x ≡ 0 → ⊥) where
  as_first : (zs bs : List ℕ) (used k : ℕ) → x ∷ zs ≡ padded k bs → ones_of size used bs ≡ word w → TakenOut size used x w zs k bs
  as_first zs bs used k e o =
      let f = first_out x zs k bs some e in
      record { others = f.others; width = f.width; wide = f.wide; is = f.is; ones = rw f.are at o; long = ap length f.are }

  taken_out : (ys bs : List ℕ) (used k : ℕ) → inserted x ys ≡ padded k bs → ones_of size used bs ≡ word w → TakenOut size used x w ys k bs
  taken_out [] bs used k e o = as_first [] bs used k e o
  taken_out (y ∷ ys) bs used k e o = go (eqb y 0) refl (ltb x y) e (taken_out ys)
    where
      later : (y ≡ 0 → ⊥) → y ∷ inserted x ys ≡ padded k bs
          → ((cs : List ℕ) (u l : ℕ) → inserted x ys ≡ padded l cs → ones_of size u cs ≡ word w → TakenOut size u x w ys l cs)
          → TakenOut size used x w (y ∷ ys) k bs
      later h d on =
          let g = first_out y (inserted x ys) k bs h d in
          let f = first-index size used y g.others w (rw g.are at o) in
          let t = on g.others (used + 2 ^ (y - 1)) g.width g.is f.others in
          let c : ones_of size used (y ∷ x ∷ t.others) ≡ word w = rw f.fit t.ones in
          record {
            others = y ∷ t.others;
            width = suc t.width;
            wide = g.wide ∙ ap suc t.wide;
            is = ap (λ (r : List ℕ). y ∷ r) t.is;
            ones = (swap size used y x t.others w c).is;
            long = ap length g.are ∙ ap suc t.long;
          }

      go : (a : Bool) → eqb y 0 ≡ a → (b : Bool) → cond a (x ∷ y ∷ ys) (cond b (x ∷ y ∷ ys) (y ∷ inserted x ys)) ≡ padded k bs
          → ((cs : List ℕ) (u l : ℕ) → inserted x ys ≡ padded l cs → ones_of size u cs ≡ word w → TakenOut size u x w ys l cs)
          → TakenOut size used x w (y ∷ ys) k bs
      go true a b d on = as_first (y ∷ ys) bs used k d o
      go false a true d on = as_first (y ∷ ys) bs used k d o
      go false a false d on = later (eqb-false y 0 a) d on

-- ---- a list

-- as many indices as there are in order, then zeros
record AsOrdered (size used w : ℕ) (xs : List ℕ) (k count : ℕ) : Type 0 where
  pub long : length xs ≡ k
  pub zeros : zeros_only (drop count xs) ≡ true
  pub ones : ones_of size used (take count xs) ≡ word w

zeros-first : (size used w : ℕ) (x : ℕ) (xs : List ℕ) (k : ℕ) (bs : List ℕ) → x ≡ 0 → x ∷ xs ≡ padded k bs → ones_of size used bs ≡ word w
    → AsOrdered size used w (x ∷ xs) k (length bs)
zeros-first size used w x xs k [] z e o =
    record { long = ap length e ∙ padded-length k []; zeros = ap zeros_only e ∙ zeros-padded k; ones = o }
zeros-first size used w x xs zero (b ∷ bs) z e o = absurd (let f : ◌≡◌ {A = ℕ} 0 1 = cc in omega arith)
zeros-first size used w x xs (suc k) (b ∷ bs) z e o =
    let p : x ≡ b = cc in
    let l = (first-index size used b bs w o).low in
    absurd (omega (arith, p, z, l))

as-ordered : (size w : ℕ) (xs bs : List ℕ) (used k : ℕ) → length bs ≤ k → ordered xs ≡ padded k bs → ones_of size used bs ≡ word w
    → AsOrdered size used w xs k (length bs)
as-ordered size w [] [] used zero h e o = record { long = refl; zeros = refl; ones = o }
as-ordered size w [] (b ∷ bs) used zero h e o = absurd (omega (arith, h))
as-ordered size w [] [] used (suc k) h e o = absurd (let z : ◌≡◌ {A = ℕ} 0 1 = cc in omega arith)
as-ordered size w [] (b ∷ bs) used (suc k) h e o = absurd (let z : ◌≡◌ {A = ℕ} 0 1 = cc in omega arith)
as-ordered size w (x ∷ xs) bs used k h e o = go (eqb x 0) refl e (as-ordered size w xs)
  where
    go : (t : Bool) → eqb x 0 ≡ t → cond t (x ∷ xs) (inserted x (ordered xs)) ≡ padded k bs
        → ((cs : List ℕ) (u l : ℕ) → length cs ≤ l → ordered xs ≡ padded l cs → ones_of size u cs ≡ word w → AsOrdered size u w xs l (length cs))
        → AsOrdered size used w (x ∷ xs) k (length bs)
    go true a d on = zeros-first size used w x xs k bs (eqb-true x 0 a) d o
    go false a d on =
        let t = taken_out size x w (eqb-false x 0 a) (ordered xs) bs used k d o in
        let f = first-index size used x t.others w t.ones in
        let p = t.long in
        let q = t.wide in
        let r = on t.others (used + 2 ^ (x - 1)) t.width (omega (arith, h, p, q)) t.is f.others in
        let c : ones_of size used (x ∷ take (length t.others) xs) ≡ word w = rw f.fit r.ones in
        record {
          long = ap suc r.long ∙ sym q;
          zeros = ap (λ (n : ℕ). zeros_only (drop n (x ∷ xs))) p ∙ r.zeros;
          ones = ap (λ (n : ℕ). ones_of size used (take n (x ∷ xs))) p ∙ c;
        }

-- a list that is the list of a word once in order has the word's weight and is judged as the word
pub list_back : (size most : ℕ) (xs : List ℕ) (w : ℕ) → size ≤ 64 → w < 2 ^ size → weight w ≤ most → ordered xs ≡ list_of most w
    → (length xs ≡ most) × (word_of size (weight w) xs ≡ word w)
unfolding weight
list_back size most xs w k h l e =
    let a = as-ordered size w xs (indices w) 0 most l e (indices-back size w k h) in
    let b = a.long in
    (b, rw (le-leb (length (indices w)) (length xs) (omega (arith, b, l)), a.zeros) a.ones)
