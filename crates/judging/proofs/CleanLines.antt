-- Lines none of which is faulty or repeats another: their branches are in range, in order of depth, and apart.
use Rattle.std.proofs.Common.{Option, Some, None}
use borrow.Author.Tests.{eq-eqb, ltb-false, ltb-true}
use lib.Dec.{ltb}
use lib.ListN.{get_or, length}
use mathlib.Core.Bool.{Bool, cond, false, false≢true, true}
use mathlib.Core.List.{List, [], ◌∷◌}
use mathlib.Core.Path.{ap, ap₂, refl, subst, sym, ◌∙◌, ◌≡◌}
use native.Mathlib.Decide.{dec_lt}
use native.Mathlib.Omega.{arith}
use Prim.Native.Nat.{◌%◌, ◌*◌, ◌/◌, ◌<◌, suc, zero, ℕ, ◌≤◌}
use Rattle.sheets.specs.declared.listed.Branch.{Branch}
use Rattle.sheets.specs.Listed.{branch, branch_fields, branch_in, branch_is, branch_of, branch_rest, entries_of, unended}
use Rattle.sheets.specs.Numbers.{number_of}
use Rattle.sheets.specs.Text.{fields}
use Rattle.sheets.specs.Words.{same}
use Rattle.judging.specs.Listing.{branch_at, branches_of, clash, clashes, depth_before, faulty, listed_graph}
use Rattle.judging.specs.Listing as L
use Rattle.judging.specs.Clean.{Clean, Ranged, RangedLine}
use Rattle.judging.specs.Room.{AllInRange, Holds, Stored, decoded, key_of, listed, start_at, theirs}

-- ---- what a line says is in range

module _ (n : ℕ) where
  in-ranged : (b : Branch) → RangedLine n (branch_in n b)
  in-ranged b = go (ltb b.depth n) (ltb b.from 1024) (ltb b.bit 2) (ltb b.to 1024) refl refl refl refl
    where
      go : (p q r s : Bool) → ltb b.depth n ≡ p → ltb b.from 1024 ≡ q → ltb b.bit 2 ≡ r → ltb b.to 1024 ≡ s
          → RangedLine n (cond p (cond q (cond r (cond s (Some b) None) None) None) None)
      go true true true true e f g h = record { depth_small = ltb-true _ _ e; from_small = ltb-true _ _ f; bit_small = ltb-true _ _ g; to_small = ltb-true _ _ h }
      go true true true false e f g h = tt
      go true true false s e f g h = tt
      go true false r s e f g h = tt
      go false q r s e f g h = tt

  is-ranged : (d f b t : Option ℕ) → RangedLine n (branch_is n d f b t)
  is-ranged None f b t = tt
  is-ranged (Some d) None b t = tt
  is-ranged (Some d) (Some f) None t = tt
  is-ranged (Some d) (Some f) (Some b) None = tt
  is-ranged (Some d) (Some f) (Some b) (Some t) = in-ranged (record { depth = d; from = f; bit = b; to = t })

  fields-ranged : (f g h k : List ℕ) → RangedLine n (branch_fields n f g h k)
  unfolding branch_fields
  fields-ranged f g h k = is-ranged (number_of 4 f) (number_of 4 g) (number_of 4 h) (number_of 4 k)

  rest-ranged : (fs : List (List ℕ)) → RangedLine n (branch_rest n fs)
  rest-ranged [] = tt
  rest-ranged (f ∷ []) = tt
  rest-ranged (f ∷ g ∷ []) = tt
  rest-ranged (f ∷ g ∷ h ∷ []) = tt
  rest-ranged (f ∷ g ∷ h ∷ k ∷ []) = fields-ranged f g h k
  rest-ranged (f ∷ g ∷ h ∷ k ∷ i ∷ fs) = tt

  line-ranged : (fs : List (List ℕ)) → RangedLine n (branch_of n fs)
  line-ranged [] = tt
  line-ranged (w ∷ fs) = go (same w branch)
    where
      go : (b : Bool) → RangedLine n (cond b (branch_rest n fs) None)
      go true = rest-ranged fs
      go false = tt

  last-ranged : (l : List ℕ) (i : ℕ) → RangedLine n (get_or (unended l) i None)
  last-ranged [] i = tt
  last-ranged (x ∷ xs) zero = tt
  last-ranged (x ∷ xs) (suc i) = tt

  pub entry-ranged : (ls : List (List ℕ)) (i : ℕ) → RangedLine n (get_or (entries_of n ls) i None)
  entry-ranged [] i = tt
  entry-ranged (l ∷ []) i = last-ranged l i
  entry-ranged (l ∷ m ∷ ls) zero = line-ranged (fields l)
  entry-ranged (l ∷ m ∷ ls) (suc i) = entry-ranged (m ∷ ls) i

-- ---- clean lines

module _ {n : ℕ} {es : List (Option Branch)} (c : Clean n es) where
  pub branch-ranged : (i : ℕ) → i < length es → Ranged n (branch_at es i)
  branch-ranged i l = go (get_or es i None) (c.ranged i) (c.faultless i l)
    where
      go : (e : Option Branch) → RangedLine n e → faulty e (depth_before es i) ≡ false → Ranged n (L.branch_in e)
      go (Some b) r f = r
      go None r f = absurd (false≢true (sym f))

  pub all-in-range : AllInRange es
  all-in-range i l =
      let r = branch-ranged i l in
      record { start = record { depth_small = omega (arith, r.depth_small, c.short); state_small = r.from_small; bit_small = r.bit_small }; to_small = r.to_small }

  next-depth : (i : ℕ) → suc i < length es → (branch_at es i).depth ≤ (branch_at es (suc i)).depth
  next-depth i l = go (get_or es (suc i) None) (c.faultless (suc i) l)
    where
      go : (e : Option Branch) → faulty e (branch_at es i).depth ≡ false → (branch_at es i).depth ≤ (L.branch_in e).depth
      go (Some b) f = ltb-false _ _ f
      go None f = absurd (false≢true (sym f))

  pub depths-rise : (i j : ℕ) → i < j → j < length es → (branch_at es i).depth ≤ (branch_at es j).depth
  depths-rise i zero l m = absurd (omega arith)
  depths-rise i (suc j) l m = go (dec_lt i j) (λ d. depths-rise i j d (omega arith))
    where
      go : Dec (i < j) → (i < j → (branch_at es i).depth ≤ (branch_at es j).depth) → (branch_at es i).depth ≤ (branch_at es (suc j)).depth
      go (yes d) h = omega (arith, h d, next-depth j m)
      go (no d) h = let e : j ≡ i = omega (arith, d, l) in subst (λ (k : ℕ). (branch_at es k).depth ≤ (branch_at es (suc j)).depth) e (next-depth j m)

-- none of the first lines clashes
none-clashes : (es : List (Option Branch)) (j : ℕ) (b : Branch) → clashes es j b ≡ false → (i : ℕ) → i < j → i < length es → clash (branch_at es i) b ≡ false
none-clashes [] j b e i l m = absurd (omega arith)
none-clashes (x ∷ es) zero b e i l m = absurd (omega arith)
none-clashes (x ∷ es) (suc j) b e zero l m = go (clash (L.branch_in x) b) refl e
  where
    go : (t : Bool) → clash (L.branch_in x) b ≡ t → cond t true (clashes es j b) ≡ false → clash (L.branch_in x) b ≡ false
    go true q f = absurd (false≢true (sym f))
    go false q f = q
none-clashes (x ∷ es) (suc j) b e (suc i) l m = none-clashes es j b (go (clash (L.branch_in x) b) e) i (omega arith) (omega arith)
  where
    go : (t : Bool) → cond t true (clashes es j b) ≡ false → clashes es j b ≡ false
    go true f = absurd (false≢true (sym f))
    go false f = f

-- ---- in the room

-- the branches of the lines in turn
pub listed-is : (xs : List (Option Branch)) (F : ℕ → Branch) → ((i : ℕ) → i < length xs → F i ≡ branch_at xs i) → listed (length xs) F ≡ branches_of xs
listed-is [] F h = refl
listed-is (x ∷ xs) F h = ap₂ ◌∷◌ (h 0 (omega arith)) (listed-is xs (λ i. F (suc i)) (λ i l. h (suc i) (omega arith)))

module _ {n : ℕ} {es : List (Option Branch)} (c : Clean n es) (room : List ℕ) (size : length room ≡ 4 * length es) (s : Stored es (length es) room) where
  pub clean-holds : Holds n (length es) room
  clean-holds = record {
    size = size;
    few = c.few;
    short = c.short;
    starts = λ i l. let r = branch-ranged c i l in omega (arith, s.start i l, r.depth_small, r.from_small, r.bit_small);
    leads = λ i l. subst (λ (k : ℕ). k < 1024) (sym (s.lead i l)) (branch-ranged c i l).to_small;
    order = λ i j l m.
        let k : i < length es = omega (arith, l, m) in
        let p = branch-ranged c i k in
        let q = branch-ranged c j m in
        omega (arith, s.start i k, s.start j m, p.from_small, p.bit_small, q.from_small, q.bit_small, depths-rise c i j l m);
    apart = λ i j l m e. clash-free i j l m e;
  }
    where
      clash-free : (i j : ℕ) → i < j → j < length es → start_at room i ≡ start_at room j → ⊥
      clash-free i j l m e =
          let k : i < length es = omega (arith, l, m) in
          let p = branch-ranged c i k in
          let q = branch-ranged c j m in
          let z : key_of (branch_at es i).depth (branch_at es i).from (branch_at es i).bit ≡ key_of (branch_at es j).depth (branch_at es j).from (branch_at es j).bit = sym (s.start i k) ∙ e ∙ s.start j m in
          let d : (branch_at es i).depth ≡ (branch_at es j).depth = omega (arith, z, p.from_small, p.bit_small, q.from_small, q.bit_small) in
          let f : (branch_at es i).from ≡ (branch_at es j).from = omega (arith, z, p.from_small, p.bit_small, q.from_small, q.bit_small) in
          let b : (branch_at es i).bit ≡ (branch_at es j).bit = omega (arith, z, p.from_small, p.bit_small, q.from_small, q.bit_small) in
          false≢true (sym (none-clashes es j (branch_at es j) (c.single j m) i l k)
          ∙ rw (eq-eqb (branch_at es i).depth (branch_at es j).depth d, eq-eqb (branch_at es i).from (branch_at es j).from f, eq-eqb (branch_at es i).bit (branch_at es j).bit b))

  decoded-is : (i : ℕ) → i < length es → decoded room i ≡ branch_at es i
  decoded-is i l =
      let r = branch-ranged c i l in
      let b : Branch = branch_at es i in
      let k : start_at room i ≡ key_of (branch_at es i).depth (branch_at es i).from (branch_at es i).bit = s.start i l in
      let d : start_at room i / 2048 ≡ (branch_at es i).depth = omega (arith, k, r.from_small, r.bit_small) in
      let f : start_at room i / 2 % 1024 ≡ (branch_at es i).from = omega (arith, k, r.from_small, r.bit_small) in
      let o : start_at room i % 2 ≡ (branch_at es i).bit = omega (arith, k, r.from_small, r.bit_small) in
      parts (decoded room i) (branch_at es i) d f o (s.lead i l)
    where
      parts : (x y : Branch) → x.depth ≡ y.depth → x.from ≡ y.from → x.bit ≡ y.bit → x.to ≡ y.to → x ≡ y
      parts x y d f o t =
          ap (λ (z : ℕ). record { depth = z; from = x.from; bit = x.bit; to = x.to }) d
          ∙ ap (λ (z : ℕ). record { depth = y.depth; from = z; bit = x.bit; to = x.to }) f
          ∙ ap (λ (z : ℕ). record { depth = y.depth; from = y.from; bit = z; to = x.to }) o
          ∙ ap (λ (z : ℕ). record { depth = y.depth; from = y.from; bit = y.bit; to = z }) t

  -- the room holds the listing's graph
  pub clean-graph : theirs n (length es) room ≡ listed_graph n (branches_of es)
  clean-graph = ap (listed_graph n) (listed-is es (decoded room) decoded-is)
