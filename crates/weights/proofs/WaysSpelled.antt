-- The words that spell a way through the sections of a plate are its codewords.
use borrow.Author.Tests.{eq-eqb, eqb-true, ne_eqb}
use lib.Dec.{T, eqb}
use lib.IntN.{pos, ℤ}
use lib.ListN.{length, length-replicate, replicate}
use mathlib.Core.Bool.{◌&&◌, Bool, ◌||◌, cond, false, false≢true, not, true}
use mathlib.Core.List.{List, [], ◌∷◌}
use mathlib.Core.Logic.{inl, inr, ◌↔◌, ◌⊎◌}
use mathlib.Core.Path.{ap, refl, subst, sym, ◌∙◌, ◌≡◌}
use native.Mathlib.Nat.{pow-suc}
use native.Mathlib.Omega.{arith}
use Prim.Native.Nat.{◌%◌, ◌+◌, ◌/◌, ◌<◌, ◌^◌, suc, ℕ}
use Rattle.decoding.proofs.BestWay.{Way}
use Rattle.decoding.proofs.PlateWays.{codeword-way, plate-chain, start-state, way-codeword}
use Rattle.decoding.specs.Backward.{Chain, branch_by, follow}
use Rattle.decoding.specs.Stepping.{SectionFits}
use Rattle.plates.proofs.Live.{and_left, and_right, and-true}
use Rattle.plates.specs.declared.Plate.{Plate}
use Rattle.plates.specs.Prepare.{IsPrepared, rows_of}
use Rattle.trellises.proofs.SectionBranches.{below-high, below-low, leaves-high, leaves-low, leaving-is, other-bit}
use Rattle.trellises.specs.declared.Section.{Section}
use Rattle.trellises.specs.Numbers.{bit_of, branch_count, leads_to, leaves}
use Rattle.trellises.specs.SectionOf.{section_of}
use Rattle.weights.proofs.WaysCounted.{opens, spells}
use Rattle.words.specs.Sum.{IsSum}

module _ (c : Section) (f : SectionFits c) (i : ℕ) (h : i < 2 ^ c.live) where
  -- a bit that opens names a branch: it leaves the state with that bit
  pub record Named (b : ℕ) : Type 0 where
    pub below : branch_by c i b < branch_count c
    pub leaving : leaves c (branch_by c i b) ≡ i
    pub bit_is : bit_of c (branch_by c i b) ≡ b

  own : (b : ℕ) → branch_by c i b ≡ i → bit_of c i ≡ b → Named b
  own b e q = record {
    below = subst (λ (x : ℕ). x < branch_count c) (sym e) (below-low c i h);
    leaving = ap (leaves c) e ∙ leaves-low c i h;
    bit_is = ap (bit_of c) e ∙ q;
  }

  other : (b : ℕ) → c.begins ≡ true → branch_by c i b ≡ i + 2 ^ c.live → bit_of c (i + 2 ^ c.live) ≡ b → Named b
  other b t e q = record {
    below = subst (λ (x : ℕ). x < branch_count c) (sym e) (below-high c i h t);
    leaving = ap (leaves c) e ∙ leaves-high c i h;
    bit_is = ap (bit_of c) e ∙ q;
  }

  pub named : (b : ℕ) → b < 2 → T (opens c i b) → Named b
  named b l t = go c.begins refl (eqb (bit_of c i) b) refl t
    where
      two : bit_of c i < 2
      two = omega arith

      by : {s u : Bool} → c.begins ≡ s → eqb (bit_of c i) b ≡ u → branch_by c i b ≡ cond (s && not u) (i + 2 ^ c.live) i
      by e q = rw (e, q)

      go : (s : Bool) → c.begins ≡ s → (u : Bool) → eqb (bit_of c i) b ≡ u → T (s || u) → Named b
      go true e true q t = own b (by e q) (eqb-true (bit_of c i) b q)
      go true e false q t = other b e (by e q) (other-bit c i h (f.begun e) ∙ omega (arith, two, differs))
        where
          differs : bit_of c i ≡ b → ⊥
          differs z = false≢true (sym q ∙ eq-eqb (bit_of c i) b z)
      go false e true q t = own b (by e q) (eqb-true (bit_of c i) b q)
      go false e false q t = absurd t

  -- and a branch that leaves the state is the one that its bit names
  pub names : (x : ℕ) → x < branch_count c → leaves c x ≡ i → T (opens c i (bit_of c x)) × (branch_by c i (bit_of c x) ≡ x)
  names x l e = go (leaving-is c i h x l e)
    where
      go : (x ≡ i) ⊎ ((c.begins ≡ true) × (x ≡ i + 2 ^ c.live)) → T (opens c i (bit_of c x)) × (branch_by c i (bit_of c x) ≡ x)
      go (inl q) = rw (q, eq-eqb (bit_of c i) (bit_of c i) refl) (one c.begins)
        where
          one : (s : Bool) → T (s || true) × (cond (s && false) (i + 2 ^ c.live) i ≡ i)
          one true = (tt, refl)
          one false = (tt, refl)
      go (inr (t, q)) = rw (q, t, ne_eqb (bit_of c i) (bit_of c (i + 2 ^ c.live)) (λ z. omega (arith, z, other-bit c i h (f.begun t)))) (tt, refl)

module _ (sections : ℕ → Section) (n : ℕ) (chain : Chain sections n) where
  spells-way : (ys : List ℤ) (t i x : ℕ) → t + length ys ≡ n → i < 2 ^ (sections t).live → x < 2 ^ length ys → T (spells sections (length ys) t i x)
      → Way sections ys t i x
  spells-way [] t i x e h l s = omega arith
  spells-way (y ∷ ys) t i x e h l s =
      let k : t < n = omega arith in
      let opening = opens (sections t) i (x % 2) in
      let rest = spells sections (length ys) (suc t) (follow (sections t) i (x % 2)) (x / 2) in
      let m = named (sections t) (chain.fits t k) i h (x % 2) (omega arith) (and_left opening rest s) in (
        branch_by (sections t) i (x % 2),
        m.below,
        m.leaving,
        m.bit_is,
        spells-way ys (suc t) (follow (sections t) i (x % 2)) (x / 2) (omega arith) (chain.leads t k _ m.below)
            (omega (arith, pow-suc 2 (length ys))) (and_right opening rest s),
      )

  way-spells : (ys : List ℤ) (t i x : ℕ) → t + length ys ≡ n → i < 2 ^ (sections t).live → Way sections ys t i x → T (spells sections (length ys) t i x)
  way-spells [] t i x e h a = tt
  way-spells (y ∷ ys) t i x e h a =
      let k : t < n = omega arith in
      let m = subst (λ (b : ℕ). T (opens (sections t) i b) × (branch_by (sections t) i b ≡ a.0)) a.3 (names (sections t) (chain.fits t k) i h a.0 a.1 a.2) in
      and-true (opens (sections t) i (x % 2)) (spells sections (length ys) (suc t) (follow (sections t) i (x % 2)) (x / 2)) m.0
      (subst (λ (z : ℕ). T (spells sections (length ys) (suc t) (leads_to (sections t) z) (x / 2))) (sym m.1)
      (way-spells ys (suc t) (leads_to (sections t) a.0) (x / 2) (omega arith) (chain.leads t k a.0 a.1) a.4))

module _ (plate : Plate) (given : IsPrepared plate) where
  sized : length (replicate plate.n (pos 0)) ≡ plate.n
  sized = length-replicate plate.n (pos 0)

  pub spelled : (x : ℕ) → x < 2 ^ plate.n → T (spells (section_of (rows_of plate)) plate.n 0 0 x) ↔ IsSum (rows_of plate) x
  spelled x l = (
    (λ s. way-codeword plate given (replicate plate.n (pos 0)) sized x
        (spells-way (section_of (rows_of plate)) plate.n (plate-chain plate given) (replicate plate.n (pos 0)) 0 0 x (omega (arith, sized))
        (start-state plate given) (subst (λ (m : ℕ). x < 2 ^ m) (sym sized) l)
        (subst (λ (m : ℕ). T (spells (section_of (rows_of plate)) m 0 0 x)) (sym sized) s))),
    λ g. subst (λ (m : ℕ). T (spells (section_of (rows_of plate)) m 0 0 x)) sized
        (way-spells (section_of (rows_of plate)) plate.n (plate-chain plate given) (replicate plate.n (pos 0)) 0 0 x (omega (arith, sized))
        (start-state plate given) (codeword-way plate given (replicate plate.n (pos 0)) sized x g)),
  )
