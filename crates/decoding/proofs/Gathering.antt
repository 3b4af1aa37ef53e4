-- A strip gathered four metrics at a time, from any places.
use lib.IntN.{pos, ℤ}
use lib.ListN.{get_or, length, length-set, set}
use lib.Pow.{pow_mono}
use lib.Seq.{get_or-set_other, get_or-set_same}
use mathlib.Core.List.{List}
use mathlib.Core.Logic.{⊎_elim}
use mathlib.Core.Path.{ap, refl, sym, ◌∙◌, ◌≡◌}
use native.Mathlib.Nat.{lt_of_lt_of_le}
use native.Mathlib.Omega.{arith}
use Prim.Native.Nat.{◌%◌, ◌*◌, ◌+◌, ◌/◌, ◌<◌, suc, zero, zero-le, ℕ, ◌≤◌}
use Rattle.decoding.proofs.Parts.{below_or}
use Rattle.decoding.proofs.Without.{four-stay, without-cat, without-past}
use Rattle.decoding.specs.Strips.{FourFit, GatherFits, Gathered, RunsFit, doubled, four, landing, paired, straight}
use Rattle.trellises.specs.Numbers.{without}

module _ (M : List ℤ) (f : ℕ → ℕ) where
  -- the first i are gathered, a multiple of four
  pub record Fours (i : ℕ) (into : List ℤ) : Type 0 where
    pub aligned : i % 4 ≡ 0
    pub within : i ≤ 32
    pub gathered : Gathered M f i into

  module _ (into₀ : List ℤ) (h : GatherFits M f into₀) where
    pub fours-none : Fours 0 into₀
    fours-none = record { aligned = refl; within = zero-le; gathered = record { size = h.size; here = λ i l. absurd (omega arith) } }

    module _ (i : ℕ) (into : List ℤ) (g : Fours i into) (l : i < 32) where
      room : i + 4 ≤ 32
      room = omega (arith, g.aligned)

      module _ (p q r s : ℕ) (ep : p ≡ f i) (eq : q ≡ f (i + 1)) (er : r ≡ f (i + 2)) (es : s ≡ f (i + 3)) where
        pub four-fit : FourFit M p q r s into i
        four-fit = record {
          first = rw ep (h.there i l);
          second = rw eq (h.there (i + 1) (omega (arith, room)));
          third = rw er (h.there (i + 2) (omega (arith, room)));
          fourth = rw es (h.there (i + 3) (omega (arith, room)));
          size = g.gathered.size;
          room = room;
        }

        abbrev s1 : List ℤ
        s1 = set into i (get_or M p (pos 0))

        abbrev s2 : List ℤ
        s2 = set s1 (i + 1) (get_or M q (pos 0))

        abbrev s3 : List ℤ
        s3 = set s2 (i + 2) (get_or M r (pos 0))

        len : length into ≡ 32
        len = g.gathered.size

        stored : (j : ℕ) → j < i + 4 → get_or (four M p q r s into i) j (pos 0) ≡ get_or M (f j) (pos 0)
        stored j m = ⊎_elim low (λ w. high w.0 w.1.0 w.1.1) (below_or i 4 j m)
          where
            low : j < i → get_or (four M p q r s into i) j (pos 0) ≡ get_or M (f j) (pos 0)
            low v =
                get_or-set_other s3 (i + 3) j _ (pos 0) (λ z. omega arith) ∙ get_or-set_other s2 (i + 2) j _ (pos 0) (λ z. omega arith)
                ∙ get_or-set_other s1 (i + 1) j _ (pos 0) (λ z. omega arith) ∙ get_or-set_other into i j _ (pos 0) (λ z. omega arith) ∙ g.gathered.here j v

            high : (k : ℕ) → k < 4 → j ≡ i + k → get_or (four M p q r s into i) j (pos 0) ≡ get_or M (f j) (pos 0)
            high zero v z =
                let z' : j ≡ i = omega arith in
                rw (z', ← ep) (get_or-set_other s3 (i + 3) i _ (pos 0) (λ w. omega arith) ∙ get_or-set_other s2 (i + 2) i _ (pos 0) (λ w. omega arith)
                ∙ get_or-set_other s1 (i + 1) i _ (pos 0) (λ w. omega arith) ∙ get_or-set_same into i _ (pos 0) (omega (arith, len, room)))
            high (suc zero) v z =
                rw (z, ← eq) (get_or-set_other s3 (i + 3) (i + 1) _ (pos 0) (λ w. omega arith) ∙ get_or-set_other s2 (i + 2) (i + 1) _ (pos 0) (λ w. omega arith)
                ∙ get_or-set_same s1 (i + 1) _ (pos 0) (simp length-set (omega (arith, len, room))))
            high (suc (suc zero)) v z =
                rw (z, ← er) (get_or-set_other s3 (i + 3) (i + 2) _ (pos 0) (λ w. omega arith)
                ∙ get_or-set_same s2 (i + 2) _ (pos 0) (simp length-set (omega (arith, len, room))))
            high (suc (suc (suc zero))) v z =
                rw (z, ← es) (get_or-set_same s3 (i + 3) _ (pos 0) (simp length-set (omega (arith, len, room))))
            high (suc (suc (suc (suc k)))) v z = absurd (omega arith)

        pub fours-more : (into' : List ℤ) → into' ≡ four M p q r s into i → Fours (i + 4) into'
        fours-more into' e = rw e (record {
          aligned = omega (arith, g.aligned);
          within = room;
          gathered = record { size = simp length-set len; here = stored };
        })

    pub fours-all : (i : ℕ) (into : List ℤ) → Fours i into → 32 ≤ i → Gathered M f 32 into
    fours-all i into g l = let e : i ≡ 32 = omega (arith, g.within) in rw e at g.gathered

-- ---- the places, by the digit that is taken out

-- four after each other, where a digit from 2 on is taken out
pub run-place : (from e x i t : ℕ) → RunsFit from e x → i % 4 ≡ 0 → t ≡ without e (x + i) → (k : ℕ) → k < 4 → from + t + k ≡ landing from e x (i + k)
run-place from e x i t h a et k l =
    let p : x + (i + k) ≡ x + i + k = omega arith in
    let q : without e (x + (i + k)) ≡ without e (x + i) + k = ap (without e) p ∙ four-stay e (x + i) k h.least (omega (arith, h.aligned)) l in
    omega arith

module _ (M : List ℤ) (f g : ℕ → ℕ) (same : (i : ℕ) → i < 32 → g i ≡ f i) where
  pub fits-there : (into : List ℤ) → GatherFits M f into → GatherFits M g into
  fits-there into h = record { size = h.size; there = λ i l. rw (same i l) (h.there i l) }

  pub gathered-there : (into : List ℤ) → Gathered M g 32 into → Gathered M f 32 into
  gathered-there into h = record { size = h.size; here = λ i l. h.here i l ∙ ap (λ (j : ℕ). get_or M j (pos 0)) (same i l) }

-- x is a multiple of 32, and leads to `from + t`
module _ (from e x s t : ℕ) (a : x ≡ s * 32) (et : t ≡ without e x) (i : ℕ) (l : i < 32) where
  apart : landing from e x i ≡ from + t + without e i
  apart =
      let p : without e (x + i) ≡ without e x + without e i =
      ap (λ (n : ℕ). without e (n + i)) a ∙ without-cat e 5 s i l ∙ ap (λ (n : ℕ). without e n + without e i) (sym a) in
      omega arith

  pub doubled-place : e ≡ 0 → doubled (from + t) i ≡ landing from e x i
  doubled-place z = let p : without e i ≡ i / 2 = ap (λ (n : ℕ). without n i) z ∙ omega arith in omega (arith, apart)

  pub paired-place : e ≡ 1 → paired (from + t) i ≡ landing from e x i
  paired-place z =
      let h : i / 2 / 2 ≡ i / 4 = omega arith in
      let p : without e i ≡ i / 4 * 2 + i % 2 = ap (λ (n : ℕ). without n i) z ∙ ap (λ (n : ℕ). n * 2 + i % 2) h in
      omega (arith, apart)

  pub straight-place : 5 ≤ e → straight (from + t) i ≡ landing from e x i
  straight-place h = omega (arith, apart, without-past e i (lt_of_lt_of_le l (pow_mono h)))
