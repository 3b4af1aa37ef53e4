-- What the findings of the searches tell of two plates.
use borrow.Author.Tests.{eqb-false, eqb-true}
use lib.Bits.{bit_xor, differ}
use lib.Dec.{eqb}
use mathlib.Core.Bool.{Bool, false, true}
use mathlib.Core.Logic.{inl, inr, ◌⊎◌}
use mathlib.Core.Path.{◌≡◌, ap, refl, subst, sym, ◌∙◌}
use native.Mathlib.Nat.{pow-suc}
use native.Mathlib.Omega.{arith}
use Prim.Native.Nat.{◌<◌, ◌^◌, suc, zero, ℕ}
use Rattle.std.specs.Prelude.{None, Option, Some, is_some, not}
use Rattle.outlines.proofs.PlatesSearched.{word_below}
use Rattle.outlines.proofs.Reversing.{reversed-twice}
use Rattle.words.proofs.Reversing.{reversed-below}
use Rattle.outlines.specs.Comparing.{Alone, Equal, Mirrors, NoneEarlier, Tells}
use Rattle.words.specs.Reversed.{reversed}
use Rattle.outlines.specs.declared.comparing.Told.{Told}
use Rattle.outlines.specs.declared.comparing.Told.TheVariants as T
use Rattle.outlines.specs.Searching.{ComesFirst, EarlierTold, Outside, OutsideAs, Settles, SettlesAs, TellsAll, TellsMirrored, ToldOf, unless_same}
use Rattle.plates.specs.declared.Plate.{Plate}
use Rattle.plates.specs.Prepare.{IsPrepared, IsWord}
use Rattle.sheets.specs.declared.Order.TheVariants.{First, Last}
use Rattle.words.proofs.Ends.{first-trailing}
use Rattle.words.proofs.Span.{lt-tri, zero_one}
use Rattle.words.proofs.Word.{bit-cases, bit-same, bit-xor, xor-zero-eq}
use Rattle.words.specs.Ends.{FirstOne}
use Rattle.words.specs.Span as S
use Rattle.words.specs.Word.{Earlier, bit}

-- ---- the earlier of two words

-- where two words differ first, the one with 0 is the earlier
zero-first : {w v p : ℕ} → S.First (bit_xor w v) p → bit w p ≡ 0 → Earlier w v
zero-first {w} {v} {p} f e = record {
  place = p;
  same = λ i h. bit-same w v i (f.zeros i h);
  zero_here = e;
  one_there = ap (λ (x : ℕ). differ x (bit v p)) (sym e) ∙ sym (bit-xor p w v) ∙ f.one;
}

one-first : {w v p : ℕ} → S.First (bit_xor w v) p → bit w p ≡ 1 → Earlier v w
one-first {w} {v} {p} f e = record { place = p; same = λ i h. sym (bit-same w v i (f.zeros i h)); zero_here = go (bit-cases v p); one_there = e }
  where
    go : (bit v p ≡ 0) ⊎ (bit v p ≡ 1) → bit v p ≡ 0
    go (inl z) = z
    go (inr o) = absurd (zero_one (bit-xor p w v ∙ ap (λ (x : ℕ). differ x (bit v p)) e ∙ ap (differ 1) o) f.one)

positive : {w v : ℕ} → (w ≡ v → ⊥) → 0 < bit_xor w v
positive {w} {v} ne = above (bit_xor w v) (λ e. ne (xor-zero-eq w v e))
  where
    above : (x : ℕ) → (x ≡ 0 → ⊥) → 0 < x
    above x h = omega (arith, h)

below_power : (x : ℕ) → x < 2 ^ x
below_power zero = omega arith
below_power (suc x) = omega (arith, below_power x, pow-suc 2 x)

-- of two words one is the earlier
pub either-earlier : (w v : ℕ) → (w ≡ v → ⊥) → Earlier w v ⊎ Earlier v w
either-earlier w v ne = by _ (first-trailing (bit_xor w v) (bit_xor w v) (positive ne) (below_power (bit_xor w v)))
  where
    by : (p : ℕ) → S.First (bit_xor w v) p → Earlier w v ⊎ Earlier v w
    by p f = go (bit-cases w p)
      where
        go : (bit w p ≡ 0) ⊎ (bit w p ≡ 1) → Earlier w v ⊎ Earlier v w
        go (inl z) = inl (zero-first f z)
        go (inr o) = inr (one-first f o)

earlier-then : {x w v : ℕ} → Earlier x w → Earlier w v → Earlier x v
earlier-then {x} {w} {v} e f = go (lt-tri e.place f.place)
  where
    go : (e.place < f.place) ⊎ ((e.place ≡ f.place) ⊎ (f.place < e.place)) → Earlier x v
    go (inl h) = record {
      place = e.place;
      same = λ i l. e.same i l ∙ f.same i (omega (arith, h, l));
      zero_here = e.zero_here;
      one_there = sym (f.same e.place h) ∙ e.one_there;
    }
    go (inr (inl q)) = absurd (zero_one (ap (bit w) q ∙ f.zero_here) e.one_there)
    go (inr (inr h)) = record {
      place = f.place;
      same = λ i l. e.same i (omega (arith, h, l)) ∙ f.same i l;
      zero_here = e.same f.place h ∙ f.zero_here;
      one_there = f.one_there;
    }

pub comes-first : {w v p b : ℕ} → FirstOne (bit_xor w v) p → b ≡ bit w p → ComesFirst w v (eqb b 0)
comes-first {w} {v} {p} {b} f e = record {
  yes_is = λ h ne. zero-first (f.some (positive ne)) (sym e ∙ eqb-true b 0 h);
  no_is = λ h ne. one-first (f.some (positive ne)) (one (eqb-false b 0 h) (bit-cases w p));
}
  where
    one : (b ≡ 0 → ⊥) → (bit w p ≡ 0) ⊎ (bit w p ≡ 1) → bit w p ≡ 1
    one ne (inl z) = absurd (ne (e ∙ z))
    one ne (inr o) = o

pub first-earlier : {w v : ℕ} {r : Bool} → ComesFirst w v r → r ≡ true → EarlierTold w v (T.First w)
first-earlier c e = record { is = λ ne. inl (refl, c.yes_is e ne) }

pub second-earlier : {w v : ℕ} {r : Bool} → ComesFirst w v r → r ≡ false → EarlierTold w v (T.Second v)
second-earlier c e = record { is = λ ne. inr (refl, c.no_is e ne) }

-- ---- mirrored

-- two plates of one length, the other way round
pub turned-about : {n m : ℕ} → n ≡ m → m ≡ n
turned-about e = sym e

module _ {a b : Plate} (p : IsPrepared a) {found : Option ℕ} (o : Outside Last a b found) where
  pub all-mirrored : found ≡ None → TellsAll a b true
  all-mirrored e = record {
    yes_is = λ t. subst (OutsideAs (IsWord a) (λ w. IsWord b (reversed a.n w))) e o.is;
    is_yes = λ h. refl;
  }

  pub not-mirrored : {w : ℕ} → found ≡ Some w → TellsAll a b false
  not-mirrored {w} e = record {
    yes_is = λ t. absurd (no_true t);
    is_yes = λ h. absurd (f.0.1 (h w f.0.0));
  }
    where
      f : OutsideAs (IsWord a) (λ w. IsWord b (reversed a.n w)) (Some w)
      f = subst (OutsideAs (IsWord a) (λ w. IsWord b (reversed a.n w))) e o.is

      no_true : false ≡ true → ⊥
      no_true t = let z : ◌≡◌ {A = ℕ} 0 1 = cc in omega arith

  pub mirrored-where-none : {r : Bool} → is_some found ≡ not r → TellsAll a b r
  mirrored-where-none {r} = go found r refl
    where
      differ_so : false ≡ true → ⊥
      differ_so t = let z : ◌≡◌ {A = ℕ} 0 1 = cc in omega arith

      go : (f : Option ℕ) (r : Bool) → found ≡ f → is_some f ≡ not r → TellsAll a b r
      go None true k e = all-mirrored k
      go None false k e = absurd (differ_so e)
      go (Some w) true k e = absurd (differ_so (sym e))
      go (Some w) false k e = not-mirrored k

module _ {a b : Plate} (p : IsPrepared a) (q : IsPrepared b) (n : a.n ≡ b.n) where
  -- a word of the second, from the far end twice
  back : (w : ℕ) → IsWord b w → IsWord b (reversed a.n (reversed a.n w))
  back w g = subst (IsWord b) (sym (reversed-twice a.n w (subst (λ (m : ℕ). w < 2 ^ m) (sym n) (word_below b q w g)))) g

  mirror-all : Mirrors a.n (IsWord a) (IsWord b) → (w : ℕ) → IsWord a w → IsWord b (reversed a.n w)
  mirror-all m w g = (m w (word_below a p w g)).0 g

  mirror-back : Mirrors a.n (IsWord a) (IsWord b) → (w : ℕ) → IsWord b w → IsWord a (reversed b.n w)
  mirror-back m w g = subst (λ (k : ℕ). IsWord a (reversed k w)) n ((m (reversed a.n w) (reversed-below a.n w)).1 (back w g))

  both-all : ((w : ℕ) → IsWord a w → IsWord b (reversed a.n w)) → ((w : ℕ) → IsWord b w → IsWord a (reversed b.n w))
      → Mirrors a.n (IsWord a) (IsWord b)
  both-all f g w h = (
    f w,
    λ x. subst (IsWord a) (reversed-twice a.n w h) (subst (λ (k : ℕ). IsWord a (reversed k (reversed a.n w))) (sym n) (g (reversed a.n w) x)),
  )

  pub mirrored-both : {r s : Bool} → TellsAll a b r → r ≡ true → TellsAll b a s → TellsMirrored a b s
  mirrored-both x t y = record { yes_is = λ e. both-all (x.yes_is t) (y.yes_is e); is_yes = λ m. y.is_yes (mirror-back m) }

  pub mirrored-not : {r : Bool} → TellsAll a b r → r ≡ false → TellsMirrored a b r
  mirrored-not x t = record { yes_is = λ e. absurd (both (sym t ∙ e)); is_yes = λ m. x.is_yes (mirror-all m) }
    where
      both : false ≡ true → ⊥
      both e = let z : ◌≡◌ {A = ℕ} 0 1 = cc in omega arith

-- ---- what is told

module _ (n m : ℕ) (P Q : ℕ → Type 0) (e : n ≡ m) (s : Told) where
  -- same, or else a word, where the words are not mirrored
  abbrev Settled : Type 0
  Settled = ((s ≡ T.Same) × Equal P Q) ⊎ ((Equal P Q → ⊥) × (unless_same s ≡ T.Mirrored) × ((Mirrors n P Q → ⊥) → Tells n m P Q s))

  settled-first : (w : ℕ) → s ≡ T.First w → Alone P Q w → NoneEarlier P Q w → Settled
  settled-first w k a none = inr ((λ q. a.1 ((q w).0 a.0)), ap unless_same k, λ h. subst (Tells n m P Q) (sym k) (e, h, a, none))

  settled-second : (w : ℕ) → s ≡ T.Second w → Alone Q P w → NoneEarlier P Q w → Settled
  settled-second w k a none = inr ((λ q. a.1 ((q w).1 a.0)), ap unless_same k, λ h. subst (Tells n m P Q) (sym k) (e, h, a, none))

  -- no word is earlier, by the findings
  none-by : (w : ℕ) → ((v : ℕ) → Alone P Q v → Earlier v w → ⊥) → ((v : ℕ) → Alone Q P v → Earlier v w → ⊥) → NoneEarlier P Q w
  none-by w f g v (inl a) x = f v a x
  none-by w f g v (inr a) x = g v a x

  settled : (one other : Option ℕ) → OutsideAs P Q one → OutsideAs Q P other → SettlesAs one other s → Settled
  settled None None f g k = inl (k, λ w. (f w, g w))
  settled (Some w) None f g k = settled-first w k f.0 (none-by w f.1 (λ v a x. a.1 (g v a.0)))
  settled None (Some w) f g k = settled-second w k g.0 (none-by w (λ v a x. a.1 (f v a.0)) g.1)
  settled (Some w) (Some v) f g k = go (k.is (λ z. f.0.1 (subst Q (sym z) g.0.0)))
    where
      go : ((s ≡ T.First w) × Earlier w v) ⊎ ((s ≡ T.Second v) × Earlier v w) → Settled
      go (inl h) = settled-first w h.0 f.0 (none-by w f.1 (λ x a y. g.1 x a (earlier-then y h.1)))
      go (inr h) = settled-second v h.0 g.0 (none-by v (λ x a y. f.1 x a (earlier-then y h.1)) g.1)

module _ {a b : Plate} (n : a.n ≡ b.n) {one other : Option ℕ} {s : Told} (x : Outside First a b one) (y : Outside First b a other) (z : Settles one other s)
    {r : Bool} (m : TellsMirrored a b r) where
  by : Settled a.n b.n (IsWord a) (IsWord b) n s
  by = settled a.n b.n (IsWord a) (IsWord b) n s one other x.is y.is z.is

  pub told-mirrored : {t : Told} → r ≡ true → t ≡ unless_same s → ToldOf a b t
  told-mirrored {t} e f = record { is = go by }
    where
      go : Settled a.n b.n (IsWord a) (IsWord b) n s → Tells a.n b.n (IsWord a) (IsWord b) t
      go (inl h) = subst (Tells a.n b.n (IsWord a) (IsWord b)) (sym (f ∙ ap unless_same h.0)) (n, h.1)
      go (inr h) = subst (Tells a.n b.n (IsWord a) (IsWord b)) (sym (f ∙ h.1)) (n, h.0, m.yes_is e)

  pub told-settled : r ≡ false → ToldOf a b s
  told-settled e = record { is = go by }
    where
      not : Mirrors a.n (IsWord a) (IsWord b) → ⊥
      not h = let k : false ≡ true = sym e ∙ m.is_yes h in let q : ◌≡◌ {A = ℕ} 0 1 = cc in omega arith

      go : Settled a.n b.n (IsWord a) (IsWord b) n s → Tells a.n b.n (IsWord a) (IsWord b) s
      go (inl h) = subst (Tells a.n b.n (IsWord a) (IsWord b)) (sym h.0) (n, h.1)
      go (inr h) = h.2 not

pub told-lengths : {a b : Plate} → (a.n ≡ b.n → ⊥) → ToldOf a b T.Lengths
told-lengths e = record { is = e }
