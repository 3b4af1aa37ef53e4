-- The earliest word in which the ways from a state of theirs and from one of ours differ.
use mathlib.Core.Bool.{Bool, true, false}
use mathlib.Core.Logic.Iff
use mathlib.Core.Logic.{inl, inr, ◌↔◌, ◌⊎◌}
use mathlib.Core.Path.{ap, refl, subst, sym, ◌∙◌, ◌≡◌}
use native.Mathlib.Nat.{pow-suc}
use native.Mathlib.Omega.{arith}
use Prim.Native.Nat.{◌%◌, ◌*◌, ◌+◌, ◌/◌, ◌<◌, suc, zero, ℕ}
use Rattle.trellises.specs.Graph.{Graph}
use Rattle.words.proofs.Word.{bit-zero}
use Rattle.words.specs.Word.{Earlier, bit}
use Rattle.judging.proofs.Ways.{from_step}
use Rattle.judging.specs.Ways.{Differs, From, Leads, Same, Side}

-- a word earlier than one that begins with a bit begins with the same bit and goes on earlier, or has 0 where that has 1
earlier-front : (w r b : ℕ) → b < 2 → Earlier w (r * 2 + b) → ((w % 2 ≡ b) × Earlier (w / 2) r) ⊎ ((w % 2 ≡ 0) × (b ≡ 1))
earlier-front w r b l e = go e.place e.same e.zero_here e.one_there
  where
    rest : (r * 2 + b) / 2 ≡ r
    rest = omega arith

    first : (r * 2 + b) % 2 ≡ b
    first = omega arith

    go : (p : ℕ) → ((i : ℕ) → i < p → bit w i ≡ bit (r * 2 + b) i) → bit w p ≡ 0 → bit (r * 2 + b) p ≡ 1
        → ((w % 2 ≡ b) × Earlier (w / 2) r) ⊎ ((w % 2 ≡ 0) × (b ≡ 1))
    go zero s z o = inr (z, sym first ∙ o)
    go (suc p) s z o =
        inl (
          s 0 (omega arith) ∙ first,
          record {
            place = p;
            same = λ i m. s (suc i) (omega arith) ∙ ap (λ (x : ℕ). bit x i) rest;
            zero_here = z;
            one_there = ap (λ (x : ℕ). bit x p) (sym rest) ∙ o;
          },
        )

side_same : (s : Bool) (P Q P' Q' : Type 0) → P ↔ P' → Q ↔ Q' → Side s P Q → Side s P' Q'
side_same true P Q P' Q' p q x = (p.0 x.0, λ z. x.1 (q.1 z))
side_same false P Q P' Q' p q x = (q.0 x.0, λ z. x.1 (p.1 z))

module _ (A B : Graph) where
  -- one bit in front: 0, or 1 where the ways with 0 are the same
  pub differs-on : (d t u y u0 y0 b v z r : ℕ) (s : Bool) → b < 2 → Leads A t u 0 u0 → Leads B t y 0 y0 → (b ≡ 1 → Same A B d (suc t) u0 y0)
      → Leads A t u b v → Leads B t y b z → Differs A B d (suc t) v z r s → Differs A B (suc d) t u y (r * 2 + b) s
  differs-on d t u y u0 y0 b v z r s l a0 b0 same a o f = record {
    below = omega (arith, f.below, l, pow-suc 2 d);
    earlier = λ w e. go w (earlier-front w r b l e);
    side = side_same s _ _ _ _ (turn A u v a) (turn B y z o) f.side;
  }
    where
      first : (r * 2 + b) % 2 ≡ b
      first = omega arith

      rest : (r * 2 + b) / 2 ≡ r
      rest = omega arith

      turn : (g : Graph) (u v : ℕ) → Leads g t u b v → From g d (suc t) v r ↔ From g (suc d) t u (r * 2 + b)
      turn g u v a = subst (λ (k : ℕ). From g d (suc t) v k ↔ From g (suc d) t u (r * 2 + b)) rest (Iff.symm (from_step g d t b u v a (r * 2 + b) first))

      go : (w : ℕ) → ((w % 2 ≡ b) × Earlier (w / 2) r) ⊎ ((w % 2 ≡ 0) × (b ≡ 1)) → From A (suc d) t u w ↔ From B (suc d) t y w
      go w (inl x) = Iff.trans (from_step A d t b u v a w x.0) (Iff.trans (f.earlier (w / 2) x.1) (Iff.symm (from_step B d t b y z o w x.0)))
      go w (inr x) = Iff.trans (from_step A d t 0 u u0 a0 w x.0) (Iff.trans (same x.1 (w / 2)) (Iff.symm (from_step B d t 0 y y0 b0 w x.0)))

  -- at the end theirs is the end state and ours none, or ours and theirs not
  pub differs-theirs : (n y : ℕ) → y ≡ 0 → Differs A B 0 n 1 y 0 true
  differs-theirs n y e = record {
    below = omega arith;
    earlier = λ w x. absurd (none w x);
    side = ((refl, refl), λ z. subst (λ (k : ℕ). From B 0 n k 0) e z);
  }
    where
      none : (w : ℕ) → Earlier w 0 → ⊥
      none w x = omega (arith, bit-zero x.place, x.one_there)

  pub differs-ours : (n u : ℕ) → (u ≡ 1 → ⊥) → Differs A B 0 n u 1 0 false
  differs-ours n u d = record {
    below = omega arith;
    earlier = λ w x. absurd (none w x);
    side = ((refl, refl), λ z. not u d z);
  }
    where
      none : (w : ℕ) → Earlier w 0 → ⊥
      none w x = omega (arith, bit-zero x.place, x.one_there)

      not : (u : ℕ) → (u ≡ 1 → ⊥) → From A 0 n u 0 → ⊥
      not zero d z = z
      not (suc v) d z = d (omega (arith, z.0))
