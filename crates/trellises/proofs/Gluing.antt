-- Two paths that meet at a depth are cut there and joined: the joined path spells the spliced word.
use mathlib.Core.Path.{ap, refl, sym, ◌∙◌, ◌≡◌}
use native.Mathlib.Decide.{dec_lt}
use native.Mathlib.Omega.{arith}
use Prim.Native.Nat.{◌%◌, ◌/◌, ◌<◌, ◌^◌, suc, zero, ℕ, ◌≤◌}
use Rattle.trellises.specs.Beginnings.{splice}
use Rattle.trellises.specs.Graph.{Graph, Has, Path}
use Rattle.words.proofs.Word.{below-bits, bits_below, half}
use Rattle.words.specs.Word.{bit}

-- what f gives below t, and g from t on
glue : ℕ → (ℕ → ℕ) → (ℕ → ℕ) → ℕ → ℕ
glue zero f g i = g i
glue (suc t) f g zero = f zero
glue (suc t) f g (suc i) = glue t (λ j. f (suc j)) (λ j. g (suc j)) i

-- below t, and at t where the two meet there
glue-low : (t : ℕ) (f g : ℕ → ℕ) (i : ℕ) → i ≤ t → f t ≡ g t → glue t f g i ≡ f i
unfolding glue
glue-low zero f g zero h e = sym e
glue-low zero f g (suc i) h e = absurd (omega arith)
glue-low (suc t) f g zero h e = refl
glue-low (suc t) f g (suc i) h e = glue-low t (λ j. f (suc j)) (λ j. g (suc j)) i (omega arith) e

glue-high : (t : ℕ) (f g : ℕ → ℕ) (i : ℕ) → t ≤ i → glue t f g i ≡ g i
unfolding glue
glue-high zero f g i h = refl
glue-high (suc t) f g zero h = absurd (omega arith)
glue-high (suc t) f g (suc i) h = glue-high t (λ j. f (suc j)) (λ j. g (suc j)) i (omega arith)

pub splice-low : (t a b i : ℕ) → i < t → bit (splice t a b) i ≡ bit a i
unfolding splice
splice-low zero a b i h = absurd (omega arith)
splice-low (suc t) a b zero h = omega arith
splice-low (suc t) a b (suc i) h =
    ap (λ (x : ℕ). bit x i) (half (splice t (a / 2) (b / 2)) (a % 2) (omega arith)) ∙ splice-low t (a / 2) (b / 2) i (omega arith)

pub splice-high : (t a b i : ℕ) → t ≤ i → bit (splice t a b) i ≡ bit b i
unfolding splice
splice-high zero a b i h = refl
splice-high (suc t) a b zero h = absurd (omega arith)
splice-high (suc t) a b (suc i) h =
    ap (λ (x : ℕ). bit x i) (half (splice t (a / 2) (b / 2)) (a % 2) (omega arith)) ∙ splice-high t (a / 2) (b / 2) i (omega arith)

pub splice-below : (n t a b : ℕ) → t ≤ n → b < 2 ^ n → splice t a b < 2 ^ n
splice-below n t a b h l = below-bits n (splice t a b) (λ i g. splice-high t a b i (omega arith) ∙ bits_below n b l i g)

-- the joined path spells the spliced word
pub spliced : (g : Graph) (n t a b : ℕ) (p : Path g n a) (q : Path g n b) → p.state t ≡ q.state t → Path g n (splice t a b)
spliced g n t a b p q e = record {
  state = glue t p.state q.state;
  inside = λ i h. in-range i h (dec_lt i t);
  branch = λ i h. step i h (dec_lt i t);
}
  where
    in-range : (i : ℕ) → i ≤ n → Dec (i < t) → glue t p.state q.state i < g.states i
    in-range i h (yes l) = rw (glue-low t p.state q.state i (omega arith) e) (p.inside i h)
    in-range i h (no l) = rw (glue-high t p.state q.state i (omega arith)) (q.inside i h)

    step : (i : ℕ) → i < n → Dec (i < t) → Has g i (glue t p.state q.state i) (bit (splice t a b) i) (glue t p.state q.state (suc i))
    step i h (yes l) =
        let m = p.branch i h in
        record {
          place = m.place;
          there = m.there;
          leaves = m.leaves ∙ sym (glue-low t p.state q.state i (omega arith) e);
          spells = m.spells ∙ sym (splice-low t a b i l);
          leads = m.leads ∙ sym (glue-low t p.state q.state (suc i) l e);
        }
    step i h (no l) =
        let m = q.branch i h in
        record {
          place = m.place;
          there = m.there;
          leaves = m.leaves ∙ sym (glue-high t p.state q.state i (omega arith));
          spells = m.spells ∙ sym (splice-high t a b i (omega arith));
          leads = m.leads ∙ sym (glue-high t p.state q.state (suc i) (omega arith));
        }
