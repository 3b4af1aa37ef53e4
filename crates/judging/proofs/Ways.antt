-- Ways from a state to the end, section by section: full paths are the ways from the start.
use mathlib.Core.Logic.{◌↔◌}
use mathlib.Core.Path.{refl, subst, sym, ◌≡◌}
use native.Mathlib.Decide.{ℕ_discrete}
use native.Mathlib.Nat.{le_refl, pow-suc}
use native.Mathlib.Omega.{arith}
use Prim.Native.Nat.{◌%◌, ◌+◌, ◌/◌, ◌<◌, ◌^◌, suc, zero, zero-le, ℕ, ◌≤◌}
use Rattle.trellises.specs.Graph.{Graph, Has, Path}
use Rattle.words.specs.Word.{bit}
use Rattle.judging.specs.Ways.{From, Leads, Way}

module _ (g : Graph) (d t b : ℕ) where
  onward : (u u' : ℕ) → Leads g t u b u' → (w : ℕ) → w % 2 ≡ b → From g (suc d) t u w → From g d (suc t) u' (w / 2)
  onward zero u' l w e f = absurd f
  onward (suc v) u' l w e f =
      subst (λ (z : ℕ). From g d (suc t) z (w / 2)) (sym (l.all v f.0 refl (subst (λ (z : ℕ). Has g t v z f.0) e f.1))) f.2

  backward : (u u' : ℕ) → Leads g t u b u' → (w : ℕ) → w % 2 ≡ b → From g d (suc t) u' (w / 2) → From g (suc d) t u w
  backward u zero l w e f = absurd f
  backward u (suc c) l w e f =
      let s = l.some c refl in
      subst (λ (z : ℕ). From g (suc d) t z w) (sym s.1) (c, subst (λ (z : ℕ). Has g t s.0 z c) (sym e) s.2, f)

  -- the ways that begin with a bit are those from where its branch leads
  pub from_step : (u u' : ℕ) → Leads g t u b u' → (w : ℕ) → w % 2 ≡ b → From g (suc d) t u w ↔ From g d (suc t) u' (w / 2)
  from_step u u' l w e = (onward u u' l w e, backward u u' l w e)

-- a way spells a word of as many positions as it has sections
pub way-below : (g : Graph) (d t v w : ℕ) → Way g d t v w → w < 2 ^ d
way-below g zero t v w f = omega (arith, f.1)
way-below g (suc d) t v w f = omega (arith, way-below g d (suc t) f.0 (w / 2) f.2, pow-suc 2 d)

-- ---- full paths

-- the state after i sections
after : (g : Graph) (d t v w : ℕ) → Way g d t v w → ℕ → ℕ
after g zero t v w f i = v
after g (suc d) t v w f zero = v
after g (suc d) t v w f (suc i) = after g d (suc t) f.0 (w / 2) f.2 i

after-zero : (g : Graph) (d t v w : ℕ) (f : Way g d t v w) → after g d t v w f 0 ≡ v
unfolding after
after-zero g zero t v w f = refl
after-zero g (suc d) t v w f = refl

after-end : (g : Graph) (d t v w : ℕ) (f : Way g d t v w) → after g d t v w f d ≡ 0
unfolding after
after-end g zero t v w f = f.0
after-end g (suc d) t v w f = after-end g d (suc t) f.0 (w / 2) f.2

after-has : (g : Graph) (d t v w : ℕ) (f : Way g d t v w) (i : ℕ) → i < d
    → Has g (t + i) (after g d t v w f i) (bit w i) (after g d t v w f (suc i))
unfolding after
after-has g zero t v w f i l = absurd (omega arith)
after-has g (suc d) t v w f zero l =
    let e : t ≡ t + 0 = omega arith in
    subst (λ (z : ℕ). Has g z v (w % 2) (after g d (suc t) f.0 (w / 2) f.2 0)) e
    (subst (λ (z : ℕ). Has g t v (w % 2) z) (sym (after-zero g d (suc t) f.0 (w / 2) f.2)) f.1)
after-has g (suc d) t v w f (suc i) l =
    let e : suc t + i ≡ t + suc i = omega arith in
    subst (λ (z : ℕ). Has g z (after g d (suc t) f.0 (w / 2) f.2 i) (bit (w / 2) i) (after g d (suc t) f.0 (w / 2) f.2 (suc i))) e
    (after-has g d (suc t) f.0 (w / 2) f.2 i (omega arith))

-- a graph with one state at depth 0 and one at depth n, whose branches lead to states between
pub record Ended (g : Graph) (n : ℕ) : Type 0 where
  pub start : g.states 0 ≡ 1
  pub end : g.states n ≡ 1
  pub inside : (t a b c : ℕ) → suc t < n → Has g t a b c → c < g.states (suc t)

-- states that follow one another by branches with the bits of w make a way
chained : (g : Graph) (d t w : ℕ) (s : ℕ → ℕ) → ((i : ℕ) → i < d → Has g (t + i) (s i) (bit w i) (s (suc i))) → s d ≡ 0 → w < 2 ^ d → Way g d t (s 0) w
chained g zero t w s h e l = (e, omega arith)
chained g (suc d) t w s h e l =
    let z : t + 0 ≡ t = omega arith in (
      s 1,
      subst (λ (x : ℕ). Has g x (s 0) (w % 2) (s 1)) z (h 0 (omega arith)),
      chained g d (suc t) (w / 2) (λ i. s (suc i)) (λ i m. shift i (h (suc i) (omega arith))) e (omega (arith, pow-suc 2 d)),
    )
  where
    shift : (i : ℕ) → Has g (t + suc i) (s (suc i)) (bit (w / 2) i) (s (suc (suc i))) → Has g (suc t + i) (s (suc i)) (bit (w / 2) i) (s (suc (suc i)))
    shift i x = let q : t + suc i ≡ suc t + i = omega arith in subst (λ (k : ℕ). Has g k (s (suc i)) (bit (w / 2) i) (s (suc (suc i)))) q x

module _ (g : Graph) (n : ℕ) (e : Ended g n) (w : ℕ) where
  -- a full path is a way from the start
  pub path-way : w < 2 ^ n → Path g n w → Way g n 0 0 w
  path-way l p =
      subst (λ (v : ℕ). Way g n 0 v w) (omega (arith, e.start, p.inside 0 zero-le))
      (chained g n 0 w p.state (λ i m. shift i (p.branch i m)) (omega (arith, e.end, p.inside n (le_refl n))) l)
    where
      shift : (i : ℕ) → Has g i (p.state i) (bit w i) (p.state (suc i)) → Has g (0 + i) (p.state i) (bit w i) (p.state (suc i))
      shift i x = let q : i ≡ 0 + i = omega arith in subst (λ (k : ℕ). Has g k (p.state i) (bit w i) (p.state (suc i))) q x

  -- and a way from the start is a full path
  pub way-path : Way g n 0 0 w → Path g n w
  way-path f = record { state = at; inside = within; branch = λ i m. has i m }
    where
      at : ℕ → ℕ
      at i = after g n 0 0 w f i

      has : (i : ℕ) → i < n → Has g i (after g n 0 0 w f i) (bit w i) (after g n 0 0 w f (suc i))
      has i m = let q : 0 + i ≡ i = omega arith in subst (λ (k : ℕ). Has g k (after g n 0 0 w f i) (bit w i) (after g n 0 0 w f (suc i))) q (after-has g n 0 0 w f i m)

      within : (i : ℕ) → i ≤ n → after g n 0 0 w f i < g.states i
      within zero l = rw (after-zero g n 0 0 w f) (omega (arith, e.start))
      within (suc i) l = side (ℕ_discrete (suc i) n)
        where
          side : Dec (suc i ≡ n) → after g n 0 0 w f (suc i) < g.states (suc i)
          side (yes q) = subst (λ (k : ℕ). after g n 0 0 w f k < g.states k) (sym q) (rw (after-end g n 0 0 w f) (omega (arith, e.end)))
          side (no d) = e.inside i _ _ _ (omega (arith, d, l)) (has i l)
