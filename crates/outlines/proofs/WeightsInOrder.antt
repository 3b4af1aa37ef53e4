-- Theorem: the lines of a plate's weights are in order of weight, one for each weight with a count above 0 and no other, and `least` is the last.
use borrow.Author.Tests.{ne_eqb}
use lib.Dec.{eqb}
use lib.ListN.{get_or, length}
use mathlib.Core.Bool.{Bool, cond, false, true}
use mathlib.Core.List.{◌++◌, List, [], ◌∷◌}
use mathlib.Core.Logic.{◌↔◌}
use mathlib.Core.Path.{◌≡◌, ap, ap₂, refl, sym, ◌∙◌}
use native.Mathlib.Decide.{ℕ_discrete}
use native.Mathlib.Omega.{arith}
use Prim.Native.Nat.{◌+◌, ◌<◌, suc, zero, ℕ, ◌≤◌}
use Rattle.listings.specs.Lines.{weight_line}
use Rattle.outlines.specs.WeightLines.{WeightText, last_line, weight_lines, weight_part}
use Rattle.outlines.specs.WeightOrder.{Among, LinesByWeight, lines_of}
use Rattle.plates.specs.declared.Plate.{Plate}

-- the weights with a count above 0, of which the first count is that of w
abbrev kept : ℕ → List ℕ → List ℕ
kept w [] = []
kept w (c ∷ counts) = cond (eqb c 0) (kept (suc w) counts) (w ∷ kept (suc w) counts)

-- they are from w on, and rise
kept_from : (w : ℕ) (counts : List ℕ) (i : ℕ) → i < length (kept w counts) → w ≤ get_or (kept w counts) i 0
kept_from w [] i h = absurd (omega arith)
kept_from w (c ∷ counts) i h = by (kept_from (suc w) counts) (eqb c 0) i h
  where
    by : ((i : ℕ) → i < length (kept (suc w) counts) → suc w ≤ get_or (kept (suc w) counts) i 0) → (none : Bool) (i : ℕ)
        → i < length (cond none (kept (suc w) counts) (w ∷ kept (suc w) counts))
        → w ≤ get_or (cond none (kept (suc w) counts) (w ∷ kept (suc w) counts)) i 0
    by rest true i l = omega (arith, rest i l)
    by rest false zero l = omega arith
    by rest false (suc i) l = omega (arith, rest i (omega (arith, l)))

abbrev Rise : List ℕ → Type 0
Rise weights = (i j : ℕ) → i < j → j < length weights → get_or weights i 0 < get_or weights j 0

kept-rise : (w : ℕ) (counts : List ℕ) → Rise (kept w counts)
kept-rise w [] i j l h = absurd (omega arith)
kept-rise w (c ∷ counts) i j l h = by (kept-rise (suc w) counts) (eqb c 0) i j l h
  where
    by : Rise (kept (suc w) counts) → (none : Bool) → Rise (cond none (kept (suc w) counts) (w ∷ kept (suc w) counts))
    by rest true i j l h = rest i j l h
    by rest false zero zero l h = absurd (omega arith)
    by rest false zero (suc j) l h = omega (arith, kept_from (suc w) counts j (omega (arith, h)))
    by rest false (suc i) zero l h = absurd (omega arith)
    by rest false (suc i) (suc j) l h = rest i j (omega (arith, l)) (omega (arith, h))

-- F tells the counts of the weights from w on
abbrev Tells : (ℕ → ℕ) → ℕ → List ℕ → Type 0
Tells F w counts = (i : ℕ) → i < length counts → F (w + i) ≡ get_or counts i 0

tells_first : (F : ℕ → ℕ) (w c : ℕ) (counts : List ℕ) → Tells F w (c ∷ counts) → F w ≡ c
tells_first F w c counts h = let e : w + 0 ≡ w = omega arith in ap F (sym e) ∙ h 0 (omega arith)

tells-rest : (F : ℕ → ℕ) (w c : ℕ) (counts : List ℕ) → Tells F w (c ∷ counts) → Tells F (suc w) counts
tells-rest F w c counts h i l = let e : suc w + i ≡ w + suc i = omega arith in ap F e ∙ h (suc i) (omega (arith, l))

-- the lines are theirs
kept-lines : (F : ℕ → ℕ) (w : ℕ) (counts : List ℕ) → Tells F w counts → weight_lines w counts ≡ lines_of F (kept w counts)
unfolding weight_part
kept-lines F w [] h = refl
kept-lines F w (c ∷ counts) h = by (kept-lines F (suc w) counts (tells-rest F w c counts h)) (eqb c 0)
  where
    by : weight_lines (suc w) counts ≡ lines_of F (kept (suc w) counts) → (none : Bool)
        → cond none [] (weight_line w c) ++ weight_lines (suc w) counts ≡ lines_of F (cond none (kept (suc w) counts) (w ∷ kept (suc w) counts))
    by rest true = rest
    by rest false = ap₂ (λ (n : ℕ) (more : List ℕ). weight_line w n ++ more) (sym (tells_first F w c counts h)) rest

-- and they are all that have one
abbrev Kept : (ℕ → ℕ) → ℕ → ℕ → ℕ → Type 0
Kept F w size x = (w ≤ x) × (x < w + size) × (0 < F x)

module _ (F : ℕ → ℕ) (w c : ℕ) (counts : List ℕ) (first : F w ≡ c) (x : ℕ) (rest : Among x (kept (suc w) counts) ↔ Kept F (suc w) (length counts) x) where
  from-rest : Among x (kept (suc w) counts) → Kept F w (suc (length counts)) x
  from-rest a = let b = rest.0 a in (omega (arith, b.0), omega (arith, b.1), b.2)

  to-rest : (w ≡ x → ⊥) → Kept F w (suc (length counts)) x → Among x (kept (suc w) counts)
  to-rest n b = rest.1 (omega (arith, b.0, n), omega (arith, b.1), b.2)

  -- the first has no line
  first-none : c ≡ 0 → Among x (kept (suc w) counts) ↔ Kept F w (suc (length counts)) x
  first-none e = (from-rest, λ b. to-rest (λ f. omega (arith, b.2, ap F f, first, e)) b)

  -- the first has one
  first_some : (c ≡ 0 → ⊥) → Among x (w ∷ kept (suc w) counts) ↔ Kept F w (suc (length counts)) x
  first_some n = (there, λ b. back b (ℕ_discrete w x))
    where
      there : Among x (w ∷ kept (suc w) counts) → Kept F w (suc (length counts)) x
      there (zero, l, e) = (omega (arith, e), omega (arith, e), omega (arith, ap F e, first, n))
      there (suc i, l, e) = from-rest (i, omega (arith, l), e)

      back : Kept F w (suc (length counts)) x → Dec (w ≡ x) → Among x (w ∷ kept (suc w) counts)
      back b (yes e) = (0, omega arith, e)
      back b (no f) = let a = to-rest f b in (suc a.0, omega (arith, a.1), a.2)

  kept_step : Dec (c ≡ 0) → Among x (kept w (c ∷ counts)) ↔ Kept F w (suc (length counts)) x
  kept_step (yes e) = let g : eqb c 0 ≡ true = rw e in rw g (first-none e)
  kept_step (no n) = rw (ne_eqb c 0 n) (first_some n)

kept-exactly : (F : ℕ → ℕ) (w : ℕ) (counts : List ℕ) → Tells F w counts → (x : ℕ) → Among x (kept w counts) ↔ Kept F w (length counts) x
kept-exactly F w [] h x = ((λ a. absurd (omega (arith, a.1))), λ b. absurd (omega (arith, b.0, b.1)))
kept-exactly F w (c ∷ counts) h x =
    kept_step F w c counts (tells_first F w c counts h) x (kept-exactly F (suc w) counts (tells-rest F w c counts h) x) (ℕ_discrete c 0)

pub lines-by-weight : (plate : Plate) (text : List ℕ) → WeightText plate text → LinesByWeight plate text
lines-by-weight plate text t = record {
  count = count;
  numbers = t.numbers;
  weights = kept 0 t.counts;
  rising = kept-rise 0 t.counts;
  exactly = λ w. let b = kept-exactly count 0 t.counts tells w in (
    (λ a. let c = b.0 a in (omega (arith, c.1, t.size), c.2)),
    λ a. b.1 (omega arith, omega (arith, a.0, t.size), a.1),
  );
  none = t.none;
  least = t.least;
  least_is = t.least_is;
  is = t.is ∙ ap (λ (lines : List ℕ). lines ++ last_line t.none t.least) (kept-lines count 0 t.counts tells);
}
  where
    count : ℕ → ℕ
    count w = get_or t.counts w 0

    tells : Tells count 0 t.counts
    tells i l = let e : 0 + i ≡ i = omega arith in rw e
