-- The numbers of ways by weight add up to a power of 2: as many doublings as there are rows that begin.
use lib.Dec.{ltb, ltb→lt, lt→ltb}
use lib.ListN.{length}
use mathlib.Core.Bool.{Bool, cond, false, false≢true, true}
use mathlib.Core.List.{List}
use mathlib.Core.Path.{ap, ap₂, refl, sym, ◌∙◌, ◌≡◌}
use native.Mathlib.Nat.{pow-suc}
use native.Mathlib.Omega.{arith}
use Prim.Native.Nat.{◌+◌, ◌<◌, ◌^◌, suc, zero, ℕ, ◌≤◌}
use Rattle.plates.proofs.ProfileSteps.{before-suc, here-none, here-one}
use Rattle.plates.specs.Counts.{before, here}
use Rattle.trellises.proofs.OneBegins.{section-begins}
use Rattle.trellises.specs.declared.Section.{Section}
use Rattle.trellises.specs.Numbers.{bit_of, leads_to}
use Rattle.trellises.specs.SectionOf.{section_of}
use Rattle.weights.proofs.CountPairs.{count-all}
use Rattle.weights.specs.Number.{total}
use Rattle.weights.specs.Ways.{along, shifted, ways}
use Rattle.words.proofs.Choice.{count_none}
use Rattle.words.proofs.Span.{rising-apart}
use Rattle.words.specs.Choice.{more}
use Rattle.words.specs.Ends.{firsts, lasts}
use Rattle.words.specs.Span.{Spans}

-- in how many of d sections from depth t on a row begins
abbrev pub later : (ℕ → Section) → ℕ → ℕ → ℕ
later sections zero t = 0
later sections (suc d) t = more (sections t).begins (later sections d (suc t))

-- ---- sums

total-add : (m : ℕ) (F G : ℕ → ℕ) → total m (λ w. F w + G w) ≡ total m F + total m G
total-add zero F G = refl
total-add (suc m) F G = omega (arith, total-add m (λ w. F (suc w)) (λ w. G (suc w)))

total-shifted : (m b : ℕ) (F : ℕ → ℕ) {s : ℕ} → total m F ≡ s → total (suc m) F ≡ s → total (suc m) (shifted b F) ≡ s
total-shifted m zero F p q = q
total-shifted m (suc b) F {s} p q = omega (arith, p)

total-none : (m : ℕ) → total m (λ w. 0) ≡ 0
total-none zero = refl
total-none (suc m) = omega (arith, total-none m)

pub total-same : (m : ℕ) (F G : ℕ → ℕ) → ((w : ℕ) → w < m → F w ≡ G w) → total m F ≡ total m G
total-same zero F G h = refl
total-same (suc m) F G h = ap₂ ◌+◌ (h 0 (omega arith)) (total-same m (λ w. F (suc w)) (λ w. G (suc w)) (λ w l. h (suc w) (omega arith)))

module _ (sections : ℕ → Section) where
  -- one section more
  total-step : (d t i m : ℕ) → suc d < m → ((j m : ℕ) → d < m → total m (ways sections d (suc t) j) ≡ 2 ^ later sections d (suc t))
      → total m (ways sections (suc d) t i) ≡ 2 ^ later sections (suc d) t
  total-step d t i zero h ih = absurd (omega arith)
  total-step d t i (suc m) h ih = go (sections t).begins (one i) (one (i + 2 ^ (sections t).live))
    where
      one : (x : ℕ) → total (suc m) (along (sections t) (ways sections d (suc t)) x) ≡ 2 ^ later sections d (suc t)
      one x = total-shifted m (bit_of (sections t) x) (ways sections d (suc t) (leads_to (sections t) x)) (ih _ m (omega arith)) (ih _ (suc m) (omega arith))

      go : (b : Bool) → total (suc m) (along (sections t) (ways sections d (suc t)) i) ≡ 2 ^ later sections d (suc t)
          → total (suc m) (along (sections t) (ways sections d (suc t)) (i + 2 ^ (sections t).live)) ≡ 2 ^ later sections d (suc t)
          → total (suc m)
          (λ w. cond b (along (sections t) (ways sections d (suc t)) i w + along (sections t) (ways sections d (suc t)) (i + 2 ^ (sections t).live) w)
          (along (sections t) (ways sections d (suc t)) i w))
          ≡ 2 ^ more b (later sections d (suc t))
      go true p q =
          total-add (suc m) (along (sections t) (ways sections d (suc t)) i) (along (sections t) (ways sections d (suc t)) (i + 2 ^ (sections t).live))
          ∙ omega (arith, p, q, pow-suc 2 (later sections d (suc t)))
      go false p q = p

  -- all ways, by weights below m, where m is above the number of sections
  pub ways-total : (d t i m : ℕ) → d < m → total m (ways sections d t i) ≡ 2 ^ later sections d t
  ways-total zero t i m h = only m h
    where
      only : (m : ℕ) → 0 < m → total m (ways sections 0 t i) ≡ 1
      only zero h = absurd (omega arith)
      only (suc m) h = ap (λ (x : ℕ). 1 + x) (total-none m)
  ways-total (suc d) t i m h = total-step d t i m h (λ j m h. ways-total d (suc t) j m h)

-- one number is at most the sum
pub total-most : (m : ℕ) (F : ℕ → ℕ) (w : ℕ) → w < m → F w ≤ total m F
total-most zero F w h = absurd (omega arith)
total-most (suc m) F zero h = omega arith
total-most (suc m) F (suc w) h = omega (arith, total-most m (λ w. F (suc w)) w (omega arith))

module _ (rows : List ℕ) (s : Spans rows (firsts rows) (lasts rows)) where
  -- a section says whether a row has its head there
  begins-here : (t : ℕ) (n : ℕ) → more (section_of rows t).begins n ≡ here (length rows) (firsts rows) t + n
  begins-here t n = go (section_of rows t).begins refl
    where
      go : (b : Bool) → (section_of rows t).begins ≡ b → more b n ≡ here (length rows) (firsts rows) t + n
      go true e =
          let b = (section-begins rows s t).0 e in
          omega (arith, here-one (length rows) (firsts rows) t b.row (rising-apart (length rows) (firsts rows) s.rising) b.there b.here)
      go false e =
          let none = λ (j : ℕ) (l : j < length rows) (q : firsts rows j ≡ t).
          false≢true (sym e ∙ (section-begins rows s t).1 (record { row = j; there = l; here = q })) in
          omega (arith, here-none (length rows) (firsts rows) t none)

  pub later-before : (d t : ℕ) → before (length rows) (firsts rows) t + later (section_of rows) d t ≡ before (length rows) (firsts rows) (t + d)
  later-before zero t = let z : t ≡ t + 0 = omega arith in omega (arith, ap (before (length rows) (firsts rows)) z)
  later-before (suc d) t =
      let z : suc t + d ≡ t + suc d = omega arith in
      omega (
        arith,
        begins-here t (later (section_of rows) d (suc t)),
        before-suc (length rows) (firsts rows) t,
        later-before d (suc t),
        ap (before (length rows) (firsts rows)) z,
      )

  module _ (n : ℕ) (fit : (j : ℕ) → j < length rows → firsts rows j < n) where
    before-all : before (length rows) (firsts rows) n ≡ length rows
    before-all = count-all (length rows) (λ j. ltb (firsts rows j) n) (λ j l. lt→ltb (firsts rows j) n (fit j l))

    -- from depth t on no more rows begin than there are, and from the start all
    pub later-most : (d t : ℕ) → t + d ≡ n → later (section_of rows) d t ≤ length rows
    later-most d t e = omega (arith, later-before d t, ap (before (length rows) (firsts rows)) e, before-all)

    pub later-all : later (section_of rows) n 0 ≡ length rows
    later-all =
        let z : 0 + n ≡ n = omega arith in
        omega (
          arith,
          later-before n 0,
          ap (before (length rows) (firsts rows)) z,
          before-all,
          count_none (length rows) (λ j. ltb (firsts rows j) 0) (λ j l q. omega (arith, ltb→lt (firsts rows j) 0 q)),
        )
