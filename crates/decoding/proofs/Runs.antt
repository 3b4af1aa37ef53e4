-- A run of states from the top one down: what holds at its start, after one more state, and what each state asks.
use lib.Bits.{bit_and, bit_or}
use lib.IntN.{ℤ}
use lib.Pow.{pow_mono}
use mathlib.Core.Bool.{Bool, cond, false, true}
use mathlib.Core.List.{List}
use mathlib.Core.Path.{refl, ◌∙◌, ◌≡◌}
use native.Mathlib.Nat.{le_trans, mul-le-mul_left, mul-le-mul_right}
use native.Mathlib.Omega.{arith}
use Prim.Native.Nat.{◌%◌, ◌*◌, ◌+◌, ◌-◌, ◌/◌, ◌<◌, ◌^◌, ℕ, ◌≤◌}
use Rattle.decoding.proofs.Packed.{digit-masked, packed-below}
use Rattle.decoding.proofs.Parts.{join, part-others, still-ready}
use Rattle.decoding.proofs.Targets.{live-le}
use Rattle.decoding.specs.declared.Counts.{Counts}
use Rattle.decoding.specs.declared.states.Run.{Run}
use Rattle.decoding.specs.Running.{Part, Ready, RunFits, StateFits, adds_of, compares_of}
use Rattle.trellises.specs.declared.Section.{Section}

-- a state adds at most two branches and makes at most one comparison
pub adds-le : (c : Section) → adds_of c ≤ 2
adds-le c = go c.begins
  where
    go : (b : Bool) → cond b 2 1 ≤ 2
    go true = omega arith
    go false = omega arith

pub compares-le : (c : Section) → compares_of c ≤ 1
compares-le c = go c.begins
  where
    go : (b : Bool) → cond b 1 0 ≤ 1
    go true = omega arith
    go false = omega arith

pub times-le : (n m a b : ℕ) → n ≤ m → a ≤ b → n * a ≤ m * b
times-le n m a b h g = le_trans (mul-le-mul_right a h) (mul-le-mul_left m g)

module _ (M : List ℤ) (from to : ℕ) (c : Section) (y : ℤ) where
  -- no state yet
  pub no-states : (lo : ℕ) (k : Counts) → Part M from to c y lo 0 k M (record { word = 0; counts = k })
  no-states lo k = record {
    size = refl;
    metric = λ i h. absurd (omega arith);
    others = λ j o. refl;
    decision = λ i h. absurd (omega arith);
    short = omega arith;
    additions = omega arith;
    comparisons = omega arith;
  }

  -- the states from i on are done, of n from lo on; then the d below them
  module _ (ready : Ready M from to c y) (lo n : ℕ) (top : lo + n ≤ 2 ^ c.live) (k : Counts) (i d : ℕ) (g : d ≤ i) (l : i ≤ n)
      (M₁ : List ℤ) (v : ℕ) (k₁ : Counts) (p : Part M from to c y (lo + i) (n - i) k M₁ (record { word = v; counts = k₁ })) where
    pub after-ready : Ready M₁ from to c y
    after-ready = still-ready M from to c y ready M₁ p.size (part-others M from to c y ready (lo + i) (n - i) (omega arith) k M₁ _ p)

    pub adds-room : k₁.additions ≤ k.additions + 2 * (n - i)
    adds-room = omega (arith, p.additions, times-le (n - i) (n - i) (adds_of c) 2 (omega arith) (adds-le c))

    pub compares-room : k₁.comparisons ≤ k.comparisons + (n - i)
    compares-room = omega (arith, p.comparisons, times-le (n - i) (n - i) (compares_of c) 1 (omega arith) (compares-le c))

    pub lower : (M₂ : List ℤ) (r : Run) (z : ℕ) → Part M₁ from to c y (lo + (i - d)) d k₁ M₂ r → z ≡ v * 2 ^ d + r.word
        → Part M from to c y (lo + (i - d)) (n - (i - d)) k M₂ (record { word = z; counts = r.counts })
    lower M₂ r z q e =
        let a : n - (i - d) ≡ d + (n - i) = omega arith in
        let b : lo + i ≡ lo + (i - d) + d = omega arith in
        rw a (join M from to c y ready (lo + (i - d)) d (n - i) (omega arith) k M₁ M₂ _ r _ (rw b at p) q e refl)

-- ---- the loop over n states from lo on, whose bits are in w

-- the states from i on are done
pub record StatesFrom (M : List ℤ) (from to : ℕ) (c : Section) (y : ℤ) (lo n : ℕ) (k : Counts) (i : ℕ) (M₁ : List ℤ) (v : ℕ) (k₁ : Counts) : Type 0 where
  pub within : i ≤ n
  pub done : Part M from to c y (lo + i) (n - i) k M₁ (record { word = v; counts = k₁ })

module _ {M : List ℤ} {from to : ℕ} {c : Section} {y : ℤ} {w lo n : ℕ} {k : Counts} (h : RunFits M from to c y w lo n k) where
  pub states-none : StatesFrom M from to c y lo n k n M 0 k
  states-none =
      let e : n - n ≡ 0 = omega arith in
      record { within = omega arith; done = rw e (no-states M from to c y (lo + n) k) }

  module _ {i : ℕ} {M₁ : List ℤ} {v : ℕ} {k₁ : Counts} (s : StatesFrom M from to c y lo n k i M₁ v k₁) where
    pub states-all : i ≤ 0 → Part M from to c y lo n k M₁ (record { word = v; counts = k₁ })
    states-all g =
        let z : i ≡ 0 = omega arith in
        let a : lo + 0 ≡ lo = omega arith in
        let b : n - 0 ≡ n = omega arith in
        rw (z, a, b) at s.done

    -- what the next state below asks
    module _ (g : 0 < i) where
      pub next_place : lo + (i - 1) < 2 ^ 12
      next_place = omega (arith, s.within, h.states, live-le c h.ready.section)

      pub next-shift : i - 1 < 64
      next-shift = omega (arith, s.within, h.word)

      pub next_fits : StateFits M₁ from to c y (bit_and (w / 2 ^ (i - 1)) 1) (lo + (i - 1)) k₁
      next_fits = record {
        ready = after-ready M from to c y h.ready lo n h.states k i 1 g s.within M₁ v k₁ s.done;
        state = omega (arith, h.states, s.within);
        parity = digit-masked w (i - 1) ∙ h.pattern (i - 1) (omega (arith, s.within));
        additions = omega (arith, adds-room M from to c y h.ready lo n h.states k i 1 g s.within M₁ v k₁ s.done, h.additions, h.word);
        comparisons = omega (arith, compares-room M from to c y h.ready lo n h.states k i 1 g s.within M₁ v k₁ s.done, h.comparisons, h.word);
      }

      -- the word has room for one more bit
      word_room : v * 2 ^ 1 < 2 ^ 64
      word_room = omega (arith, s.done.short, pow_mono {i = n - i} {j = 63} (omega (arith, h.word)))

      -- that state done
      pub states-more : {M₂ : List ℤ} {r : Run} → Part M₁ from to c y (lo + (i - 1)) 1 k₁ M₂ r
          → StatesFrom M from to c y lo n k (i - 1) M₂ (bit_or (v * 2 % 2 ^ 64) r.word) r.counts
      states-more {M₂} {r} q = record {
        within = omega (arith, s.within);
        done = lower M from to c y h.ready lo n h.states k i 1 g s.within M₁ v k₁ s.done M₂ r _ q
            (packed-below 1 v r.word word_room q.short);
      }
