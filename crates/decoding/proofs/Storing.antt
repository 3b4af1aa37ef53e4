-- The states of a strip, one after the other: their metrics are stored, and their choices gathered in a word.
use lib.IntN.{pos, ℤ}
use lib.ListN.{get_or, length, length-set, set}
use lib.Seq.{get_or-set_other, get_or-set_same}
use mathlib.Core.Bool.{Bool, cond, false, true}
use mathlib.Core.List.{List}
use mathlib.Core.Logic.{inl, inr, ⊎_elim}
use mathlib.Core.Path.{ap, refl, ◌∙◌, ◌≡◌}
use native.Mathlib.Omega.{arith}
use Prim.Native.Nat.{◌%◌, ◌*◌, ◌+◌, ◌<◌, ◌^◌, ℕ}
use Rattle.decoding.proofs.Digits.{bit_high, bit-low, cat-lt}
use Rattle.decoding.proofs.Parts.{below_or}
use Rattle.decoding.specs.declared.blocks.Picked.{Picked}
use Rattle.decoding.specs.declared.Counts.{Counts}
use Rattle.decoding.specs.Picking.{Lone, LoneFits, LoneTaken, Lones, LonesFit, PickFits, PickTaken, Picks, PicksFit, Stored, lone_metric, pick_metric, picks_second}
use Rattle.words.specs.Word.{bit}

-- ---- metrics stored one after the other

module _ (M : List ℤ) (at : ℕ) (f : ℕ → ℤ) where
  pub stored-none : Stored M at f 0 M
  stored-none = record { size = refl; here = λ i l. absurd (omega arith); others = λ j o. refl }

  pub stored_more : (n : ℕ) (M₁ : List ℤ) → Stored M at f n M₁ → at + n < length M → Stored M at f (n + 1) (set M₁ (at + n) (f n))
  stored_more n M₁ s l = record {
    size = length-set M₁ (at + n) (f n) ∙ s.size;
    here = here;
    others = λ j o.
        get_or-set_other M₁ (at + n) j (f n) (pos 0) (λ e. ⊎_elim (λ h. omega arith) (λ h. omega arith) o)
        ∙ s.others j (⊎_elim (λ h. inl h) (λ h. inr (omega arith)) o);
  }
    where
      here : (i : ℕ) → i < n + 1 → get_or (set M₁ (at + n) (f n)) (at + i) (pos 0) ≡ f i
      here i h = ⊎_elim low (λ w. high (omega (arith, w.1.0, w.1.1))) (below_or n 1 i h)
        where
          low : i < n → get_or (set M₁ (at + n) (f n)) (at + i) (pos 0) ≡ f i
          low g = get_or-set_other M₁ (at + n) (at + i) (f n) (pos 0) (λ e. omega arith) ∙ s.here i g

          high : i ≡ n → get_or (set M₁ (at + n) (f n)) (at + i) (pos 0) ≡ f i
          high e = rw e (get_or-set_same M₁ (at + n) (f n) (pos 0) (omega (arith, s.size)))

-- ---- states that one branch leaves

-- a strip's geometry goes by the room alone
same-room : (M M₁ : List ℤ) (at : ℕ) (near signs : List ℤ) (side : ℕ) → Lone M at near signs side → length M₁ ≡ length M → Lone M₁ at near signs side
same-room M M₁ at near signs side h e = record {
  room = omega (arith, h.room);
  near_size = h.near_size;
  signs_size = h.signs_size;
  side_le = h.side_le;
  near_small = h.near_small;
  sign_small = h.sign_small;
}

module _ {M : List ℤ} {at : ℕ} {near signs : List ℤ} {side : ℕ} {k : Counts} (h : LonesFit M at near signs side k) where
  pub lones-none : Lones M at near signs side 0 k M k
  lones-none = record { stored = stored-none M at _; additions = omega arith; comparisons = refl }

  module _ {i : ℕ} (l : i < 32) {M₁ : List ℤ} {k₁ : Counts} (p : Lones M at near signs side i k M₁ k₁) where
    pub lone-fits : LoneFits M₁ at near signs side i k₁
    lone-fits = record {
      strip = same-room M M₁ at near signs side h.strip p.stored.size;
      state = l;
      additions = omega (arith, h.additions, p.additions);
    }

    pub lones-more : {M₂ : List ℤ} {k₂ : Counts} → LoneTaken M₁ at near signs side i k₁ M₂ k₂ → Lones M at near signs side (i + 1) k M₂ k₂
    lones-more t = record {
      stored = rw t.metric (stored_more M at (lone_metric near signs side) i M₁ p.stored (omega (arith, h.strip.room)));
      additions = omega (arith, t.additions, p.additions);
      comparisons = t.comparisons ∙ p.comparisons;
    }

-- ---- states that two branches leave

module _ {M : List ℤ} {at : ℕ} {near far : List ℤ} {weights : List ℕ} {signs ties : List ℤ} {side : ℕ} {k : Counts}
    (h : PicksFit M at near far weights signs ties side k) where
  abbrev takes : ℕ → Bool
  takes = picks_second near far signs ties side

  pub picks-none : Picks M at near far signs ties side 0 k M (record { word = 0; counts = k })
  picks-none = record {
    stored = stored-none M at _;
    second = λ i l. absurd (omega arith);
    short = omega arith;
    additions = omega arith;
    comparisons = omega arith;
  }

  module _ {i : ℕ} (l : i < 32) {M₁ : List ℤ} {r : Picked} (p : Picks M at near far signs ties side i k M₁ r) where
    pub pick-fits : PickFits M₁ at near far weights signs ties side i r
    pick-fits = record {
      strip = record {
        lone = same-room M M₁ at near signs side h.strip.lone p.stored.size;
        far_size = h.strip.far_size;
        far_small = h.strip.far_small;
        ties_size = h.strip.ties_size;
        tie_small = h.strip.tie_small;
        masks = h.strip.masks;
      };
      state = l;
      short = p.short;
      additions = omega (arith, h.additions, p.additions);
      comparisons = omega (arith, h.comparisons, p.comparisons);
    }

    module _ {M₂ : List ℤ} {s : Picked} (t : PickTaken M₁ at near far signs ties side i r M₂ s) where
      -- the new word: the state's digit above the word before
      above : (b : Bool) → r.word + cond b (2 ^ i) 0 ≡ cond b 1 0 * 2 ^ i + r.word
      above true = omega arith
      above false = omega arith

      word_is : s.word ≡ cond (takes i) 1 0 * 2 ^ i + r.word
      word_is = t.word ∙ above (takes i)

      digit_lt : (b : Bool) → cond b 1 0 < 2
      digit_lt true = omega arith
      digit_lt false = omega arith

      second : (j : ℕ) → j < i + 1 → bit s.word j ≡ cond (takes j) 1 0
      second j m = ap (λ (w : ℕ). bit w j) word_is ∙ ⊎_elim low (λ w. high (omega (arith, w.1.0, w.1.1))) (below_or i 1 j m)
        where
          low : j < i → bit (cond (takes i) 1 0 * 2 ^ i + r.word) j ≡ cond (takes j) 1 0
          low q = bit-low i (cond (takes i) 1 0) r.word j q ∙ p.second j q

          high : j ≡ i → bit (cond (takes i) 1 0 * 2 ^ i + r.word) j ≡ cond (takes j) 1 0
          high e =
              let z : i ≡ i + 0 = omega arith in
              let d : cond (takes i) 1 0 % 2 ≡ cond (takes i) 1 0 = omega (arith, digit_lt (takes i)) in
              rw e (ap (bit (cond (takes i) 1 0 * 2 ^ i + r.word)) z ∙ bit_high i (cond (takes i) 1 0) r.word 0 p.short ∙ d)

      pub picks_more : Picks M at near far signs ties side (i + 1) k M₂ s
      picks_more = record {
        stored = rw t.metric (stored_more M at (pick_metric near far signs ties side) i M₁ p.stored (omega (arith, h.strip.lone.room)));
        second = second;
        short = rw word_is (cat-lt i 1 (cond (takes i) 1 0) r.word (digit_lt (takes i)) p.short);
        additions = omega (arith, t.additions, p.additions);
        comparisons = omega (arith, t.comparisons, p.comparisons);
      }
