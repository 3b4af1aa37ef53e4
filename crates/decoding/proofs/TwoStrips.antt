-- The two strips of a decision word, the upper one first.
use lib.Bits.{bit_or}
use lib.IntN.{ℤ}
use lib.ListN.{set}
use lib.Pow.{pow_mono}
use mathlib.Core.List.{List}
use mathlib.Core.Path.{ap, sym, ◌∙◌, ◌≡◌}
use native.Mathlib.Nat.{add_assoc}
use native.Mathlib.Omega.{arith}
use Prim.Native.Nat.{◌%◌, ◌*◌, ◌+◌, ◌-◌, ◌/◌, ◌<◌, ◌^◌, ℕ, ◌≤◌}
use Rattle.decoding.proofs.Digits.{bit-shift}
use Rattle.decoding.proofs.Packed.{packed-below}
use Rattle.decoding.proofs.Runs.{adds-room, after-ready, compares-room, lower, no-states}
use Rattle.decoding.proofs.Targets.{live-le}
use Rattle.decoding.specs.Blocks.{BlockFits, WordDone}
use Rattle.decoding.specs.declared.Counts.{Counts}
use Rattle.decoding.specs.declared.states.Run.{Run}
use Rattle.decoding.specs.Halves.{BlockReady, StripDone, StripFits}
use Rattle.decoding.specs.Patterns.{Turned}
use Rattle.trellises.specs.declared.Section.{Section}
use Rattle.trellises.specs.Numbers.{bit_of}

-- the strips from `half` on are done
pub record Strips (M : List ℤ) (from to : ℕ) (c : Section) (y : ℤ) (first : ℕ) (k : Counts) (half : ℕ) (M₁ near far : List ℤ) (v : ℕ) (k₁ : Counts) : Type 0 where
  pub within : half ≤ 2
  pub done : StripDone M from to c y (first + half * 32) (64 - half * 32) k M₁ near far (record { word = v; counts = k₁ })

module _ {M : List ℤ} {from to : ℕ} {c : Section} {y : ℤ} {weights : List ℕ} {signs ties : List ℤ} {w first : ℕ} {near₀ far₀ : List ℤ} {k : Counts}
    (h : StripFits M from to c y weights signs ties w first 64 near₀ far₀ k) where
  pub strips-none : Strips M from to c y first k 2 M near₀ far₀ 0 k
  strips-none = record {
    within = omega arith;
    done = record { part = no-states M from to c y (first + 64) k; near_size = h.prepared.near_size; far_size = h.prepared.far_size };
  }

  module _ {half : ℕ} {M₁ near far : List ℤ} {v : ℕ} {k₁ : Counts} (s : Strips M from to c y first k half M₁ near far v k₁) where
    pub strips-all : half ≤ 0 → StripDone M from to c y first 64 k M₁ near far (record { word = v; counts = k₁ })
    strips-all l =
        let z : half ≡ 0 = omega arith in
        let f : first + 0 ≡ first = omega arith in
        rw (z, f) at s.done

    -- the next strip below
    module _ (l : 0 < half) where
      abbrev i : ℕ
      i = half * 32

      within : i ≤ 64
      within = omega (arith, s.within)

      enough : 32 ≤ i
      enough = omega arith

      low : i - 32 ≡ (half - 1) * 32
      low = omega arith

      pub strip-place : first + (half - 1) * 32 < 2 ^ 12
      strip-place = omega (arith, s.within, h.states, live-le c h.ready.section)

      pub strip-shift : (half - 1) * 32 < 64
      strip-shift = omega (arith, s.within)

      asks : StripFits M₁ from to c y weights signs ties (w / 2 ^ (i - 32)) (first + (i - 32)) 32 near far k₁
      asks = record {
        prepared = record {
          wide = h.prepared.wide;
          masks = h.prepared.masks;
          word = h.prepared.word;
          pattern = h.prepared.pattern;
          tables = h.prepared.tables;
          near_size = s.done.near_size;
          far_size = s.done.far_size;
        };
        ready = after-ready M from to c y h.ready first 64 h.states k i 32 enough within M₁ v k₁ s.done.part;
        strip = h.strip + (i - 32) / 32;
        aligned = omega (arith, h.aligned, enough);
        states = omega (arith, h.states, within, enough);
        bits = λ j m. bit-shift w (i - 32) j ∙ h.bits (i - 32 + j) (omega (arith, within)) ∙ ap (bit_of c) (sym (add_assoc first (i - 32) j));
        additions = omega (
          arith,
          h.additions,
          within,
          enough,
          adds-room M from to c y h.ready first 64 h.states k i 32 enough within M₁ v k₁ s.done.part,
        );
        comparisons = omega (
          arith,
          h.comparisons,
          within,
          enough,
          compares-room M from to c y h.ready first 64 h.states k i 32 enough within M₁ v k₁ s.done.part,
        );
      }

      pub strip-asks : StripFits M₁ from to c y weights signs ties (w / 2 ^ ((half - 1) * 32)) (first + (half - 1) * 32) 32 near far k₁
      strip-asks = rw low at asks

      word_room : v * 2 ^ 32 < 2 ^ 64
      word_room = omega (arith, s.done.part.short, pow_mono {i = 64 - i} {j = 32} (omega (arith, enough)))

      pub strips-more : {M₂ near' far' : List ℤ} {r : Run} → StripDone M₁ from to c y (first + (half - 1) * 32) 32 k₁ M₂ near' far' r
          → Strips M from to c y first k (half - 1) M₂ near' far' (bit_or (v * 2 ^ 32 % 2 ^ 64) r.word) r.counts
      strips-more {M₂} {near'} {far'} {r} d = record {
        within = omega (arith, s.within);
        done = record {
          part = rw low at (lower M from to c y h.ready first 64 h.states k i 32 enough within M₁ v k₁ s.done.part M₂ r _ (rw (← low) at d.part)
              (packed-below 32 v r.word word_room d.part.short));
          near_size = d.near_size;
          far_size = d.far_size;
        };
      }

-- ---- the states of a decision word

module _ {M : List ℤ} {from to : ℕ} {c : Section} {y : ℤ} {w at : ℕ} {k : Counts} (h : BlockFits M from to c y w at 64 k) where
  -- a pattern turned to its states is their bits
  pub word-asks : {weights : List ℕ} {signs ties : List ℤ} {v : ℕ} {near far : List ℤ} → BlockReady c y weights signs ties near far
      → Turned c.column (at * 64) v → StripFits M from to c y weights signs ties v (at * 64) 64 near far k
  word-asks p t = record {
    prepared = p;
    ready = h.ready;
    strip = at * 2;
    aligned = omega arith;
    states = h.states;
    bits = t.bits;
    additions = omega (arith, h.additions);
    comparisons = omega (arith, h.comparisons);
  }

  pub word-done : {D D₁ : List ℕ} {M₁ near far : List ℤ} {r : Run} → StripDone M from to c y (at * 64) 64 k M₁ near far r → D₁ ≡ set D at r.word
      → WordDone M from to D c y at k M₁ D₁ near far r.counts
  word-done {r = r} d e = record {
    block = record { word = r.word; part = d.part; stored = e };
    near_size = d.near_size;
    far_size = d.far_size;
  }
