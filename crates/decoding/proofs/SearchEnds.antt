-- The sweep at the start gives what the walk asks, and the best metric.
use lib.Bits.{bit_xor}
use lib.IntN.{pos, ℤ}
use lib.ListN.{get_or, length, take}
use lib.Pow.{pow_pos}
use mathlib.Core.List.{List}
use mathlib.Core.Logic.{inl, inr, ◌⊎◌}
use lib.Seq.{set_out}
use mathlib.Core.Path.{ap, subst, sym, ◌∙◌, ◌≡◌}
use native.Mathlib.Omega.{arith}
use Prim.Native.Nat.{◌+◌, ◌<◌, zero-le, ℕ, ◌≤◌}
use Rattle.decoding.proofs.TurnedSamples.{turned-length, turned-within}
use Rattle.decoding.specs.Backward.{best, word_from}
use Rattle.decoding.specs.declared.Answer.{Answer}
use Rattle.decoding.specs.declared.sweep.Forced.{Forced}
use Rattle.decoding.specs.declared.sweep.Sizes.{Sizes}
use Rattle.decoding.specs.LiveRows.{EndsAre}
use Rattle.decoding.specs.Stepping.{gain_limit}
use Rattle.decoding.specs.Searching.{Searched}
use Rattle.decoding.specs.Sweeping.{RoomsFit, SectionSwept, SizesFit, WalkFits, gains_of}
use Rattle.decoding.specs.declared.sweep.Standing.{Standing}
use Rattle.decoding.specs.Turning.{turned_by}
use Rattle.trellises.specs.SectionOf.{section_of}

-- where nothing is forced the gains are the samples, turned by the rest
abbrev unforced : Sizes → Forced
unforced z = record { position = z.n; gain = pos 0 }

none-forced : (z : Sizes) (samples : List ℤ) → length samples ≡ z.n → gains_of z samples (unforced z) ≡ turned_by z.rest samples
none-forced z samples size = ap (turned_by z.rest) (set_out samples z.n (pos 0) (omega (arith, size)))

-- turned samples fit where the samples do
pub rooms-turned : {z : Sizes} {samples metrics : List ℤ} {decisions : List ℕ} (m : ℕ) → RoomsFit z samples metrics decisions → RoomsFit z (turned_by m samples) metrics decisions
rooms-turned {z} {samples} m r = record {
  size = turned-length m samples ∙ r.size;
  within = turned-within gain_limit m samples r.within;
  metric_room = r.metric_room;
  decision_room = r.decision_room;
}

pub rooms-unforced : {z : Sizes} {samples metrics : List ℤ} {decisions : List ℕ} → RoomsFit z samples metrics decisions → RoomsFit z (gains_of z samples (unforced z)) metrics decisions
rooms-unforced {z} {samples} {metrics} {decisions} r =
    subst (λ (ys : List ℤ). RoomsFit z ys metrics decisions) (sym (none-forced z samples r.size)) (rooms-turned z.rest r)

pub swept-unforced : {table : List ℕ} {z : Sizes} {samples metrics metrics' : List ℤ} {decisions decisions' : List ℕ} {s : Standing} → RoomsFit z samples metrics decisions
    → SectionSwept table z (gains_of z samples (unforced z)) 0 metrics decisions metrics' decisions' s → SectionSwept table z (turned_by z.rest samples) 0 metrics decisions metrics' decisions' s
swept-unforced {table} {z} {samples} {metrics} {metrics'} {decisions} {decisions'} {s} r w =
    subst (λ (ys : List ℤ). SectionSwept table z ys 0 metrics decisions metrics' decisions' s) (none-forced z samples r.size) w

module _ (table : List ℕ) (z : Sizes) (samples metrics : List ℤ) (decisions : List ℕ) (fit : SizesFit table z) (rooms : RoomsFit z samples metrics decisions)
    (ends : List ℕ) (ends_are : EndsAre (take z.k table) ends) (metrics' : List ℤ) (decisions' : List ℕ) (s : Standing)
    (w : SectionSwept table z samples 0 metrics decisions metrics' decisions' s) where
  pub walk-fits : 0 < z.words → WalkFits table z ends samples decisions'
  walk-fits wanted = record {
    fit = fit;
    wanted = wanted;
    ends_are = ends_are;
    size = rooms.size;
    room = omega (arith, rooms.decision_room, w.kept.decisions_size);
    decision = λ t h i k. w.swept.decision wanted t zero-le h i k;
  }

  first-side : (s.from ≡ 0) ⊎ (s.from ≡ z.half) → s.from ≤ z.half
  first-side (inl e) = omega (arith, e)
  first-side (inr e) = omega (arith, e)

  pub from_small : s.from ≤ z.half
  from_small = first-side w.swept.side

  pub metric-there : s.from < length metrics'
  metric-there =
      omega (arith, first-side w.swept.side, rooms.metric_room, w.kept.metrics_size, fit.half_room 0 zero-le, pow_pos (section_of (take z.k table) 0).live)

  pub metric_is : get_or metrics' s.from (pos 0) ≡ best (section_of (take z.k table)) samples 0 0
  metric_is =
      let o : s.from ≡ s.from + 0 = omega arith in
      ap (λ (i : ℕ). get_or metrics' i (pos 0)) o ∙ w.swept.metric 0 (pow_pos (section_of (take z.k table) 0).live)

-- the same of a sweep whose samples are turned by the rest
module _ (table : List ℕ) (z : Sizes) (samples metrics : List ℤ) (decisions : List ℕ) (fit : SizesFit table z) (rooms : RoomsFit z samples metrics decisions)
    (ends : List ℕ) (ends_are : EndsAre (take z.k table) ends) (metrics' : List ℤ) (decisions' : List ℕ) (s : Standing)
    (w : SectionSwept table z (turned_by z.rest samples) 0 metrics decisions metrics' decisions' s) where
  pub searched : (a : Answer) → a.word ≡ bit_xor (word_from (section_of (take z.k table)) (turned_by z.rest samples) 0 0) z.rest
      → a.metric ≡ get_or metrics' s.from (pos 0) → a.counts ≡ s.counts → Searched table z samples metrics decisions metrics' decisions' a
  searched a e m k = record {
    word = e;
    metric = m ∙ metric_is table z (turned_by z.rest samples) metrics decisions fit (rooms-turned z.rest rooms) ends ends_are metrics' decisions' s w;
    counts = k ∙ w.swept.counts;
    kept = w.kept;
  }
