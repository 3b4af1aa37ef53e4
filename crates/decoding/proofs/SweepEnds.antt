-- The sweep before its first section, and the rooms it keeps on the way.
use lib.IntN.{pos, ℤ}
use lib.ListN.{drop, drop_of_length-le, length, length-set, set, take}
use lib.Pow.{pow_pos}
use lib.Seq.{get_or-set_other, get_or-set_same}
use mathlib.Core.List.{List, []}
use mathlib.Core.Logic.{inl}
use mathlib.Core.Path.{ap, refl, subst, sym, ◌∙◌, ◌≡◌}
use native.Mathlib.Nat.{le_refl}
use native.Mathlib.Omega.{arith}
use Prim.Native.Nat.{◌-◌, ◌<◌, ◌^◌, suc, ℕ, ◌≤◌}
use Rattle.decoding.specs.Backward.{best, counted}
use Rattle.decoding.specs.declared.sweep.Sizes.{Sizes}
use Rattle.decoding.specs.declared.sweep.Standing.{Standing}
use Rattle.decoding.specs.LiveRows.{EndsAre}
use Rattle.decoding.specs.Stepping.{olds}
use Rattle.decoding.specs.Sweeping.{BeforeSection, Kept, RoomsFit, SectionSwept, SizesFit, Swept}
use Rattle.trellises.specs.SectionOf.{section_of}

pub kept_refl : (z : Sizes) (metrics : List ℤ) (decisions : List ℕ) → Kept z metrics decisions metrics decisions
kept_refl z metrics decisions = record { metrics_size = refl; metrics_rest = λ i h. refl; decisions_size = refl; decisions_rest = λ i h. refl }

pub kept_trans : {z : Sizes} {a b c : List ℤ} {p q r : List ℕ} → Kept z a p b q → Kept z b q c r → Kept z a p c r
kept_trans x y = record {
  metrics_size = y.metrics_size ∙ x.metrics_size;
  metrics_rest = λ i h. y.metrics_rest i h ∙ x.metrics_rest i h;
  decisions_size = y.decisions_size ∙ x.decisions_size;
  decisions_rest = λ i h. y.decisions_rest i h ∙ x.decisions_rest i h;
}

-- rooms that keep their lengths are still long enough
pub rooms-kept : {z : Sizes} {samples metrics metrics' : List ℤ} {decisions decisions' : List ℕ} → Kept z metrics decisions metrics' decisions'
    → RoomsFit z samples metrics decisions → RoomsFit z samples metrics' decisions'
rooms-kept k r = record {
  size = r.size;
  within = r.within;
  metric_room = omega (arith, r.metric_room, k.metrics_size);
  decision_room = omega (arith, r.decision_room, k.decisions_size);
}

module _ (table : List ℕ) (z : Sizes) (samples metrics : List ℤ) (decisions : List ℕ) (fit : SizesFit table z) (rooms : RoomsFit z samples metrics decisions) where
  half-positive : 0 < z.half
  half-positive = omega (arith, fit.half_room z.n (le_refl z.n), pow_pos (section_of (take z.k table) z.n).live)

  pub room-start : 0 < length metrics
  room-start = omega (arith, half-positive, rooms.metric_room)

  no-samples : drop z.n samples ≡ []
  no-samples = drop_of_length-le samples {i = z.n} (omega (arith, rooms.size))

  -- at the far end there is one state, with metric 0
  pub sweep-start : SectionSwept table z samples z.n metrics decisions (set metrics 0 (pos 0)) decisions
      (record { from = 0; live = record { marks = 0; next = z.k }; counts = record { additions = 0; comparisons = 0 } })
  sweep-start = record {
    swept = record {
      side = inl refl;
      live = record { marks_are = sym fit.end_live; next_is = sym fit.all_begun };
      metric = λ i h. only i (omega (arith, h, ap (λ (x : ℕ). 2 ^ x) fit.end_state)) ∙ ap (λ (ys : List ℤ). best (section_of (take z.k table)) ys z.n i) (sym no-samples);
      decision = λ d u h k. absurd (omega arith);
      counts = ap (λ (ys : List ℤ). counted (section_of (take z.k table)) ys z.n) (sym no-samples);
    };
    kept = record {
      metrics_size = length-set metrics 0 (pos 0);
      metrics_rest = λ i h. get_or-set_other metrics 0 i (pos 0) (pos 0) (λ e. omega (arith, e, h, half-positive));
      decisions_size = refl;
      decisions_rest = λ i h. refl;
    };
  }
    where
      only : (i : ℕ) → i ≡ 0 → olds (set metrics 0 (pos 0)) 0 i ≡ pos 0
      only i e = ap (λ (x : ℕ). olds (set metrics 0 (pos 0)) 0 x) e ∙ get_or-set_same metrics 0 (pos 0) (pos 0) room-start

  -- one section on, from what the sweep had
  pub before-section : (ends : List ℕ) → EndsAre (take z.k table) ends → (t : ℕ) → 0 < t → t ≤ z.n → (metrics' : List ℤ) (decisions' : List ℕ) (s : Standing)
      → SectionSwept table z samples t metrics decisions metrics' decisions' s → BeforeSection table z ends samples (t - 1) metrics' decisions' s
  before-section ends e t p h metrics' decisions' s w = record {
    fit = fit;
    ends_are = e;
    rooms = rooms-kept w.kept rooms;
    depth = omega arith;
    swept = let d : t ≡ suc (t - 1) = omega arith in subst (λ (u : ℕ). Swept (take z.k table) z samples u metrics' decisions' s) d w.swept;
  }
