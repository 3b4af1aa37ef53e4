-- A sweep whose decisions are not wanted: its sizes fit where those with decisions do, and what it leaves is the best metric.
use lib.IntN.{pos, ℤ}
use lib.ListN.{get_or, take}
use mathlib.Core.List.{List, []}
use mathlib.Core.Path.{◌∙◌, ◌≡◌}
use native.Mathlib.Omega.{arith}
use Prim.Native.Nat.{ℕ}
use Rattle.decoding.proofs.SearchEnds.{metric_is, rooms-turned}
use Rattle.decoding.specs.declared.apart.Measure.{Measure}
use Rattle.decoding.specs.declared.sweep.Sizes.{Sizes}
use Rattle.decoding.specs.declared.sweep.Standing.{Standing}
use Rattle.decoding.specs.LiveRows.{EndsAre}
use Rattle.decoding.specs.Searching.{MetricSearched}
use Rattle.decoding.specs.Sweeping.{Kept, RoomsFit, SectionSwept, SizesFit, undecided}
use Rattle.decoding.specs.Turning.{turned_by}

pub undecided-fits : {table : List ℕ} {z : Sizes} → SizesFit table z → SizesFit table (undecided z)
undecided-fits f = record {
  plate = f.plate;
  short = f.short;
  chain = f.chain;
  half_room = f.half_room;
  half_small = f.half_small;
  words_room = λ p. absurd (omega (arith, p));
  words_small = omega arith;
  end_state = f.end_state;
  end_live = f.end_live;
  all_begun = f.all_begun;
}

pub undecided-rooms : {z : Sizes} {samples metrics : List ℤ} {decisions : List ℕ} → RoomsFit z samples metrics decisions → RoomsFit (undecided z) samples metrics decisions
undecided-rooms r = record { size = r.size; within = r.within; metric_room = r.metric_room; decision_room = omega arith }

-- it keeps all decisions
pub undecided-keeps : {z : Sizes} {metrics metrics' : List ℤ} {decisions decisions' : List ℕ} → Kept (undecided z) metrics decisions metrics' decisions'
    → Kept z metrics decisions metrics' decisions'
undecided-keeps k = record {
  metrics_size = k.metrics_size;
  metrics_rest = k.metrics_rest;
  decisions_size = k.decisions_size;
  decisions_rest = λ i h. k.decisions_rest i (omega arith);
}

module _ (table : List ℕ) (z : Sizes) (samples metrics : List ℤ) (fit : SizesFit table z) (rooms : RoomsFit (undecided z) samples metrics [])
    (ends : List ℕ) (ends_are : EndsAre (take z.k table) ends) (metrics' : List ℤ) (decisions' : List ℕ) (s : Standing)
    (w : SectionSwept table (undecided z) (turned_by z.rest samples) 0 metrics [] metrics' decisions' s) where
  pub metric-searched : (m : Measure) → m.metric ≡ get_or metrics' s.from (pos 0) → m.counts ≡ s.counts → MetricSearched table z samples metrics metrics' m
  metric-searched m e k = record {
    metric = e ∙ metric_is table (undecided z) (turned_by z.rest samples) metrics [] (undecided-fits fit) (rooms-turned z.rest rooms) ends ends_are metrics' decisions' s w;
    counts = k ∙ w.swept.counts;
    size = w.kept.metrics_size;
    rest = w.kept.metrics_rest;
  }
