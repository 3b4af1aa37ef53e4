-- The sweep from the far end to the start, and the walk back: what holds at each depth on the way.
use Rattle.std.specs.Prelude.{ℕ, suc, ◌+◌, ◌*◌, ◌/◌, ◌%◌, ◌^◌, ◌≤◌, ◌<◌, ℤ, pos, nat_abs, length, get_or, set, take, drop, List, ◌⊎◌, ◌≡◌}
use Rattle.words.specs.Word.{bit}
use Rattle.trellises.specs.SectionOf.{section_of}
use Rattle.decoding.specs.declared.sweep.Forced.{Forced}
use Rattle.decoding.specs.declared.sweep.Sizes.{Sizes}
use Rattle.decoding.specs.declared.sweep.Standing.{Standing}
use Rattle.decoding.specs.declared.walk.Walk.{Walk}
use Rattle.decoding.specs.Backward.{Chain, best, counted, decided, word_from}
use Rattle.decoding.specs.LiveRows.{EndsAre, LiveAt, PlateRows, Taken, begun_before, live_marks}
use Rattle.decoding.specs.Stepping.{gain_limit, olds}
use Rattle.decoding.specs.Turning.{turned_by}

-- the sizes of a decode fit its rows: half the metric room has a place for each state, and a section's decision words, where it has any,
-- a bit for each; a section without decision words is one whose decisions are not wanted
pub record SizesFit (table : List ℕ) (z : Sizes) : Type 0 where
  pub plate : PlateRows table z.k
  pub short : z.n ≤ 64
  pub chain : Chain (section_of (take z.k table)) z.n
  pub half_room : (t : ℕ) → t ≤ z.n → 2 ^ (section_of (take z.k table) t).live ≤ z.half
  pub half_small : z.half ≤ 4096
  pub words_room : 0 < z.words → (t : ℕ) → t < z.n → 2 ^ (section_of (take z.k table) t).live ≤ z.words * 64
  pub words_small : z.words ≤ 64
  pub end_state : (section_of (take z.k table) z.n).live ≡ 0
  pub end_live : live_marks (take z.k table) z.n ≡ 0
  pub all_begun : begun_before (take z.k table) z.n ≡ z.k

-- the same sizes where decisions are not wanted
abbrev pub undecided : Sizes → Sizes
undecided z = record { n = z.n; k = z.k; half = z.half; words = 0; rest = z.rest }

-- the samples, but at the forced position its own gain; beyond the samples nothing is forced
abbrev pub forced_to : List ℤ → Forced → List ℤ
forced_to samples f = set samples f.position f.gain

-- the gains with which the sections are taken: those, turned by the rest
abbrev pub gains_of : Sizes → List ℤ → Forced → List ℤ
gains_of z samples f = turned_by z.rest (forced_to samples f)

-- the gains are n, each within what a step takes, and the rooms are long enough
pub record RoomsFit (z : Sizes) (samples metrics : List ℤ) (decisions : List ℕ) : Type 0 where
  pub size : length samples ≡ z.n
  pub within : (i : ℕ) → i < length samples → nat_abs (get_or samples i (pos 0)) ≤ gain_limit
  pub metric_room : z.half + z.half ≤ length metrics
  pub decision_room : z.n * z.words ≤ length decisions

-- what the sweep has when it has come to depth t: the best metrics of its states, the decisions of the sections from t on where they are
-- wanted, the live rows, and what was counted
pub record Swept (rows : List ℕ) (z : Sizes) (samples : List ℤ) (t : ℕ) (metrics : List ℤ) (decisions : List ℕ) (s : Standing) : Type 0 where
  pub side : (s.from ≡ 0) ⊎ (s.from ≡ z.half)
  pub live : LiveAt rows t s.live
  pub metric : (i : ℕ) → i < 2 ^ (section_of rows t).live → olds metrics s.from i ≡ best (section_of rows) (drop t samples) t i
  pub decision : 0 < z.words → (u : ℕ) → t ≤ u → u < z.n → (i : ℕ) → i < 2 ^ (section_of rows u).live
      → bit (get_or decisions (u * z.words + i / 64) 0) (i % 64) ≡ decided (section_of rows) (get_or samples u (pos 0)) (drop (suc u) samples) u i
  pub counts : s.counts ≡ counted (section_of rows) (drop t samples) t

-- both rooms keep their length, and their places behind the needed ones
pub record Kept (z : Sizes) (metrics : List ℤ) (decisions : List ℕ) (metrics' : List ℤ) (decisions' : List ℕ) : Type 0 where
  pub metrics_size : length metrics' ≡ length metrics
  pub metrics_rest : (i : ℕ) → z.half + z.half ≤ i → get_or metrics' i (pos 0) ≡ get_or metrics i (pos 0)
  pub decisions_size : length decisions' ≡ length decisions
  pub decisions_rest : (i : ℕ) → z.n * z.words ≤ i → get_or decisions' i 0 ≡ get_or decisions i 0

-- what the walk has when it has come to depth t: the word's first t positions, the rows taken, the state and the live rows there
pub record Walked (rows : List ℕ) (samples : List ℤ) (t : ℕ) (w : Walk) : Type 0 where
  pub state : w.state < 2 ^ (section_of rows t).live
  pub short : w.word < 2 ^ t
  pub rest : w.word + 2 ^ t * word_from (section_of rows) (drop t samples) t w.state ≡ word_from (section_of rows) samples 0 0
  pub taken : Taken rows t w.sum w.state
  pub live : w.live ≡ live_marks rows t
  pub count : w.count ≡ (section_of rows t).live
  pub next : w.next ≡ begun_before rows t

-- what section t of the walk asks
pub record BeforeWalk (table : List ℕ) (z : Sizes) (ends : List ℕ) (samples : List ℤ) (decisions : List ℕ) (t : ℕ) (w : Walk) : Type 0 where
  pub fit : SizesFit table z
  pub wanted : 0 < z.words
  pub ends_are : EndsAre (take z.k table) ends
  pub depth : t < z.n
  pub size : length samples ≡ z.n
  pub room : z.n * z.words ≤ length decisions
  pub decision : (i : ℕ) → i < 2 ^ (section_of (take z.k table) t).live
      → bit (get_or decisions (t * z.words + i / 64) 0) (i % 64) ≡ decided (section_of (take z.k table)) (get_or samples t (pos 0)) (drop (suc t) samples) t i
  pub walked : Walked (take z.k table) samples t w

-- what the whole walk asks: the decisions of every section
pub record WalkFits (table : List ℕ) (z : Sizes) (ends : List ℕ) (samples : List ℤ) (decisions : List ℕ) : Type 0 where
  pub fit : SizesFit table z
  pub wanted : 0 < z.words
  pub ends_are : EndsAre (take z.k table) ends
  pub size : length samples ≡ z.n
  pub room : z.n * z.words ≤ length decisions
  pub decision : (t : ℕ) → t < z.n → (i : ℕ) → i < 2 ^ (section_of (take z.k table) t).live
      → bit (get_or decisions (t * z.words + i / 64) 0) (i % 64) ≡ decided (section_of (take z.k table)) (get_or samples t (pos 0)) (drop (suc t) samples) t i

-- what section t of the sweep asks: the sweep has come to its far side
pub record BeforeSection (table : List ℕ) (z : Sizes) (ends : List ℕ) (samples : List ℤ) (t : ℕ) (metrics : List ℤ) (decisions : List ℕ)
    (s : Standing) : Type 0 where
  pub fit : SizesFit table z
  pub ends_are : EndsAre (take z.k table) ends
  pub rooms : RoomsFit z samples metrics decisions
  pub depth : t < z.n
  pub swept : Swept (take z.k table) z samples (suc t) metrics decisions s

-- the sweep has come to depth t, and has kept what it does not need
pub record SectionSwept (table : List ℕ) (z : Sizes) (samples : List ℤ) (t : ℕ) (metrics : List ℤ) (decisions : List ℕ)
    (metrics' : List ℤ) (decisions' : List ℕ) (s : Standing) : Type 0 where
  pub swept : Swept (take z.k table) z samples t metrics' decisions' s
  pub kept : Kept z metrics decisions metrics' decisions'
