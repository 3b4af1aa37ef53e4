-- The walk before its first section, between sections, and behind its last.
use lib.IntN.{ℤ}
use lib.ListN.{drop, drop_of_length-le, length, take}
use lib.Pow.{pow_pos}
use mathlib.Core.List.{List, []}
use mathlib.Core.Path.{ap, sym, ◌∙◌, ◌≡◌}
use native.Mathlib.Nat.{mul-zero}
use native.Mathlib.Omega.{arith}
use Prim.Native.Nat.{◌*◌, ◌<◌, ◌^◌, ℕ}
use Rattle.decoding.proofs.BegunRows.{none-begun}
use Rattle.decoding.proofs.LiveMarks.{none-live-first}
use Rattle.decoding.proofs.MarkCounts.{none-counted-first}
use Rattle.decoding.proofs.TakenRows.{gather_none}
use Rattle.decoding.specs.Backward.{word_from}
use Rattle.decoding.specs.declared.sweep.Sizes.{Sizes}
use Rattle.decoding.specs.declared.walk.Walk.{Walk}
use Rattle.decoding.specs.LiveRows.{begun_before}
use Rattle.decoding.specs.Sweeping.{BeforeWalk, WalkFits, Walked}
use Rattle.trellises.specs.SectionOf.{section_of}
use Rattle.words.proofs.Sums.{sum-zero}

module _ (table : List ℕ) (z : Sizes) (ends : List ℕ) (samples : List ℤ) (decisions : List ℕ) (f : WalkFits table z ends samples decisions) where
  pub walk_start : Walked (take z.k table) samples 0 (record { word = 0; sum = 0; state = 0; live = 0; count = 0; next = 0 })
  walk_start = record {
    state = pow_pos (section_of (take z.k table) 0).live;
    short = omega arith;
    rest = omega arith;
    taken = record { by = 0; begun = pow_pos (begun_before (take z.k table) 0); sum_is = sym (sum-zero (take z.k table)); state_is = sym (gather_none (length (take z.k table)) _) };
    live = sym (none-live-first (take z.k table));
    count = sym (none-counted-first (take z.k table));
    next = sym (none-begun (take z.k table));
  }

  pub before-walk : (t : ℕ) → t < z.n → (w : Walk) → Walked (take z.k table) samples t w → BeforeWalk table z ends samples decisions t w
  before-walk t h w a = record {
    fit = f.fit;
    wanted = f.wanted;
    ends_are = f.ends_are;
    depth = h;
    size = f.size;
    room = f.room;
    decision = f.decision t h;
    walked = a;
  }

  pub walk_end : (w : Walk) → Walked (take z.k table) samples z.n w → w.word ≡ word_from (section_of (take z.k table)) samples 0 0
  walk_end w a =
      let none : drop z.n samples ≡ [] = drop_of_length-le samples {i = z.n} (omega (arith, f.size)) in
      let e : 2 ^ z.n * word_from (section_of (take z.k table)) (drop z.n samples) z.n w.state ≡ 0 =
      ap (λ (ys : List ℤ). 2 ^ z.n * word_from (section_of (take z.k table)) ys z.n w.state) none ∙ mul-zero (2 ^ z.n) in
      omega (arith, e, a.rest)
