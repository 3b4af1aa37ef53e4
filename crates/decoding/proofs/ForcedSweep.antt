-- The sweep with a position forced to a bit: what it asks, and that its best metric is small and the one that is wanted.
use lib.IntN.{◌+ℤ◌, ◌-ℤ◌, nat_abs, neg_ℤ, pos, ℤ}
use lib.ListN.{get_or, length, length-set, set, take}
use mathlib.Core.List.{List}
use mathlib.Core.Path.{ap, refl, ◌∙◌, ◌≡◌}
use mir.Syntax.{w32}
use mir.Val.{SFits, of_z, to_z}
use native.Mathlib.Nat.{mul-le-mul_left}
use native.Mathlib.Omega.{arith}
use Prim.Native.Nat.{◌<◌, ◌^◌, ℕ, ◌≤◌}
use Rattle.decoding.proofs.ForcedMetrics.{within-set}
use Rattle.decoding.proofs.Integers.{abs-add, abs_neg, back, difference-fits, difference_is, sum_fits, sum_is}
use Rattle.decoding.proofs.MetricBounds.{best-within, signed-size}
use Rattle.decoding.proofs.Preference.{sign-copy}
use Rattle.decoding.proofs.SearchEnds.{from_small, metric_is, metric-there, rooms-turned}
use Rattle.decoding.specs.Backward.{best}
use Rattle.decoding.specs.declared.sweep.Sizes.{Sizes}
use Rattle.decoding.specs.declared.sweep.Standing.{Standing}
use Rattle.decoding.specs.Forcing.{BestForced, forcing}
use Rattle.decoding.specs.LiveRows.{EndsAre}
use Rattle.decoding.specs.Stepping.{gain_limit}
use Rattle.decoding.specs.Sweeping.{RoomsFit, SectionSwept, SizesFit}
use Rattle.decoding.specs.Taking.{signed}
use Rattle.decoding.specs.Turning.{turned_by}
use Rattle.trellises.specs.SectionOf.{section_of}

module _ (table : List ℕ) (z : Sizes) (samples metrics : List ℤ) (decisions : List ℕ) (fit : SizesFit table z) (rooms : RoomsFit z samples metrics decisions)
    (p b : ℕ) (there : p < z.n) where
  pub position-there : p < length samples
  position-there = omega (arith, rooms.size)

  pub gain-copy : (y : ℤ) → y ≡ get_or samples p (pos 0) → to_z w32 (of_z w32 y) ≡ get_or samples p (pos 0)
  gain-copy y f = ap (λ (x : ℤ). to_z w32 (of_z w32 x)) f ∙ back (get_or samples p (pos 0)) (omega (arith, rooms.within p position-there))

  pub gain-small : (y : ℤ) → y ≡ get_or samples p (pos 0) → nat_abs (to_z w32 (of_z w32 y)) ≤ gain_limit
  gain-small y f = omega (arith, ap nat_abs (gain-copy y f), rooms.within p position-there)

  own-small : nat_abs (signed b (get_or samples p (pos 0))) ≤ gain_limit
  own-small = omega (arith, signed-size b (get_or samples p (pos 0)), rooms.within p position-there)

  -- the position's own part, from the copies that the machine makes
  pub own-copy : (y s : ℤ) → y ≡ get_or samples p (pos 0) → s ≡ signed b (to_z w32 (of_z w32 y)) → to_z w32 (of_z w32 s) ≡ signed b (get_or samples p (pos 0))
  own-copy y s f e = sign-copy b (get_or samples p (pos 0)) s (rooms.within p position-there) (e ∙ ap (signed b) (gain-copy y f))

  -- the forcing gain as the code has it
  module _ (g : ℤ) (gain-is : g ≡ signed b (pos forcing)) where
    pub rooms-forced : RoomsFit z (turned_by z.rest (set samples p g)) metrics decisions
    rooms-forced = rooms-turned {samples = set samples p g} z.rest (record {
      size = length-set samples p g ∙ rooms.size;
      within = within-set gain_limit samples p g rooms.within (omega (arith, ap nat_abs gain-is, signed-size b (pos forcing)));
      metric_room = rooms.metric_room;
      decision_room = rooms.decision_room;
    })

    module _ (ends : List ℕ) (ends_are : EndsAre (take z.k table) ends) (metrics' : List ℤ) (decisions' : List ℕ) (s : Standing)
        (w : SectionSwept table z (turned_by z.rest (set samples p g)) 0 metrics decisions metrics' decisions' s) where
      best-is : get_or metrics' s.from (pos 0) ≡ best (section_of (take z.k table)) (turned_by z.rest (set samples p g)) 0 0
      best-is = metric_is table z (turned_by z.rest (set samples p g)) metrics decisions fit rooms-forced ends ends_are metrics' decisions' s w

      pub from-there : s.from < length metrics'
      from-there = metric-there table z (turned_by z.rest (set samples p g)) metrics decisions fit rooms-forced ends ends_are metrics' decisions' s w

      pub from-few : s.from ≤ z.half
      from-few = from_small table z (turned_by z.rest (set samples p g)) metrics decisions fit rooms-forced ends ends_are metrics' decisions' s w

      pub best-small : nat_abs (get_or metrics' s.from (pos 0)) ≤ 2 ^ 26
      best-small =
          let few : length (turned_by z.rest (set samples p g)) ≤ 64 = omega (arith, rooms-forced.size, fit.short) in
          omega (arith, ap nat_abs best-is, best-within (section_of (take z.k table)) gain_limit (turned_by z.rest (set samples p g)) rooms-forced.within 0 0, mul-le-mul_left gain_limit few)

      -- the machine's difference and sum; o is the position's own part as the code has it
      metric-copy : to_z w32 (of_z w32 (get_or metrics' s.from (pos 0))) ≡ get_or metrics' s.from (pos 0)
      metric-copy = back (get_or metrics' s.from (pos 0)) (omega (arith, best-small))

      pub less-fits : SFits w32 (to_z w32 (of_z w32 (get_or metrics' s.from (pos 0))) -ℤ pos forcing)
      less-fits = difference-fits (get_or metrics' s.from (pos 0)) (pos forcing) metric-copy refl (omega (arith, best-small)) (omega arith)

      less-is : to_z w32 (of_z w32 (to_z w32 (of_z w32 (get_or metrics' s.from (pos 0))) -ℤ pos forcing)) ≡ get_or metrics' s.from (pos 0) -ℤ pos forcing
      less-is = difference_is (get_or metrics' s.from (pos 0)) (pos forcing) metric-copy refl (omega (arith, best-small)) (omega arith)

      less-small : nat_abs (get_or metrics' s.from (pos 0) -ℤ pos forcing) ≤ 2 ^ 27
      less-small = omega (arith, best-small, abs-add (get_or metrics' s.from (pos 0)) (neg_ℤ (pos forcing)), abs_neg (pos forcing))

      module _ (o : ℤ) (own_is : o ≡ signed b (get_or samples p (pos 0))) where
        pub total-fits : SFits w32 (to_z w32 (of_z w32 (to_z w32 (of_z w32 (get_or metrics' s.from (pos 0))) -ℤ pos forcing)) +ℤ o)
        total-fits = sum_fits (get_or metrics' s.from (pos 0) -ℤ pos forcing) (signed b (get_or samples p (pos 0))) less-is own_is (omega (arith, less-small)) (omega (arith, own-small))

        total-is : to_z w32 (of_z w32 (to_z w32 (of_z w32 (to_z w32 (of_z w32 (get_or metrics' s.from (pos 0))) -ℤ pos forcing)) +ℤ o)) ≡ get_or metrics' s.from (pos 0) -ℤ pos forcing +ℤ signed b (get_or samples p (pos 0))
        total-is = sum_is (get_or metrics' s.from (pos 0) -ℤ pos forcing) (signed b (get_or samples p (pos 0))) less-is own_is (omega (arith, less-small)) (omega (arith, own-small))

        pub best-forced : BestForced table z samples p b metrics decisions metrics' decisions'
            (to_z w32 (of_z w32 (to_z w32 (of_z w32 (to_z w32 (of_z w32 (get_or metrics' s.from (pos 0))) -ℤ pos forcing)) +ℤ o)))
        best-forced = record {
          metric =
              total-is
              ∙ ap (λ (x : ℤ). x -ℤ pos forcing +ℤ signed b (get_or samples p (pos 0)))
              (best-is ∙ ap (λ (x : ℤ). best (section_of (take z.k table)) (turned_by z.rest (set samples p x)) 0 0) gain-is);
          small = omega (arith, ap nat_abs total-is, abs-add (get_or metrics' s.from (pos 0) -ℤ pos forcing) (signed b (get_or samples p (pos 0))), less-small, own-small);
          kept = w.kept;
        }
