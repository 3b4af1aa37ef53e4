-- One state of a strip: the machine's copies of what it reads, that no sum overflows, and what it stores.
use lib.Bits.{bit_or}
use lib.Dec.{eqb}
use lib.IntN.{nat_abs, neg_ℤ, pos, ℤ}
use lib.ListN.{get_or, set}
use mathlib.Core.Bool.{Bool, cond, false, true}
use mathlib.Core.List.{List}
use mathlib.Core.Path.{ap, refl, ◌∙◌, ◌≡◌}
use native.Mathlib.Omega.{arith}
use Prim.Native.Nat.{◌+◌, ◌<◌, ◌^◌, ℕ, ◌≤◌}
use Rattle.decoding.proofs.Integers.{abs-add, abs_neg, back, kept}
use Rattle.decoding.proofs.Packed.{packed_above}
use Rattle.decoding.specs.Choosing.{AloneFits, AloneTaken, ChoiceFits, Chosen}
use Rattle.decoding.specs.declared.blocks.Picked.{Picked}
use Rattle.decoding.specs.declared.choices.Choice.{Choice}
use Rattle.decoding.specs.declared.Counts.{Counts}
use Rattle.decoding.specs.Picking.{Lone, LoneFits, LoneTaken, PickFits, PickTaken, lone_metric, pick_metric, picks_second}

copy : (z : ℤ) (n : ℕ) → n ≤ 2 ^ 30 → nat_abs z ≤ n → kept z ≡ z
copy z n k h = back z (omega arith)

module _ {M : List ℤ} {at : ℕ} {near signs : List ℤ} {side i : ℕ} (h : Lone M at near signs side) (l : i < 32) where
  -- the machine's copies of the old metric and of the sign
  near_small : nat_abs (get_or near i (pos 0)) ≤ 2 ^ 27
  near_small = h.near_small i l

  sign_small : nat_abs (get_or signs (side + i) (pos 0)) ≤ 2 ^ 20
  sign_small = h.sign_small (side + i) (omega (arith, h.side_le))

  near-copy : kept ((get_or near i (pos 0))) ≡ get_or near i (pos 0)
  near-copy = copy _ (2 ^ 27) (omega arith) near_small

  sign-copied : kept ((get_or signs (side + i) (pos 0))) ≡ get_or signs (side + i) (pos 0)
  sign-copied = copy _ (2 ^ 20) (omega arith) sign_small

  sum-small : nat_abs (lone_metric near signs side i) ≤ 2 ^ 30
  sum-small = omega (arith, abs-add (get_or signs (side + i) (pos 0)) (get_or near i (pos 0)), near_small, sign_small)

-- a state that one branch leaves
module _ {M : List ℤ} {at : ℕ} {near signs : List ℤ} {side i : ℕ} {k : Counts} (h : LoneFits M at near signs side i k) where
  is-near : kept (get_or near i (pos 0)) ≡ get_or near i (pos 0)
  is-near = near-copy h.strip h.state

  is-sign : kept (get_or signs (side + i) (pos 0)) ≡ get_or signs (side + i) (pos 0)
  is-sign = sign-copied h.strip h.state

  pub lone-asks : AloneFits (kept (get_or near i (pos 0))) (kept (get_or signs (side + i) (pos 0))) k
  lone-asks =
      rw (is-near, is-sign) (record { near = near_small h.strip h.state; sign = sign_small h.strip h.state; additions = h.additions })

  pub lone-done : {t : Choice} → AloneTaken (kept (get_or near i (pos 0))) (kept (get_or signs (side + i) (pos 0))) k t
      → LoneTaken M at near signs side i k (set M (at + i) (kept t.metric)) t.counts
  lone-done {t} g =
      let e : t.metric ≡ lone_metric near signs side i = rw (is-near, is-sign) at g.metric in
      record {
        metric = ap (λ (z : ℤ). set M (at + i) z) (ap kept e ∙ back _ (sum-small h.strip h.state));
        additions = g.additions;
        comparisons = g.comparisons;
      }

size-cond : (t : Bool) (x y : ℤ) → nat_abs x ≤ 2 ^ 30 → nat_abs y ≤ 2 ^ 30 → nat_abs (cond t x y) ≤ 2 ^ 30
size-cond true x y hx hy = hx
size-cond false x y hx hy = hy

-- a state that two branches leave
module _ {M : List ℤ} {at : ℕ} {near far : List ℤ} {weights : List ℕ} {signs ties : List ℤ} {side i : ℕ} {p : Picked}
    (h : PickFits M at near far weights signs ties side i p) where
  abbrev a : ℤ
  a = kept (get_or near i (pos 0))

  abbrev b : ℤ
  b = kept (get_or far i (pos 0))

  abbrev q : ℤ
  q = kept (get_or signs (side + i) (pos 0))

  abbrev u : ℤ
  u = kept (get_or ties (side + i) (pos 0))

  far_small : nat_abs (get_or far i (pos 0)) ≤ 2 ^ 27
  far_small = h.strip.far_small i h.state

  tie_small : nat_abs (get_or ties (side + i) (pos 0)) ≤ 1
  tie_small = h.strip.tie_small (side + i) (omega (arith, h.strip.lone.side_le, h.state))

  is-a : a ≡ get_or near i (pos 0)
  is-a = near-copy h.strip.lone h.state

  is_b : b ≡ get_or far i (pos 0)
  is_b = copy _ (2 ^ 27) (omega arith) far_small

  is-q : q ≡ get_or signs (side + i) (pos 0)
  is-q = sign-copied h.strip.lone h.state

  is-u : u ≡ get_or ties (side + i) (pos 0)
  is-u = copy _ 1 (omega arith) tie_small

  pub pick-asks : ChoiceFits a b q u p.counts
  pick-asks = rw (is-a, is_b, is-q, is-u) (record {
    near = near_small h.strip.lone h.state;
    far = far_small;
    sign = sign_small h.strip.lone h.state;
    tie = tie_small;
    additions = h.additions;
    comparisons = h.comparisons;
  })

  module _ {t : Choice} (g : Chosen a b q u p.counts t) {v : ℕ} (ev : v ≡ cond (eqb t.second 0) 0 (get_or weights i 0)) where
    abbrev takes : Bool
    takes = picks_second near far signs ties side i

    metric_is : t.metric ≡ pick_metric near far signs ties side i
    metric_is = rw (is-a, is_b, is-q, is-u) at g.metric

    second_is : t.second ≡ cond takes 1 0
    second_is = rw (is-a, is_b, is-q, is-u) at g.second

    by-second : (m : ℕ) (s : Bool) → cond (eqb (cond s 1 0) 0) 0 m ≡ cond s m 0
    by-second m true = refl
    by-second m false = refl

    weight_is : v ≡ cond takes (2 ^ i) 0
    weight_is =
        ev ∙ ap (λ (n : ℕ). cond (eqb n 0) 0 (get_or weights i 0)) second_is ∙ by-second (get_or weights i 0) takes
        ∙ ap (λ (n : ℕ). cond takes n 0) (h.strip.masks.weight i h.state)

    metric-small : nat_abs (pick_metric near far signs ties side i) ≤ 2 ^ 30
    metric-small =
        size-cond takes _ _
        (omega (
          arith,
          abs-add (get_or far i (pos 0)) (neg_ℤ (get_or signs (side + i) (pos 0))),
          abs_neg (get_or signs (side + i) (pos 0)),
          far_small,
          sign_small h.strip.lone h.state,
        ))
        (sum-small h.strip.lone h.state)

    pub pick-done : PickTaken M at near far signs ties side i p (set M (at + i) (kept t.metric)) (record { word = bit_or p.word v; counts = t.counts })
    pick-done = record {
      metric = ap (λ (z : ℤ). set M (at + i) z) (ap kept metric_is ∙ back _ metric-small);
      word = ap (bit_or p.word) weight_is ∙ packed_above i p.word h.short takes;
      additions = g.additions;
      comparisons = g.comparisons;
    }
