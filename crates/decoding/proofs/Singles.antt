-- One state: where its branches' metrics stand, that no sum overflows, and that what the code chooses is what the definition says.
use lib.Bits.{bit_xor, xor_lt}
use lib.IntN.{◌+ℤ◌, ◌-ℤ◌, nat_abs, neg_ℤ, pos, ℤ}
use lib.ListN.{get_or, length, set}
use mathlib.Core.Bool.{Bool, cond, false, true}
use mathlib.Core.List.{List}
use mathlib.Core.Path.{ap, ap₂, sym, ◌∙◌, ◌≡◌}
use native.Mathlib.Nat.{add-zero}
use native.Mathlib.Omega.{arith}
use Prim.Native.Nat.{◌%◌, ◌*◌, ◌+◌, ◌<◌, ◌^◌, ℕ, ◌≤◌}
use Rattle.decoding.proofs.Branches.{alone-is, far_at, near_at, sign_at, tie_at, two-bit, two-metric}
use Rattle.decoding.proofs.Integers.{abs-add, abs_neg, back, kept}
use Rattle.decoding.proofs.Packed.{xor-digits}
use Rattle.decoding.proofs.Parts.{single}
use Rattle.decoding.proofs.Preference.{sign-copy, sign-size, tie-copy}
use Rattle.decoding.proofs.Targets.{far-leads, first-branch, second-branch}
use Rattle.decoding.specs.Choosing.{AloneFits, AloneTaken, ChoiceFits, Chosen, takes_second}
use Rattle.decoding.specs.declared.choices.Choice.{Choice}
use Rattle.decoding.specs.declared.Counts.{Counts}
use Rattle.decoding.specs.Running.{Part, SourceFits, StateFits}
use Rattle.decoding.specs.Stepping.{olds}
use Rattle.decoding.specs.Taking.{Taken, at_state, signed}
use Rattle.trellises.specs.declared.Section.{Section}
use Rattle.trellises.specs.Numbers.{bit_of, branch_count, leads_to}

size-cond : (t : Bool) (x y : ℤ) (n : ℕ) → nat_abs x ≤ n → nat_abs y ≤ n → nat_abs (cond t x y) ≤ n
size-cond true x y n hx hy = hx
size-cond false x y n hx hy = hy

test-lt : (t : Bool) → cond t 1 0 < 2
test-lt true = omega arith
test-lt false = omega arith

module _ {M : List ℤ} {from to : ℕ} {c : Section} {y : ℤ} {p i : ℕ} {k : Counts} (h : StateFits M from to c y p i k) where
  abbrev near : ℤ
  near = near_at c y (olds M from) i

  abbrev far : ℤ
  far = far_at c y (olds M from) i

  abbrev sign : ℤ
  sign = sign_at c y (olds M from) i

  abbrev tie : ℤ
  tie = tie_at c y (olds M from) i

  near-branch : i < branch_count c
  near-branch = first-branch c h.ready.section i h.state

  near_size : nat_abs near ≤ 2 ^ 27
  near_size = h.ready.small i near-branch

  sign_small : nat_abs sign ≤ 2 ^ 20
  sign_small = omega (arith, sign-size (bit_of c i) y, h.ready.gain)

  near-place : from + leads_to c i < length M
  near-place = h.ready.place i near-branch

  pub near_fits : length M * 4 < 2 ^ 63 → SourceFits from c i
  near_fits b = record { section = h.ready.section; branch = near-branch; place = omega (arith, near-place) }

  -- what the code reads: r is where the first branch leads, s what its bit adds
  module _ {r : ℕ} (er : r ≡ from + leads_to c i) where
    pub near-there : r < length M
    near-there = omega (arith, near-place)

    near-read : kept (get_or M r (pos 0)) ≡ near
    near-read = rw er (back _ (omega (arith, near_size)))

    module _ {s : ℤ} (es : s ≡ signed p (kept y)) where
      sign_read : kept s ≡ sign
      sign_read =
          sign-copy (bit_of c i) y s h.ready.gain (es ∙ ap₂ signed h.parity (back y (omega (arith, h.ready.gain))))

      -- a state that one branch leaves
      pub alone-fits : AloneFits (kept (get_or M r (pos 0))) (kept s) k
      alone-fits = record { near = rw near-read near_size; sign = rw sign_read sign_small; additions = h.additions }

      pub alone-part : c.begins ≡ false → {t : Choice} → AloneTaken (kept (get_or M r (pos 0))) (kept s) k t
          → Part M from to c y i 1 k (set M (to + i) (kept t.metric)) (record { word = p; counts = t.counts })
      alone-part f {t} g =
          single M from to c y h.ready i h.state _ k _ stored (h.parity ∙ sym (ap (λ (z : Taken). z.bit) (alone-is c y (olds M from) i f)))
          (omega (arith, h.parity)) (rw f g.additions) (rw (f, add-zero k.comparisons) g.comparisons)
        where
          stored : kept t.metric ≡ (at_state c y (olds M from) i).metric
          stored =
              let e : t.metric ≡ sign +ℤ near = g.metric ∙ ap₂ ◌+ℤ◌ sign_read near-read in
              back _ (omega (arith, ap nat_abs e, abs-add sign near, near_size, sign_small))
              ∙ e ∙ sym (ap (λ (z : Taken). z.metric) (alone-is c y (olds M from) i f))

    -- a state that two branches leave: d is how far the second leads past the first
    module _ (e : c.begins ≡ true) {d : ℕ} (ed : d ≡ leads_to c (2 ^ c.live)) where
      far-branch : i + 2 ^ c.live < branch_count c
      far-branch = second-branch c h.ready.section i h.state e

      far_size : nat_abs far ≤ 2 ^ 27
      far_size = h.ready.small (i + 2 ^ c.live) far-branch

      far-sum : r + d ≡ from + leads_to c (i + 2 ^ c.live)
      far-sum = omega (arith, far-leads c h.ready.section i h.state)

      pub far-there : r + d < length M
      far-there = omega (arith, far-sum, h.ready.place (i + 2 ^ c.live) far-branch)

      far-read : kept (get_or M (r + d) (pos 0)) ≡ far
      far-read = rw far-sum (back _ (omega (arith, far_size)))

      module _ {s u : ℤ} (es : s ≡ signed p (kept y)) (eu : u ≡ pos p) where
        tie-read : kept u ≡ tie
        tie-read = tie-copy (bit_of c i) u (omega arith) (eu ∙ ap pos h.parity)

        pub choice-fits : ChoiceFits (kept (get_or M r (pos 0))) (kept (get_or M (r + d) (pos 0))) (kept s) (kept u) k
        choice-fits = record {
          near = rw near-read near_size;
          far = rw far-read far_size;
          sign = rw (sign_read es) sign_small;
          tie = rw tie-read (omega arith);
          additions = h.additions;
          comparisons = h.comparisons;
        }

        module _ {t : Choice} (g : Chosen (kept (get_or M r (pos 0))) (kept (get_or M (r + d) (pos 0))) (kept s) (kept u) k t) where
          abbrev test : Bool
          test = takes_second near far sign tie

          chosen_is : t.metric ≡ cond test (far -ℤ sign) (sign +ℤ near)
          chosen_is = rw (near-read, far-read, sign_read es, tie-read) at g.metric

          second_is : t.second ≡ cond test 1 0
          second_is = rw (near-read, far-read, sign_read es, tie-read) at g.second

          stored : kept t.metric ≡ (at_state c y (olds M from) i).metric
          stored =
              back _ (rw chosen_is (size-cond test (far -ℤ sign) (sign +ℤ near) (2 ^ 30)
              (omega (arith, abs-add far (neg_ℤ sign), abs_neg sign, far_size, sign_small))
              (omega (arith, abs-add sign near, near_size, sign_small))))
              ∙ chosen_is ∙ sym (two-metric c y (olds M from) i e h.ready.section h.state)

          second_lt : t.second < 2
          second_lt = rw second_is (test-lt test)

          parity-lt : p < 2
          parity-lt = omega (arith, h.parity)

          -- its bit is the first branch's, or the other
          bit_is : bit_xor t.second p ≡ (at_state c y (olds M from) i).bit
          bit_is =
              xor-digits t.second p second_lt parity-lt ∙ ap (λ (x : ℕ). (t.second + x) % 2) h.parity
              ∙ two-bit c y (olds M from) i e h.ready.section h.state t.second second_is

          pub chosen-part : Part M from to c y i 1 k (set M (to + i) (kept t.metric)) (record { word = bit_xor t.second p; counts = t.counts })
          chosen-part =
              single M from to c y h.ready i h.state _ k _ stored bit_is (xor_lt 1 t.second p second_lt parity-lt)
              (rw e g.additions) (rw e g.comparisons)
