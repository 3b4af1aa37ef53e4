-- A strip of 32 states: what it reads is what the definition reads, and what it stores and picks is what the definition says.
use lib.Bits.{bit_xor, xor_lt}
use lib.IntN.{◌+ℤ◌, nat_abs, pos, ℤ}
use lib.ListN.{get_or, length}
use lib.Pow.{pow-add, pow_pos}
use mathlib.Core.Bool.{Bool, cond, false, true}
use mathlib.Core.List.{List}
use mathlib.Core.Logic.{inl, inr, ⊎_elim}
use mathlib.Core.Path.{ap, ap₂, sym, ◌∙◌, ◌≡◌}
use native.Mathlib.Nat.{add_assoc, add_comm, div-add-mod', mod-lt}
use native.Mathlib.Omega.{arith}
use Prim.Native.Nat.{◌%◌, ◌*◌, ◌+◌, ◌-◌, ◌/◌, ◌<◌, ◌^◌, ℕ, ◌≤◌}
use Rattle.decoding.proofs.Branches.{alone-is, far_at, near_at, sign_at, tie_at, two-bit, two-metric}
use Rattle.decoding.proofs.Digits.{bit-low}
use Rattle.decoding.proofs.Parities.{block-parity}
use Rattle.decoding.proofs.Preference.{sign-size}
use Rattle.decoding.proofs.Targets.{first-branch, leads-place, live-le, place-lt, second-branch}
use Rattle.decoding.specs.Choosing.{takes_second}
use Rattle.decoding.specs.declared.blocks.Picked.{Picked}
use Rattle.decoding.specs.declared.Counts.{Counts}
use Rattle.decoding.specs.Halves.{StripDone, StripFits}
use Rattle.decoding.specs.Picking.{Lone, Lones, LonesFit, Picks, PicksFit, pick_metric, picks_second}
use Rattle.decoding.specs.Running.{Part, place_of}
use Rattle.decoding.specs.Stepping.{olds}
use Rattle.decoding.specs.Strips.{FetchFits, Gathered, landing}
use Rattle.decoding.specs.Tables.{turned_bit}
use Rattle.decoding.specs.Taking.{Taken, at_state, signed}
use Rattle.trellises.specs.declared.Section.{Section}
use Rattle.trellises.specs.Numbers.{bit_of, leads_to, without}
use Rattle.words.proofs.Parity.{differ-mod}
use Rattle.words.proofs.Word.{bit-lt, bit-xor}
use Rattle.words.specs.Parity.{parity}
use Rattle.words.specs.Word.{bit}

-- the low 32 bits of a word
pub low_word : (w i : ℕ) → i < 32 → bit (w % 2 ^ 32) i ≡ bit w i
low_word w i l = sym (ap (λ (x : ℕ). bit x i) (sym (div-add-mod' w (2 ^ 32))) ∙ bit-low 32 (w / 2 ^ 32) (w % 2 ^ 32) i l)

module _ {M : List ℤ} {from to : ℕ} {c : Section} {y : ℤ} {weights : List ℕ} {signs ties : List ℤ} {w first : ℕ} {near₀ far₀ : List ℤ} {k : Counts}
    (h : StripFits M from to c y weights signs ties w first 32 near₀ far₀ k) where
  abbrev old : ℕ → ℤ
  old = olds M from

  state-lt : (i : ℕ) → i < 32 → first + i < 2 ^ c.live
  state-lt i l = omega (arith, h.states)

  size-le : 2 ^ c.live ≤ 2 ^ 12
  size-le = live-le c h.ready.section

  -- ---- where the branches lead

  pub first-lt : first < 2 ^ 12
  first-lt = omega (arith, h.states, size-le)

  near-lands : (e i : ℕ) → e ≡ place_of c → i < 32 → landing from e first i ≡ from + leads_to c (first + i)
  near-lands e i ee l =
      ap (λ (n : ℕ). from + without n (first + i)) ee
      ∙ ap (λ (n : ℕ). from + n) (sym (leads-place c h.ready.section (first + i) (omega (arith, state-lt i l, size-le))))

  far-lands : (e s i : ℕ) → e ≡ place_of c → s ≡ 2 ^ c.live → i < 32 → landing from e (first + s) i ≡ from + leads_to c (first + i + 2 ^ c.live)
  far-lands e s i ee es l =
      let p : first + s + i ≡ first + i + 2 ^ c.live = omega arith in
      ap₂ (λ (n x : ℕ). from + without n x) ee p
      ∙ ap (λ (n : ℕ). from + n) (sym (leads-place c h.ready.section (first + i + 2 ^ c.live) (omega (arith, state-lt i l, size-le))))

  module _ (room : length M * 4 < 2 ^ 63) where
    from-lt : from < 2 ^ 62
    from-lt = omega (arith, h.ready.place first (first-branch c h.ready.section first (omega (arith, h.states))))

    pub near-asks : {e : ℕ} → e ≡ place_of c → FetchFits M from e first near₀
    near-asks {e} ee = record {
      digit = omega (arith, place-lt c h.ready.section);
      number = omega (arith, first-lt);
      strip = h.strip;
      aligned = h.aligned;
      place = from-lt;
      gather = record {
        size = h.prepared.near_size;
        there = λ i l. rw (near-lands e i ee l) (h.ready.place (first + i) (first-branch c h.ready.section (first + i) (state-lt i l)));
      };
    }

    pub far-asks : c.begins ≡ true → {e s : ℕ} → e ≡ place_of c → s ≡ 2 ^ c.live → FetchFits M from e (first + s) far₀
    far-asks b {e} {s} ee es = record {
      digit = omega (arith, place-lt c h.ready.section);
      number = omega (arith, first-lt, size-le);
      strip = h.strip + 2 ^ (c.live - 5);
      aligned = omega (arith, h.aligned, whole);
      place = from-lt;
      gather = record {
        size = h.prepared.far_size;
        there = λ i l.
            rw (far-lands e s i ee es l)
            (h.ready.place (first + i + 2 ^ c.live) (second-branch c h.ready.section (first + i) (state-lt i l) b));
      };
    }
      where
        whole : 2 ^ c.live ≡ 2 ^ (c.live - 5) * 32
        whole = let f : c.live ≡ c.live - 5 + 5 = omega (arith, h.prepared.wide) in ap (λ (n : ℕ). 2 ^ n) f ∙ pow-add 2 (c.live - 5) 5

  -- ---- what is read: old metrics, signs and ties

  module _ {near : List ℤ} {e : ℕ} (ee : e ≡ place_of c) (g : Gathered M (landing from e first) 32 near) where
    near-is : (i : ℕ) → i < 32 → get_or near i (pos 0) ≡ near_at c y old (first + i)
    near-is i l = g.here i l ∙ ap (λ (j : ℕ). get_or M j (pos 0)) (near-lands e i ee l)

    -- the strip's side of the tables
    module _ {side : ℕ} (es : side ≡ w % 2 * 32) where
      turned-is : (i : ℕ) → i < 32 → turned_bit h.prepared.word (w % 2) i ≡ bit_of c (first + i)
      turned-is i l =
          let z : first + 0 ≡ first = omega arith in
          let a : w % 2 ≡ parity first c.column = h.bits 0 (omega arith) ∙ ap (λ (x : ℕ). parity x c.column) z in
          ap₂ (λ (x v : ℕ). (x + v) % 2) a (h.prepared.pattern i l)
          ∙ sym (ap (λ (x : ℕ). parity (x + i) c.column) h.aligned ∙ block-parity 5 h.strip i c.column l
          ∙ ap (λ (x : ℕ). (parity x c.column + parity i c.column) % 2) (sym h.aligned))

      sign-is : (i : ℕ) → i < 32 → get_or signs (side + i) (pos 0) ≡ sign_at c y old (first + i)
      sign-is i l = rw es (h.prepared.tables.sign (w % 2) i (omega arith) l ∙ ap (λ (d : ℕ). signed d y) (turned-is i l))

      tie-is : (i : ℕ) → i < 32 → get_or ties (side + i) (pos 0) ≡ tie_at c y old (first + i)
      tie-is i l = rw es (h.prepared.tables.tie (w % 2) i (omega arith) l ∙ ap pos (turned-is i l))

      -- a place of the tables, in either half
      either-half : (P : ℕ → Type 0) → ((d i : ℕ) → d < 2 → i < 32 → P (d * 32 + i)) → (i : ℕ) → i < 64 → P i
      either-half P f i l = let e : i ≡ i / 32 * 32 + i % 32 = omega arith in rw e (f (i / 32) (i % 32) (omega arith) (omega arith))

      pub lone-strip : Lone M (to + first) near signs side
      lone-strip = record {
        room = omega (arith, h.ready.room, h.states);
        near_size = g.size;
        signs_size = h.prepared.tables.signs_size;
        side_le = omega arith;
        near_small = λ i l. rw (near-is i l) (h.ready.small (first + i) (first-branch c h.ready.section (first + i) (state-lt i l)));
        sign_small = either-half (λ (i : ℕ). nat_abs (get_or signs i (pos 0)) ≤ 2 ^ 20) (λ d i hd hi.
            rw (h.prepared.tables.sign d i hd hi) (omega (arith, sign-size (turned_bit h.prepared.word d i) y, h.ready.gain)));
      }

      pub lones-asks : LonesFit M (to + first) near signs side k
      lones-asks = record { strip = lone-strip; additions = omega (arith, h.additions) }

      -- ---- one branch a state

      module _ {low : ℕ} (el : low ≡ w % 2 ^ 32) (f : c.begins ≡ false) {M₁ : List ℤ} {k₁ : Counts}
          (q : Lones M (to + first) near signs side 32 k M₁ k₁) where
        lones-part : Part M from to c y first 32 k M₁ (record { word = low; counts = k₁ })
        lones-part = rw el (record {
          size = q.stored.size;
          metric = λ i l. ap (λ (j : ℕ). get_or M₁ j (pos 0)) (sym (add_assoc to first i)) ∙ q.stored.here i l ∙ ap₂ ◌+ℤ◌ (sign-is i l) (near-is i l)
              ∙ sym (ap (λ (z : Taken). z.metric) (alone-is c y old (first + i) f));
          others = λ j o. q.stored.others j (⊎_elim (λ a. inl a) (λ a. inr (omega arith)) o);
          decision = λ i l. low_word w i l ∙ h.bits i l ∙ sym (ap (λ (z : Taken). z.bit) (alone-is c y old (first + i) f));
          short = mod-lt w (pow_pos 32);
          additions = rw f (omega (arith, q.additions));
          comparisons = rw f (omega (arith, q.comparisons));
        })

        pub lones-done : StripDone M from to c y first 32 k M₁ near far₀ (record { word = low; counts = k₁ })
        lones-done = record { part = lones-part; near_size = g.size; far_size = h.prepared.far_size }

      -- ---- two branches a state

      module _ (b : c.begins ≡ true) {far : List ℤ} {s : ℕ} (ez : s ≡ 2 ^ c.live) (g₂ : Gathered M (landing from e (first + s)) 32 far) where
        far-is : (i : ℕ) → i < 32 → get_or far i (pos 0) ≡ far_at c y old (first + i)
        far-is i l = g₂.here i l ∙ ap (λ (j : ℕ). get_or M j (pos 0)) (far-lands e s i ee ez l)

        pub picks-asks : PicksFit M (to + first) near far weights signs ties side k
        picks-asks = record {
          strip = record {
            lone = lone-strip;
            far_size = g₂.size;
            far_small = λ i l. rw (far-is i l) (h.ready.small (first + i + 2 ^ c.live) (second-branch c h.ready.section (first + i) (state-lt i l) b));
            ties_size = h.prepared.tables.ties_size;
            tie_small = either-half (λ (i : ℕ). nat_abs (get_or ties i (pos 0)) ≤ 1) (λ d i hd hi. rw (h.prepared.tables.tie d i hd hi) (omega arith));
            masks = h.prepared.masks;
          };
          additions = omega (arith, h.additions);
          comparisons = omega (arith, h.comparisons);
        }

        module _ {low : ℕ} (el : low ≡ w % 2 ^ 32) {M₁ : List ℤ} {r : Picked} (q : Picks M (to + first) near far signs ties side 32 k M₁ r) where
          abbrev v : ℕ
          v = r.word

          abbrev takes : ℕ → Bool
          takes i = takes_second (near_at c y old (first + i)) (far_at c y old (first + i)) (sign_at c y old (first + i)) (tie_at c y old (first + i))

          same_test : (i : ℕ) → i < 32 → picks_second near far signs ties side i ≡ takes i
          same_test i l = rw (near-is i l, far-is i l, sign-is i l, tie-is i l)

          same-metric : (i : ℕ) → i < 32 → pick_metric near far signs ties side i ≡ (at_state c y old (first + i)).metric
          same-metric i l =
              rw (near-is i l, far-is i l, sign-is i l, tie-is i l) (sym (two-metric c y old (first + i) b h.ready.section (state-lt i l)))

          decide : (i : ℕ) → i < 32 → bit (bit_xor (w % 2 ^ 32) v) i ≡ (at_state c y old (first + i)).bit
          decide i l =
              let n : bit v i ≡ cond (takes i) 1 0 = q.second i l ∙ ap (λ (t : Bool). cond t 1 0) (same_test i l) in
              let p : bit (w % 2 ^ 32) i ≡ bit_of c (first + i) = low_word w i l ∙ h.bits i l in
              bit-xor i (w % 2 ^ 32) v ∙ differ-mod (bit (w % 2 ^ 32) i) (bit v i) (bit-lt i (w % 2 ^ 32)) (bit-lt i v)
              ∙ ap (λ (x : ℕ). x % 2) (add_comm (bit (w % 2 ^ 32) i) (bit v i)) ∙ ap (λ (x : ℕ). (bit v i + x) % 2) p
              ∙ two-bit c y old (first + i) b h.ready.section (state-lt i l) (bit v i) n

          picks-part : Part M from to c y first 32 k M₁ (record { word = bit_xor low r.word; counts = r.counts })
          picks-part = rw el (record {
            size = q.stored.size;
            metric = λ i l. ap (λ (j : ℕ). get_or M₁ j (pos 0)) (sym (add_assoc to first i)) ∙ q.stored.here i l ∙ same-metric i l;
            others = λ j o. q.stored.others j (⊎_elim (λ a. inl a) (λ a. inr (omega arith)) o);
            decision = decide;
            short = xor_lt 32 (w % 2 ^ 32) v (mod-lt w (pow_pos 32)) q.short;
            additions = rw b q.additions;
            comparisons = rw b (omega (arith, q.comparisons));
          })

          pub picks_done : StripDone M from to c y first 32 k M₁ near far (record { word = bit_xor low r.word; counts = r.counts })
          picks_done = record { part = picks-part; near_size = g.size; far_size = g₂.size }
