-- One section of the sweep: what its step asks follows from what the sweep has, and what the step does carries it one depth on.
use lib.IntN.{nat_abs, pos, ℤ}
use lib.ListN.{drop, get_or, length, length-drop, take}
use lib.Seq.{drop-cons, get_or-drop, length-take-le}
use mathlib.Core.List.{◌++◌, List, ◌∷◌}
use mathlib.Core.Logic.{inl, inr, ◌⊎◌}
use mathlib.Core.Path.{ap, subst, sym, ◌∙◌, ◌≡◌}
use native.Mathlib.Decide.{dec_lt}
use native.Mathlib.Nat.{eq-or-lt_of_le, le_trans, mul-le-mul_left, mul-le-mul_right, suc-mul}
use native.Mathlib.Omega.{arith}
use Prim.Native.Nat.{◌%◌, ◌*◌, ◌+◌, ◌-◌, ◌/◌, ◌<◌, ◌^◌, suc, ℕ, ◌≤◌}
use Rattle.decoding.proofs.CountSteps.{counted-small, counting-same}
use Rattle.decoding.proofs.MetricBounds.{best-within}
use Rattle.decoding.proofs.LentParts.{back-behind, back_inside, back-length}
use Rattle.decoding.proofs.SameChoice.{choice-same}
use Rattle.decoding.specs.Backward.{best, counted, decided}
use Rattle.decoding.specs.declared.Counts.{Counts}
use Rattle.decoding.specs.declared.sweep.Sizes.{Sizes}
use Rattle.decoding.specs.declared.sweep.Standing.{Standing}
use Rattle.decoding.specs.declared.live.Live.{Live}
use Rattle.decoding.specs.LiveRows.{LiveAt}
use Rattle.decoding.specs.Stepping.{StepFits, Stepped, gain_limit, olds}
use Rattle.decoding.specs.Sweeping.{RoomsFit, SectionSwept, SizesFit, Swept}
use Rattle.decoding.specs.Taking.{Taken, at_state, counting}
use Rattle.trellises.specs.declared.Section.{Section}
use Rattle.trellises.specs.Numbers.{leads_to}
use Rattle.trellises.specs.SectionOf.{section_of}
use Rattle.words.specs.Word.{bit}

module _ (table : List ℕ) (z : Sizes) (samples metrics : List ℤ) (decisions : List ℕ) (t : ℕ) (fit : SizesFit table z)
    (rooms : RoomsFit z samples metrics decisions) (h : t < z.n) (s : Standing) (w : Swept (take z.k table) z samples (suc t) metrics decisions s) where
  abbrev sections : ℕ → Section
  sections = section_of (take z.k table)

  -- the sample of the section, and those behind it
  abbrev sample : ℤ
  sample = get_or samples t (pos 0)

  abbrev behind : List ℤ
  behind = drop (suc t) samples

  samples-split : drop t samples ≡ sample ∷ behind
  samples-split = drop-cons samples t (pos 0) (omega (arith, rooms.size))

  -- where the section's decision words begin, and the part lent
  abbrev begin : ℕ
  begin = t * z.words

  abbrev part : List ℕ
  part = take (begin + z.words - begin) (drop begin decisions)

  words-end : (u : ℕ) → u < z.n → u * z.words + z.words ≤ length decisions
  words-end u k = omega (arith, rooms.decision_room, mul-le-mul_right z.words k, suc-mul u z.words)

  from-room : (s.from ≡ 0) ⊎ (s.from ≡ z.half) → s.from ≤ z.half
  from-room (inl e) = omega (arith, e)
  from-room (inr e) = omega (arith, e)

  pub begin-small : t * z.words ≤ 4096
  begin-small = let k : t ≤ 64 = omega (arith, fit.short) in le_trans (mul-le-mul_left t fit.words_small) (mul-le-mul_right 64 k)

  pub from_low : s.from ≤ z.half
  from_low = from-room w.side

  width : begin + z.words - begin ≡ z.words
  width = omega arith

  part-size : length part ≡ z.words
  part-size = ap (λ (m : ℕ). length (take m (drop begin decisions))) width ∙ length-take-le z.words (drop begin decisions) (omega (arith, length-drop begin decisions, words-end t h))

  -- the part has a bit for each state where decisions are wanted, and no word where they are not
  part-wanted : Dec (0 < z.words) → (length part ≡ 0) ⊎ (2 ^ (section_of (take z.k table) t).live ≤ length part * 64)
  part-wanted (yes p) = inr (omega (arith, part-size, fit.words_room p t h))
  part-wanted (no p) = inl (omega (arith, part-size, p))

  behind-size : length (drop (suc t) samples) ≤ 64
  behind-size = omega (arith, length-drop (suc t) samples, rooms.size, fit.short)

  behind-within : (i : ℕ) → i < length (drop (suc t) samples) → nat_abs (get_or (drop (suc t) samples) i (pos 0)) ≤ gain_limit
  behind-within i k = subst (λ (x : ℤ). nat_abs x ≤ gain_limit) (sym (get_or-drop (suc t) samples i (pos 0))) (rooms.within (suc t + i) (omega (arith, length-drop (suc t) samples)))

  apart : (s.from ≡ 0) ⊎ (s.from ≡ z.half) → (s.from + 2 ^ (section_of (take z.k table) (suc t)).live ≤ z.half - s.from) ⊎ (z.half - s.from + 2 ^ (section_of (take z.k table) t).live ≤ s.from)
  apart (inl e) = inl (omega (arith, e, fit.half_room (suc t) h))
  apart (inr e) = inr (omega (arith, e, fit.half_room t (omega arith)))

  small-counts : (s.counts.additions ≤ 2 ^ 40) × (s.counts.comparisons ≤ 2 ^ 40)
  small-counts =
      let r = counted-small sections z.n (λ u k. (fit.chain.fits u k).narrow) behind (suc t) (omega (arith, length-drop (suc t) samples, rooms.size)) in
      let b : length (drop (suc t) samples) * 8192 ≤ 64 * 8192 = mul-le-mul_right 8192 behind-size in (
        omega (arith, r.0, b, ap (λ (k : Counts). k.additions) w.counts),
        omega (arith, r.1, b, ap (λ (k : Counts). k.comparisons) w.counts),
      )

  pub step_fits : (c : Section) → c ≡ section_of (take z.k table) t → (y : ℤ) → y ≡ get_or samples t (pos 0)
      → StepFits metrics s.from (z.half - s.from) (take (t * z.words + z.words - t * z.words) (drop (t * z.words) decisions)) c y s.counts
  step_fits c e y f =
      subst (λ (d : Section). StepFits metrics s.from (z.half - s.from) part d y s.counts) (sym e)
      (subst (λ (x : ℤ). StepFits metrics s.from (z.half - s.from) part (sections t) x s.counts) (sym f) (record {
        section = fit.chain.fits t h;
        next = 2 ^ (sections (suc t)).live;
        leads = fit.chain.leads t h;
        apart = apart w.side;
        old_room = omega (arith, from-room w.side, fit.half_room (suc t) h, rooms.metric_room);
        new_room = omega (arith, fit.half_room t (omega arith), rooms.metric_room);
        gain = omega (arith, rooms.within t (omega (arith, rooms.size)));
        small = λ i k. omega (arith, ap nat_abs (w.metric i k), best-within sections gain_limit behind behind-within (suc t) i, mul-le-mul_left gain_limit behind-size);
        wanted = part-wanted (dec_lt 0 z.words);
        additions = small-counts.0;
        comparisons = small-counts.1;
      }))

  -- the choices by the metrics in the room are those by the best metrics
  same-choice : (i : ℕ) → i < 2 ^ (section_of (take z.k table) t).live
      → at_state (section_of (take z.k table) t) (get_or samples t (pos 0)) (olds metrics s.from) i
      ≡ at_state (section_of (take z.k table) t) (get_or samples t (pos 0)) (best (section_of (take z.k table)) (drop (suc t) samples) (suc t)) i
  same-choice i k = choice-same (sections t) sample (olds metrics s.from) (best sections behind (suc t)) i k (λ x l. w.metric (leads_to (sections t) x) (fit.chain.leads t h x l))

  module _ (metrics' : List ℤ) (part' : List ℕ) (k' : Counts)
      (did : Stepped metrics s.from (z.half - s.from) (take (t * z.words + z.words - t * z.words) (drop (t * z.words) decisions)) (section_of (take z.k table) t) (get_or samples t (pos 0)) s.counts metrics' part' k')
      (live' : Live) (live-is' : LiveAt (take z.k table) t live') where
    abbrev decisions' : List ℕ
    decisions' = take begin decisions ++ (part' ++ drop (begin + z.words - begin) (drop begin decisions))

    size' : length part' ≡ begin + z.words - begin
    size' = did.words ∙ part-size ∙ sym width

    room' : begin + (begin + z.words - begin) ≤ length decisions
    room' = omega (arith, width, words-end t h)

    other-side : (s.from ≡ 0) ⊎ (s.from ≡ z.half) → (z.half - s.from ≡ 0) ⊎ (z.half - s.from ≡ z.half)
    other-side (inl e) = inr (omega (arith, e))
    other-side (inr e) = inl (omega (arith, e))

    metric' : (i : ℕ) → i < 2 ^ (section_of (take z.k table) t).live → olds metrics' (z.half - s.from) i ≡ best (section_of (take z.k table)) (drop t samples) t i
    metric' i k = did.metric i k ∙ ap (λ (x : Taken). x.metric) (same-choice i k) ∙ ap (λ (ys : List ℤ). best sections ys t i) (sym samples-split)

    here : 0 < z.words → (i : ℕ) → i < 2 ^ (section_of (take z.k table) t).live → bit (get_or decisions' (begin + i / 64) 0) (i % 64) ≡ decided (section_of (take z.k table)) sample behind t i
    here p i k =
        let q : i / 64 < begin + z.words - begin = omega (arith, width, fit.words_room p t h) in
        ap (λ (x : ℕ). bit x (i % 64)) (back_inside decisions part' begin (begin + z.words - begin) size' room' 0 (i / 64) q)
        ∙ did.decision (omega (arith, part-size, q, width)) i k ∙ ap (λ (x : Taken). x.bit) (same-choice i k)

    later : 0 < z.words → (u : ℕ) → suc t ≤ u → u < z.n → (i : ℕ) → i < 2 ^ (section_of (take z.k table) u).live
        → bit (get_or decisions' (u * z.words + i / 64) 0) (i % 64) ≡ decided (section_of (take z.k table)) (get_or samples u (pos 0)) (drop (suc u) samples) u i
    later p u l m i k =
        ap (λ (x : ℕ). bit x (i % 64)) (back-behind decisions part' begin (begin + z.words - begin) size' room' 0 (u * z.words + i / 64) (omega (arith, width, mul-le-mul_right z.words l, suc-mul t z.words)))
        ∙ w.decision p u l m i k

    decision' : 0 < z.words → (u : ℕ) → t ≤ u → u < z.n → (i : ℕ) → i < 2 ^ (section_of (take z.k table) u).live
        → bit (get_or decisions' (u * z.words + i / 64) 0) (i % 64) ≡ decided (section_of (take z.k table)) (get_or samples u (pos 0)) (drop (suc u) samples) u i
    decision' p u l m i k = go (eq-or-lt_of_le l)
      where
        go : (t ≡ u) ⊎ (t < u) → bit (get_or decisions' (u * z.words + i / 64) 0) (i % 64) ≡ decided (section_of (take z.k table)) (get_or samples u (pos 0)) (drop (suc u) samples) u i
        go (inl e) =
            subst (λ (v : ℕ). (j : ℕ) → j < 2 ^ (sections v).live → bit (get_or decisions' (v * z.words + j / 64) 0) (j % 64) ≡ decided sections (get_or samples v (pos 0)) (drop (suc v) samples) v j) e (here p) i k
        go (inr g) = later p u g m i k

    counts' : k' ≡ counted (section_of (take z.k table)) (drop t samples) t
    counts' =
        did.counts ∙ ap (counting (sections t) sample (olds metrics s.from) (2 ^ (sections t).live)) w.counts
        ∙ counting-same (sections t) sample (olds metrics s.from) (best sections behind (suc t)) (2 ^ (sections t).live) (counted sections behind (suc t))
        ∙ ap (λ (ys : List ℤ). counted sections ys t) (sym samples-split)

    section-swept : SectionSwept table z samples t metrics decisions metrics' decisions' (record { from = z.half - s.from; live = live'; counts = k' })
    section-swept = record {
      swept = record { side = other-side w.side; live = live-is'; metric = metric'; decision = decision'; counts = counts' };
      kept = record {
        metrics_size = did.size;
        metrics_rest = λ i k. did.others i (inr (omega (arith, fit.half_room t (omega arith), k)));
        decisions_size = back-length decisions part' begin (begin + z.words - begin) size' room' 0;
        decisions_rest = λ i k. back-behind decisions part' begin (begin + z.words - begin) size' room' 0 i (omega (arith, width, k, mul-le-mul_right z.words h, suc-mul t z.words));
      };
    }

  -- the same of the section and the sample as the code has them
  pub section-done : (c : Section) → c ≡ section_of (take z.k table) t → (y : ℤ) → y ≡ get_or samples t (pos 0) → (metrics' : List ℤ) (part' : List ℕ) (k' : Counts)
      → Stepped metrics s.from (z.half - s.from) (take (t * z.words + z.words - t * z.words) (drop (t * z.words) decisions)) c y s.counts metrics' part' k'
      → (live' : Live) → LiveAt (take z.k table) t live'
      → SectionSwept table z samples t metrics decisions metrics' (take (t * z.words) decisions ++ (part' ++ drop (t * z.words + z.words - t * z.words) (drop (t * z.words) decisions)))
      (record { from = z.half - s.from; live = live'; counts = k' })
  section-done c e y f metrics' part' k' did live' l =
      section-swept metrics' part' k'
      (subst (λ (x : ℤ). Stepped metrics s.from (z.half - s.from) part (sections t) x s.counts metrics' part' k') f
      (subst (λ (d : Section). Stepped metrics s.from (z.half - s.from) part d y s.counts metrics' part' k') e did))
      live' l
