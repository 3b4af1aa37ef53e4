-- The profile held against a running number of live rows: equal at each depth exactly if it is the profile of the rows.
use borrow.Author.Count.{below_more}
use borrow.Author.Tests.{le-ltb, lt-ltb}
use lib.Dec.{eqb}
use lib.ListN.{get_or, length}
use mathlib.Core.List.{List}
use mathlib.Core.Logic.{inl, inr, ◌⊎◌}
use mathlib.Core.Path.{ap, subst, sym, ◌∙◌, ◌≡◌}
use native.Mathlib.Numerals.{add-one}
use native.Mathlib.Omega.{arith}
use Prim.Native.Nat.{◌+◌, ◌-◌, ◌<◌, zero-le, ℕ, ◌≤◌}
use Rattle.plates.proofs.Deciding.{alike, equal}
use Rattle.plates.proofs.HeadsClear.{last-below}
use Rattle.plates.proofs.ProfileSteps.{here-none, here-one, live_end, live-start, live-suc, span-le}
use Rattle.plates.specs.Counts.{here}
use Rattle.plates.specs.Profile.{live, live_at}
use Rattle.plates.specs.Tested.{ByLast, Decides, HeadsOf, Profiled, Standing, ending_at}
use Rattle.words.proofs.Span.{rising-apart, zero_one}
use Rattle.words.proofs.Word.{bit-cases}
use Rattle.words.specs.Ends.{firsts, lasts}
use Rattle.words.specs.Word.{bit}

-- the entries before t are the rows' own, and `live` rows are live at t
pub record ProfiledTo (n : ℕ) (rows profile : List ℕ) (t live : ℕ) : Type 0 where
  pub within : t ≤ n
  pub entry : (u : ℕ) → u < t → get_or profile u 0 ≡ live_at rows u
  pub narrow : (u : ℕ) → u < t → live_at rows u ≤ 12
  pub live_is : live ≡ live_at rows t

module _ (n : ℕ) (rows : List ℕ) (s : Standing n rows) where
  -- the word of all heads, and the table of last ones, say where a row begins and ends
  pub heads-here : {w : ℕ} → HeadsOf rows (λ j. j < length rows) w → (t : ℕ) → bit w t ≡ here (length rows) (firsts rows) t
  heads-here {w} h t = go (bit-cases w t)
    where
      go : (bit w t ≡ 0) ⊎ (bit w t ≡ 1) → bit w t ≡ here (length rows) (firsts rows) t
      go (inl e) = e ∙ sym (here-none (length rows) (firsts rows) t (λ j l q. zero_one e (subst (λ (x : ℕ). bit w x ≡ 1) q (h.all j l l))))
      go (inr e) = let j = h.only t e in e ∙ sym (here-one (length rows) (firsts rows) t j.0 (rising-apart (length rows) (firsts rows) s.spans.rising) j.1 j.3)

  pub ending_here : {table : List ℕ} → ByLast rows (length rows) table → length rows ≤ 64 → (t : ℕ) → t < 64 → ending_at table t ≡ here (length rows) (lasts rows) t
  ending_here {table} b few t h = go (b.other t h)
    where
      go : (get_or table t 0 ≡ 64) ⊎ ((get_or table t 0 < length rows) × (lasts rows (get_or table t 0) ≡ t)) → ending_at table t ≡ here (length rows) (lasts rows) t
      go (inl e) =
          simp (le-ltb (get_or table t 0) 64 (omega arith))
          (sym (here-none (length rows) (lasts rows) t (λ j l q. omega (arith, sym (b.row j l) ∙ ap (λ (x : ℕ). get_or table x 0) q ∙ e))))
      go (inr q) =
          simp (lt-ltb (get_or table t 0) 64 (omega (arith, q.0))) (sym (here-one (length rows) (lasts rows) t (get_or table t 0) s.spans.apart q.0 q.1))

  next : (t : ℕ) → live_at rows (t + 1) + here (length rows) (lasts rows) t ≡ live_at rows t + here (length rows) (firsts rows) t
  next t =
      subst (λ (x : ℕ). live_at rows x + here (length rows) (lasts rows) t ≡ live_at rows t + here (length rows) (firsts rows) t) (sym (add-one t))
      (live-suc (length rows) (firsts rows) (lasts rows) (span-le rows (firsts rows) (lasts rows) s.spans) t)

  pub profiled-none : (profile : List ℕ) → ProfiledTo n rows profile 0 0
  profiled-none profile = record {
    within = zero-le;
    entry = λ u h. absurd (omega arith);
    narrow = λ u h. absurd (omega arith);
    live_is = sym (live-start (length rows) (firsts rows) (lasts rows) (span-le rows (firsts rows) (lasts rows) s.spans));
  }

  module _ (few : length rows ≤ 64) (short : n ≤ 64) (profile table : List ℕ) (t live heads : ℕ) (h : HeadsOf rows (λ j. j < length rows) heads) (b : ByLast rows (length rows) table)
      (p : ProfiledTo n rows profile t live) (l : t < n) where
    -- what the next number is made of
    pub next-live : live + bit heads t ≡ live_at rows (t + 1) + ending_at table t
    next-live = omega (arith, next t, heads-here h t, ending_here b few t (omega arith), p.live_is)

    pub profiled-more : (get_or profile t 0 ≡ live) × (live ≤ 12) → ProfiledTo n rows profile (t + 1) (live + bit heads t - ending_at table t)
    profiled-more e = record {
      within = omega arith;
      entry = below_more (λ u. get_or profile u 0 ≡ live_at rows u) t p.entry (e.0 ∙ p.live_is);
      narrow = below_more (λ u. live_at rows u ≤ 12) t p.narrow (omega (arith, e.1, p.live_is));
      live_is = omega (arith, next-live);
    }

    pub profiled-stop : ((get_or profile t 0 ≡ live) × (live ≤ 12) → ⊥) → Profiled n rows profile → ⊥
    profiled-stop no-entry g = no-entry (g.entry t (omega arith) ∙ sym p.live_is, omega (arith, g.narrow t (omega arith), p.live_is))

  -- at the end no row is live
  pub profiled-all : (profile : List ℕ) (t live : ℕ) → n ≤ t → ProfiledTo n rows profile t live → Decides (Profiled n rows profile) (eqb (get_or profile n 0) 0)
  profiled-all profile t live h p = alike
      (λ e. record {
        entry = λ u k. below_more (λ x. get_or profile x 0 ≡ live_at rows x) n (λ x j. p.entry x (omega arith)) (e ∙ sym none) u (omega arith);
        narrow = λ u k. below_more (λ x. live_at rows x ≤ 12) n (λ x j. p.narrow x (omega arith)) (omega (arith, none)) u (omega arith);
      })
      (λ g. g.entry n (omega arith) ∙ none) (equal (get_or profile n 0) 0)
    where
      none : live_at rows n ≡ 0
      none = live_end (length rows) (firsts rows) (lasts rows) (span-le rows (firsts rows) (lasts rows) s.spans) n (last-below n rows s)
