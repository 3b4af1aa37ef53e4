-- What the steps count for a prepared plate: additions are the branches of its trellis, comparisons the branches entering each state past
-- the start less one, both as the profile's formulas say, whatever the samples.
use borrow.Author.Tests.{eq-eqb, eqb-true}
use lib.Dec.{eqb}
use lib.IntN.{ℤ}
use lib.ListN.{length}
use mathlib.Core.Bool.{Bool, cond, false, false≢true, or-true, true, ◌||◌}
use mathlib.Core.List.{List, [], ◌∷◌}
use mathlib.Core.Path.{ap, ap₂, refl, sym, ◌∙◌, ◌≡◌}
use native.Mathlib.Omega.{arith}
use Prim.Native.Nat.{◌*◌, ◌+◌, ◌<◌, ◌^◌, suc, suc-le-suc, zero, zero-le, ℕ}
use Rattle.decoding.proofs.CountSteps.{counting-additions, counting-comparisons}
use Rattle.decoding.proofs.StatesEntered.{plate-entering}
use Rattle.decoding.proofs.SumsAdded.{total-moved}
use Rattle.decoding.specs.Backward.{best, counted}
use Rattle.decoding.specs.declared.Counts.{Counts}
use Rattle.decoding.specs.Taking.{counting}
use Rattle.decoding.specs.Totals.{begins_at, branch_total, doubled_total, entering_less_one, state_total, total}
use Rattle.plates.proofs.ProfileSteps.{profile-end, profile-start}
use Rattle.plates.proofs.SoundIsPrepared.{sound}
use Rattle.plates.specs.declared.Plate.{Plate}
use Rattle.plates.specs.Prepare.{IsPrepared, rows_of}
use Rattle.plates.specs.Profile.{live_at}
use Rattle.trellises.proofs.PlateTrellis.{branches-doubled, branches-single, plate-spans}
use Rattle.trellises.proofs.SectionAgrees.{section-agrees}
use Rattle.trellises.proofs.WordsTrellis.{words-branches}
use Rattle.trellises.specs.Branching.{trellis_of}
use Rattle.trellises.specs.declared.Section.{Section}
use Rattle.trellises.specs.Numbers.{branch_count}
use Rattle.trellises.specs.SectionOf.{section_of}
use Rattle.trellises.specs.Smallest.{Begins, active_at}
use Rattle.words.specs.Ends.{first, firsts}

-- ---- of one section

module _ (c : Section) (y : ℤ) (old : ℕ → ℤ) (k : Counts) where
  -- each branch is added
  adding : (counting c y old (2 ^ c.live) k).additions ≡ k.additions + branch_count c
  adding = omega (arith, counting-additions c y old (2 ^ c.live) k, go c.begins (2 ^ c.live))
    where
      go : (b : Bool) (x : ℕ) → x * cond b 2 1 ≡ cond b (x + x) x
      go true x = omega arith
      go false x = omega arith

  -- all but one of those that leave a state are compared
  comparing : (counting c y old (2 ^ c.live) k).comparisons + 2 ^ c.live ≡ k.comparisons + branch_count c
  comparing = omega (arith, counting-comparisons c y old (2 ^ c.live) k, go c.begins (2 ^ c.live))
    where
      go : (b : Bool) (x : ℕ) → x * cond b 1 0 + x ≡ cond b (x + x) x
      go true x = omega arith
      go false x = omega arith

-- ---- of any sections

module _ (sections : ℕ → Section) where
  -- additions are the sections' branches
  pub counted-additions : (B : ℕ → ℕ) → ((t : ℕ) → branch_count (sections t) ≡ B t) → (samples : List ℤ) (t : ℕ)
      → (counted sections samples t).additions ≡ total t (length samples) B
  counted-additions B e [] t = refl
  counted-additions B e (y ∷ ys) t =
      omega (arith, adding (sections t) y (best sections ys (suc t)) (counted sections ys (suc t)), e t, counted-additions B e ys (suc t))

  -- comparisons are those less the states that they leave
  pub counted-comparisons : (S : ℕ → ℕ) → ((t : ℕ) → 2 ^ (sections t).live ≡ S t) → (samples : List ℤ) (t : ℕ)
      → (counted sections samples t).comparisons + total t (length samples) S ≡ (counted sections samples t).additions
  counted-comparisons S e [] t = refl
  counted-comparisons S e (y ∷ ys) t =
      let k : Counts = counted sections ys (suc t) in
      omega (arith, adding (sections t) y (best sections ys (suc t)) k, comparing (sections t) y (best sections ys (suc t)) k, e t, counted-comparisons S e ys (suc t))

  -- neither depends on the samples, only on how many there are
  pub counts-any-samples : (samples samples' : List ℤ) → length samples ≡ length samples' → (t : ℕ)
      → counted sections samples t ≡ counted sections samples' t
  counts-any-samples ys ys' h t =
      ap₂ (λ (a b : ℕ). record { additions = a; comparisons = b }) additions
      (omega (arith, additions, counted-comparisons S (λ t. refl) ys t, counted-comparisons S (λ t. refl) ys' t, ap (λ (n : ℕ). total t n S) h))
    where
      B : ℕ → ℕ
      B t = branch_count (sections t)

      S : ℕ → ℕ
      S t = 2 ^ (sections t).live

      additions : (counted sections ys t).additions ≡ (counted sections ys' t).additions
      additions = counted-additions B (λ t. refl) ys t ∙ ap (λ (n : ℕ). total t n B) h ∙ sym (counted-additions B (λ t. refl) ys' t)

-- ---- where a row begins

-- the test says that there is such a row
begins-row : (rows : List ℕ) (t : ℕ) → begins_at rows t ≡ true → Begins rows t
begins-row [] t = λ e. absurd (false≢true e)
begins-row (row ∷ rows) t = go (eqb (first row) t) refl (begins-row rows t)
  where
    go : (b : Bool) → eqb (first row) t ≡ b → (begins_at rows t ≡ true → Begins rows t) → b || begins_at rows t ≡ true → Begins (row ∷ rows) t
    go true q later e = record { row = 0; there = suc-le-suc zero-le; here = eqb-true (first row) t q }
    go false q later e = let b = later e in record { row = suc b.row; there = suc-le-suc b.there; here = b.here }

-- and each such row passes it
row-begins : (rows : List ℕ) (t j : ℕ) → j < length rows → firsts rows j ≡ t → begins_at rows t ≡ true
row-begins [] t j h e = absurd (omega arith)
row-begins (row ∷ rows) t zero h e = rw (eq-eqb (first row) t e)
row-begins (row ∷ rows) t (suc j) h e = rw (row-begins rows t j (omega arith) e) (or-true (eqb (first row) t))

-- ---- of a prepared plate

module _ (plate : Plate) (given : IsPrepared plate) where
  -- a section's numbers are those of the trellis
  section-branches : (t : ℕ) → branch_count (section_of (rows_of plate) t) ≡ length ((trellis_of plate).branches t)
  section-branches t = (section-agrees (rows_of plate) (plate-spans plate given) t).branches ∙ sym (words-branches plate given t)

  section-states : (t : ℕ) → 2 ^ (section_of (rows_of plate) t).live ≡ 2 ^ live_at (rows_of plate) t
  section-states t = ap (λ (n : ℕ). 2 ^ n) (section-agrees (rows_of plate) (plate-spans plate given) t).states

  -- it has as many branches as states, doubled where a row begins
  section-doubled : (t : ℕ) → branch_count (section_of (rows_of plate) t)
      ≡ cond (begins_at (rows_of plate) t) (2 * 2 ^ live_at (rows_of plate) t) (2 ^ live_at (rows_of plate) t)
  section-doubled t = (section-agrees (rows_of plate) (plate-spans plate given) t).branches ∙ go (begins_at (rows_of plate) t) refl
    where
      go : (b : Bool) → begins_at (rows_of plate) t ≡ b
          → 2 ^ active_at (rows_of plate) t ≡ cond b (2 * 2 ^ live_at (rows_of plate) t) (2 ^ live_at (rows_of plate) t)
      go true e = branches-doubled plate given t (begins-row (rows_of plate) t e)
      go false e = branches-single plate given t (λ b. false≢true (sym e ∙ row-begins (rows_of plate) t b.row b.there b.here))

  -- the start and the end have one state each, so the states past the start are as many as those before the end
  states-moved : total 0 plate.n (λ t. 2 ^ live_at (rows_of plate) t) ≡ state_total (rows_of plate) plate.n
  states-moved =
      let z : 0 + plate.n ≡ plate.n = omega arith in
      let s = ap (λ (x : ℕ). 2 ^ x) (profile-start plate (sound given)) in
      let e = ap (λ (x : ℕ). 2 ^ x) (ap (live_at (rows_of plate)) z ∙ profile-end plate (sound given)) in
      omega (arith, total-moved (λ t. 2 ^ live_at (rows_of plate) t) 0 plate.n)

  module _ (samples : List ℤ) (size : length samples ≡ plate.n) where
    -- decoding reports one addition for each branch
    pub additions-are-branches : (counted (section_of (rows_of plate)) samples 0).additions ≡ branch_total (trellis_of plate) plate.n
    additions-are-branches =
        counted-additions (section_of (rows_of plate)) _ section-branches samples 0 ∙ ap (branch_total (trellis_of plate)) size

    -- which are, over t from 0 to n - 1, 2 ^ s(t), doubled where a row begins at t
    pub additions-formula : (counted (section_of (rows_of plate)) samples 0).additions ≡ doubled_total (rows_of plate) plate.n
    additions-formula = counted-additions (section_of (rows_of plate)) _ section-doubled samples 0 ∙ ap (doubled_total (rows_of plate)) size

    -- comparisons are additions less the sum of 2 ^ s(t) for t from 1 to n
    pub comparisons-formula : (counted (section_of (rows_of plate)) samples 0).comparisons + state_total (rows_of plate) plate.n
        ≡ (counted (section_of (rows_of plate)) samples 0).additions
    comparisons-formula =
        ap (λ (x : ℕ). (counted (section_of (rows_of plate)) samples 0).comparisons + x)
        (sym (ap (λ (n : ℕ). total 0 n (λ t. 2 ^ live_at (rows_of plate) t)) size ∙ states-moved))
        ∙ counted-comparisons (section_of (rows_of plate)) _ section-states samples 0

    -- and for each state past the start one comparison fewer than the branches entering it
    pub comparisons-are-entering-less-one : (counted (section_of (rows_of plate)) samples 0).comparisons ≡ entering_less_one (trellis_of plate) plate.n
    comparisons-are-entering-less-one = omega (arith, comparisons-formula, additions-are-branches, plate-entering plate given)

    -- so the counts of a promise that speaks of the trellis are those that the steps make one by one
    pub counted-by-steps : (k : Counts) → k.additions ≡ branch_total (trellis_of plate) plate.n → k.comparisons ≡ entering_less_one (trellis_of plate) plate.n
        → k ≡ counted (section_of (rows_of plate)) samples 0
    counted-by-steps k a c =
        ap₂ (λ (x y : ℕ). record { additions = x; comparisons = y }) (a ∙ sym additions-are-branches) (c ∙ sym comparisons-are-entering-less-one)
