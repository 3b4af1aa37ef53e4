-- Our states: where their branches lead, that each has a way to the end, and that no two have the same branches.
use Rattle.std.proofs.Common.{Ok, Option, Some, None}
use borrow.Author.Tests.{eq-eqb}
use lib.Bits.{bit_xor, differ, xor_lt}
use lib.Dec.{T}
use lib.ListN.{get_or, length}
use mathlib.Core.List.{List}
use mathlib.Core.Logic.{inl, inr, ◌⊎◌}
use mathlib.Core.Path.{ap, refl, subst, sym, ◌∙◌, ◌≡◌}
use native.Mathlib.Decide.{dec_lt}
use native.Mathlib.Omega.{arith}
use Prim.Native.Nat.{◌%◌, ◌*◌, ◌+◌, ◌/◌, ◌<◌, ◌^◌, suc, zero, ℕ, ◌≤◌}
use Rattle.plates.proofs.Live.{is_live, live_is}
use Rattle.plates.proofs.SoundIsPrepared.{prepared}
use Rattle.plates.specs.declared.Plate.{Plate}
use Rattle.plates.specs.Prepare.{rows_of}
use Rattle.plates.specs.Profile.{live, live_at}
use Rattle.plates.specs.Sound.{Sound}
use Rattle.trellises.proofs.Active.{active-is, is-active}
use Rattle.trellises.proofs.BranchDetermined.{next-determined}
use Rattle.trellises.proofs.MaskedGraph.{has-off, xor-twice}
use Rattle.trellises.proofs.NextIsBranch.{next-branches}
use Rattle.trellises.proofs.PathsOnce.{nth-branch}
use Rattle.trellises.proofs.PlateTrellis.{plate-spans, plate-spells}
use Rattle.trellises.specs.Branching.{Branches, code_trellis}
use Rattle.trellises.specs.Following.{next_of}
use Rattle.trellises.specs.Graph.{Branch, Has}
use Rattle.trellises.specs.Masking.{turned}
use Rattle.trellises.specs.Numbers.{bit_of}
use Rattle.trellises.specs.SectionOf.{section_of}
use Rattle.trellises.specs.States.{active, state_of, trellis}
use Rattle.words.proofs.Choice.{gather-lt, gather-same, gather-shows, spread-gather, spread-zero}
use Rattle.words.proofs.Span.{zero-from}
use Rattle.words.proofs.Sums.{sum-agree, sum-xor, sum-zero}
use Rattle.words.proofs.Word.{bit-lt, bit-same, bit-xor, bit-zero, differ_self}
use Rattle.words.specs.Choice.{gather, spread}
use Rattle.words.specs.Ends.{firsts, lasts}
use Rattle.words.specs.Span.{Spans}
use Rattle.words.specs.Sum.{sum_of}
use Rattle.words.specs.Word.{bit}
use Rattle.judging.specs.Ours.{follows, number_of, ours}
use Rattle.judging.specs.Ways.{Leads, Way}

-- ---- two choices of rows with the same bit and the same next state have the same state

module _ (rows : List ℕ) (f l : ℕ → ℕ) (s : Spans rows f l) (t x y : ℕ)
    (same_bit : bit (sum_of rows x) t ≡ bit (sum_of rows y) t) (same_next : state_of rows f l (suc t) x ≡ state_of rows f l (suc t) y) where
  -- where they differ, among the active rows
  m : ℕ
  m = spread (length rows) (active f l t) (gather (length rows) (active f l t) (bit_xor x y))

  on : (j : ℕ) → j < length rows → T (active f l t j) → bit m j ≡ bit (bit_xor x y) j
  unfolding m
  on j k a = spread-gather (length rows) (active f l t) (bit_xor x y) j k a

  off : (j : ℕ) → j < length rows → (T (active f l t j) → ⊥) → bit m j ≡ 0
  unfolding m
  off j k a = spread-zero (length rows) (active f l t) (gather (length rows) (active f l t) (bit_xor x y)) j k a

  -- a row that goes on is taken by both or by neither
  goes_on : (j : ℕ) → j < length rows → f j ≤ t → t < l j → bit (bit_xor x y) j ≡ 0
  goes_on j k a b =
      bit-xor j x y
      ∙ ap (λ (d : ℕ). differ d (bit y j)) (gather-shows (length rows) (live f l (suc t)) x y same_next j k (is_live f l (suc t) j (omega arith) (omega arith)))
      ∙ differ_self (bit y j)

  decide : (j : ℕ) → Dec (t < f j) → Dec (l j < t) → (T (active f l t j)) ⊎ (T (active f l t j) → ⊥)
  decide j (yes a) b = inr (λ q. omega (arith, (active-is f l t j q).0))
  decide j (no a) (yes b) = inr (λ q. omega (arith, (active-is f l t j q).1))
  decide j (no a) (no b) = inl (is-active f l t j (omega arith) (omega arith))

  -- from t on their difference among the active rows has nothing
  nothing : (i : ℕ) → t ≤ i → bit (sum_of rows m) i ≡ 0
  nothing i h = go (dec_lt t i)
    where
      later : t < i → (j : ℕ) → j < length rows → (T (active f l t j)) ⊎ (T (active f l t j) → ⊥) → (bit (get_or rows j 0) i ≡ 0) ⊎ (bit m j ≡ bit 0 j)
      later d j k (inr q) = inr (off j k q ∙ sym (bit-zero j))
      later d j k (inl q) = side (dec_lt t (l j))
        where
          side : Dec (t < l j) → (bit (get_or rows j 0) i ≡ 0) ⊎ (bit m j ≡ bit 0 j)
          side (yes b) = inr (on j k q ∙ goes_on j k (active-is f l t j q).0 b ∙ sym (bit-zero j))
          side (no b) = inl ((s.last j k).zeros i (omega arith))

      here : (j : ℕ) → j < length rows → (T (active f l t j)) ⊎ (T (active f l t j) → ⊥) → (bit (get_or rows j 0) t ≡ 0) ⊎ (bit m j ≡ bit (bit_xor x y) j)
      here j k (inl q) = inr (on j k q)
      here j k (inr q) = inl (outside (dec_lt t (f j)) (dec_lt (l j) t))
        where
          outside : Dec (t < f j) → Dec (l j < t) → bit (get_or rows j 0) t ≡ 0
          outside (yes a) b = (s.first j k).zeros t a
          outside (no a) (yes b) = (s.last j k).zeros t b
          outside (no a) (no b) = absurd (q (is-active f l t j (omega arith) (omega arith)))

      go : Dec (t < i) → bit (sum_of rows m) i ≡ 0
      go (yes d) = sum-agree rows i m 0 (λ j k. later d j k (decide j (dec_lt t (f j)) (dec_lt (l j) t))) ∙ ap (λ (w : ℕ). bit w i) (sum-zero rows) ∙ bit-zero i
      go (no d) =
          let e : t ≡ i = omega arith in
          subst (λ (i : ℕ). bit (sum_of rows m) i ≡ 0) e
          (sum-agree rows t m (bit_xor x y) (λ j k. here j k (decide j (dec_lt t (f j)) (dec_lt (l j) t)))
          ∙ ap (λ (w : ℕ). bit w t) (sum-xor rows x y) ∙ bit-xor t (sum_of rows x) (sum_of rows y)
          ∙ ap (λ (d : ℕ). differ d (bit (sum_of rows y) t)) same_bit ∙ differ_self (bit (sum_of rows y) t))

  pub same-state : state_of rows f l t x ≡ state_of rows f l t y
  same-state =
      gather-same (length rows) (live f l t) x y (λ j k a.
      let b = live_is f l t j a in
      bit-same x y j (sym (on j k (is-active f l t j (omega (arith, b.0)) b.1)) ∙ zero-from rows f l s m t nothing j k b.1))

-- the rows that a branch takes
branch-parts : (rows : List ℕ) (f l : ℕ → ℕ) → Spans rows f l → (t a b c : ℕ) → Has (trellis rows f l) t a b c
    → (x : ℕ) × (state_of rows f l t x ≡ a) × (bit (sum_of rows x) t ≡ b) × (state_of rows f l (suc t) x ≡ c)
branch-parts rows f l s t a b c h =
    let e = nth-branch rows f l s t h.place h.there in (
      spread (length rows) (active f l t) h.place,
      ap (λ (x : Branch). x.from) (sym e) ∙ h.leaves,
      ap (λ (x : Branch). x.out) (sym e) ∙ h.spells,
      ap (λ (x : Branch). x.to) (sym e) ∙ h.leads,
    )

-- ---- the states of a sound plate

module _ {plate : Plate} (s : Sound plate) where
  spans : Spans (rows_of plate) (firsts (rows_of plate)) (lasts (rows_of plate))
  spans = plate-spans plate (prepared s)

  -- the code's branch
  own : {t a b c : ℕ} → Has (ours (rows_of plate) plate.mask) t a b c → Has (code_trellis plate) t a (turned (bit plate.mask t) b) c
  own h = has-off plate.mask (code_trellis plate) h

  -- a branch leads to a state of the next depth
  pub our-inside : (t a b c : ℕ) → Has (ours (rows_of plate) plate.mask) t a b c → c < 2 ^ live_at (rows_of plate) (suc t)
  our-inside t a b c h =
      subst (λ (x : ℕ). x < 2 ^ live_at (rows_of plate) (suc t))
      (sym (ap (λ (b : Branch). b.to) (nth-branch (rows_of plate) _ _ spans t (own h).place (own h).there)) ∙ (own h).leads)
      (gather-lt (length (rows_of plate)) _ _)

  pub one-start : 2 ^ live_at (rows_of plate) 0 ≡ 1
  one-start = (plate-spells plate (prepared s)).start

  pub one_end : 2 ^ live_at (rows_of plate) plate.n ≡ 1
  one_end = (plate-spells plate (prepared s)).end

  module _ (t : ℕ) (h : t < plate.n) where
    -- by what the branch asked for is answered
    by_next : (a b : ℕ) → a < 2 ^ live_at (rows_of plate) t → b ≤ 1 → (N : Option ℕ) → Branches plate t a b (Ok N) → Leads (ours (rows_of plate) plate.mask) t (suc a) b (number_of N)
    by_next a b l m (Some z) x = record {
      none = λ e. absurd (omega (arith, e));
      all = λ v k e q.
          let i : a ≡ v = omega (arith, e) in
          ap suc (next-determined (rows_of plate) _ _ spans t a _ z k (own x.1) (own (subst (λ (y : ℕ). Has (ours (rows_of plate) plate.mask) t y b k) (sym i) q)));
      some = λ k e. let i : z ≡ k = omega (arith, e) in (a, refl, subst (Has (ours (rows_of plate) plate.mask) t a b) i x.1);
    }
    by_next a b l m None x = record {
      none = λ e. absurd (omega (arith, e));
      all = λ v k e q. let i : a ≡ v = omega (arith, e) in absurd (x.1 k (subst (λ (y : ℕ). Has (ours (rows_of plate) plate.mask) t y b k) (sym i) q));
      some = λ k e. absurd (omega (arith, e));
    }

    -- where our branches lead: the bit of the code's branch is the mask's added
    pub our-leads : (y b : ℕ) → y ≤ 2 ^ live_at (rows_of plate) t → b < 2
        → Leads (ours (rows_of plate) plate.mask) t y b (follows (section_of (rows_of plate) t) y (bit_xor b (bit plate.mask t)))
    our-leads zero b l m = record { none = λ e. refl; all = λ v k e q. absurd (omega (arith, e)); some = λ k e. absurd (omega (arith, e)) }
    our-leads (suc a) b l m =
        by_next a b (omega arith) (omega arith) (next_of (section_of (rows_of plate) t) a (bit_xor b (bit plate.mask t)))
        (next-branches plate s t a b h (omega arith) (omega arith))

    -- the same by the bit of the code's branch
    pub code-leads : (y b : ℕ) → y ≤ 2 ^ live_at (rows_of plate) t → b < 2
        → Leads (ours (rows_of plate) plate.mask) t y (bit_xor b (bit plate.mask t)) (follows (section_of (rows_of plate) t) y b)
    code-leads y b l m =
        subst (λ (d : ℕ). Leads (ours (rows_of plate) plate.mask) t y (bit_xor b (bit plate.mask t)) (follows (section_of (rows_of plate) t) y d))
        (xor-twice b (bit plate.mask t)) (our-leads y (bit_xor b (bit plate.mask t)) l (xor_lt 1 b (bit plate.mask t) m (bit-lt t plate.mask)))

    pub our-small : (y b : ℕ) → y ≤ 2 ^ live_at (rows_of plate) t → b < 2 → follows (section_of (rows_of plate) t) y b ≤ 2 ^ live_at (rows_of plate) (suc t)
    our-small y b l m = go (follows (section_of (rows_of plate) t) y b) refl
      where
        go : (z : ℕ) → follows (section_of (rows_of plate) t) y b ≡ z → z ≤ 2 ^ live_at (rows_of plate) (suc t)
        go zero e = omega arith
        go (suc k) e = let x = (code-leads y b l m).some k e in omega (arith, our-inside t x.0 _ k x.2)

    -- each state has a branch
    pub our-branch : (a : ℕ) → follows (section_of (rows_of plate) t) (suc a) (bit_of (section_of (rows_of plate) t) a) ≡ 0 → ⊥
    our-branch a e = let c = section_of (rows_of plate) t in omega (arith, rw (eq-eqb (bit_of c a) (bit_of c a) refl) at e)

    -- and no two have the same
    pub our-apart : (a a' : ℕ) → a < 2 ^ live_at (rows_of plate) t → a' < 2 ^ live_at (rows_of plate) t
        → ((b : ℕ) → b < 2 → follows (section_of (rows_of plate) t) (suc a) b ≡ follows (section_of (rows_of plate) t) (suc a') b) → a ≡ a'
    our-apart a a' l l' same = go (follows (section_of (rows_of plate) t) (suc a) (bit_of (section_of (rows_of plate) t) a)) refl
      where
        two : bit_of (section_of (rows_of plate) t) a < 2
        two = omega arith

        go : (z : ℕ) → follows (section_of (rows_of plate) t) (suc a) (bit_of (section_of (rows_of plate) t) a) ≡ z → a ≡ a'
        go zero e = absurd (our-branch a e)
        go (suc k) e =
            let b = bit_of (section_of (rows_of plate) t) a in
            let x = (code-leads (suc a) b (omega arith) two).some k e in
            let y = (code-leads (suc a') b (omega arith) two).some k (sym (same b two) ∙ e) in
            let p = branch-parts (rows_of plate) _ _ spans t x.0 _ k (own x.2) in
            let q = branch-parts (rows_of plate) _ _ spans t y.0 _ k (own y.2) in
            let m : x.0 ≡ y.0 = sym p.1 ∙ same-state (rows_of plate) _ _ spans t p.0 q.0 (p.2 ∙ sym q.2) (p.3 ∙ sym q.3) ∙ q.1 in
            omega (arith, x.1, y.1, m)

  -- each state has a way to the end
  pub our-way : (d t a : ℕ) → t + d ≡ plate.n → a < 2 ^ live_at (rows_of plate) t → (w : ℕ) × Way (ours (rows_of plate) plate.mask) d t a w
  our-way zero t a e l =
      let q : t ≡ plate.n = omega arith in
      (0, (omega (arith, subst (λ (t : ℕ). a < 2 ^ live_at (rows_of plate) t) q l, one_end), refl))
  our-way (suc d) t a e l =
      go (λ k m. our-way d (suc t) k (omega arith) m) (follows (section_of (rows_of plate) t) (suc a) (bit_of (section_of (rows_of plate) t) a)) refl
    where
      two : bit_of (section_of (rows_of plate) t) a < 2
      two = omega arith

      go : ((k : ℕ) → k < 2 ^ live_at (rows_of plate) (suc t) → (w : ℕ) × Way (ours (rows_of plate) plate.mask) d (suc t) k w) → (z : ℕ)
          → follows (section_of (rows_of plate) t) (suc a) (bit_of (section_of (rows_of plate) t) a) ≡ z → (w : ℕ) × Way (ours (rows_of plate) plate.mask) (suc d) t a w
      go more zero q = absurd (our-branch t (omega arith) a q)
      go more (suc k) q =
          let b : ℕ = bit_xor (bit_of (section_of (rows_of plate) t) a) (bit plate.mask t) in
          let small : b < 2 = xor_lt 1 (bit_of (section_of (rows_of plate) t) a) (bit plate.mask t) two (bit-lt t plate.mask) in
          let x = (code-leads t (omega arith) (suc a) (bit_of (section_of (rows_of plate) t) a) (omega arith) two).some k q in
          let i : x.0 ≡ a = omega (arith, x.1) in
          let h : Has (ours (rows_of plate) plate.mask) t a b k = subst (λ (y : ℕ). Has (ours (rows_of plate) plate.mask) t y b k) i x.2 in
          let r = more k (our-inside t a b k h) in
          let e0 : b ≡ (r.0 * 2 + b) % 2 = omega (arith, small) in
          let e1 : r.0 ≡ (r.0 * 2 + b) / 2 = omega (arith, small) in (
            r.0 * 2 + b,
            (k, subst (λ (y : ℕ). Has (ours (rows_of plate) plate.mask) t a y k) e0 h, subst (Way (ours (rows_of plate) plate.mask) d (suc t) k) e1 r.1),
          )
