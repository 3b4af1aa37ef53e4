-- The pass over the depths leaves the profile of the plate rows.
use lib.Dec.{leb, ltb}
use lib.ListN.{get_or, length, length-set, replicate, set, take}
use lib.Seq.{get_or-set_other, get_or-set_same, get_or-take, length-take-le}
use mathlib.Core.Bool.{◌&&◌}
use mathlib.Core.List.{List}
use mathlib.Core.Path.{ap, refl, subst, sym, ◌∙◌, ◌≡◌}
use native.Mathlib.Decide.{dec_lt, ℕ_discrete}
use native.Mathlib.Numerals.{add-one}
use native.Mathlib.Omega.{arith}
use Prim.Native.Nat.{◌+◌, ◌-◌, ◌<◌, ◌^◌, suc, zero, ℕ, ◌≤◌}
use Rattle.plates.proofs.FirstOnesRise.{widen}
use Rattle.plates.proofs.LastOnesParted.{one_below}
use Rattle.plates.proofs.LiveCounted.{count-le, count_same, live-none, live-step}
use Rattle.plates.proofs.TableFilled.{zeros-at}
use Rattle.plates.specs.Profile.{live, live_at}
use Rattle.plates.specs.Profiling.{Balanced, Marks, Tallied, runs}
use Rattle.plates.specs.Reducing.{PlateRows}
use Rattle.words.proofs.Ends.{first-one-is, last-one-is, some-pos}
use Rattle.words.proofs.Span.{zero_one}
use Rattle.words.specs.Choice.{count}
use Rattle.words.specs.Ends.{FirstOne, LastOne, first, firsts, last, lasts}
use Rattle.words.specs.Span.{First, Last}
use Rattle.words.specs.Word.{bit}

-- ---- what plate rows in a table have

module _ {t : List ℕ} {n k : ℕ} (s : PlateRows t n k) where
  taken-length : length (take k t) ≡ k
  taken-length = length-take-le k t (omega (arith, s.table.size, s.table.few))

  taken-row : (j : ℕ) → j < k → get_or (take k t) j 0 ≡ get_or t j 0
  taken-row j h = get_or-take k t j 0 h

  begins : (j : ℕ) → j < k → First (get_or t j 0) (firsts t j)
  begins j h = subst (λ (x : ℕ). First x (first x)) (taken-row j h) (s.reduced.spans.first j (omega (arith, taken-length)))

  ends : (j : ℕ) → j < k → Last (get_or t j 0) (lasts t j)
  ends j h = subst (λ (x : ℕ). Last x (last x)) (taken-row j h) (s.reduced.spans.last j (omega (arith, taken-length)))

  wide : (j : ℕ) → get_or t j 0 < 2 ^ 64
  wide = (widen s.table).narrow

  some : (j : ℕ) → j < k → 0 < get_or t j 0
  some j h = some-pos (get_or t j 0) (firsts t j) (begins j h).one

  pub widen-rows : PlateRows t 64 k
  widen-rows = record { table = widen s.table; reduced = s.reduced }

  -- where `first_one` and `last_one` find the ends of a row
  pub first-there : {j r : ℕ} → j < k → FirstOne (get_or t j 0) r → (r ≡ firsts t j) × (r < 64)
  first-there {j} {r} h f = let e : r ≡ firsts t j = first-one-is (some j h) (wide j) f in (e, one_below 64 (wide j) (f.some (some j h)).one)

  pub last-there : {j r : ℕ} → j < k → LastOne (get_or t j 0) r → (r ≡ lasts t j) × (r < 64)
  last-there {j} {r} h f = let e : r ≡ lasts t j = last-one-is (some j h) (wide j) f in (e, one_below 64 (wide j) (f.some (some j h)).one)

  -- no two rows begin, or end, at one position
  pub heads-fresh : {j : ℕ} → j < k → (i : ℕ) → i < j → firsts t i ≡ firsts t j → ⊥
  heads-fresh {j} h i l e =
      let r : firsts (take k t) i < firsts (take k t) j = s.reduced.spans.rising i j l (omega (arith, taken-length)) in
      omega (arith, ap first (taken-row i (omega arith)), ap first (taken-row j h))

  pub ends_fresh : {j : ℕ} → j < k → (i : ℕ) → i < j → lasts t i ≡ lasts t j → ⊥
  ends_fresh {j} h i l e =
      let r : i ≡ j = s.reduced.spans.apart i j (omega (arith, taken-length)) (omega (arith, taken-length)) (ap last (taken-row i (omega arith)) ∙ e ∙ ap last (sym (taken-row j h))) in
      omega arith

  begin-end : (j : ℕ) → j < k → firsts t j ≤ lasts t j
  begin-end j h = go (dec_lt (lasts t j) (firsts t j))
    where
      go : Dec (lasts t j < firsts t j) → firsts t j ≤ lasts t j
      go (yes b) = absurd (zero_one ((begins j h).zeros (lasts t j) b) (ends j h).one)
      go (no b) = omega arith

  -- the live rows counted in the table are those of the plate rows
  pub live-rows : (d : ℕ) → live_at (take k t) d ≡ count k (live (firsts t) (lasts t) d)
  live-rows d =
      ap (λ (x : ℕ). count x (live (firsts (take k t)) (lasts (take k t)) d)) taken-length
      ∙ count_same k (live (firsts (take k t)) (lasts (take k t)) d) (live (firsts t) (lasts t) d) (λ j h. ap (λ (x : ℕ). ltb (first x) d && leb d (last x)) (taken-row j h))

  -- one depth further
  pub live-next : (d : ℕ) {h e : ℕ} → Marks (firsts t) k h → Marks (lasts t) k e
      → count k (live (firsts t) (lasts t) (suc d)) + bit e d ≡ count k (live (firsts t) (lasts t) d) + bit h d
  live-next d {h} {e} mh me = omega (arith, me.at d, live-step k (firsts t) (lasts t) begin-end d, mh.at d)

  -- so the marks count the live rows
  runs-live : {h e : ℕ} → Marks (firsts t) k h → Marks (lasts t) k e → (d : ℕ) → runs h e d ≡ count k (live (firsts t) (lasts t) d)
  unfolding runs
  runs-live mh me zero = sym (live-none k (firsts t) (lasts t))
  runs-live mh me (suc d) = omega (arith, runs-live mh me d, live-next d mh me)

  pub marks-balanced : {h e : ℕ} → Marks (firsts t) k h → Marks (lasts t) k e → Balanced h e n
  marks-balanced mh me = record {
    short = s.table.short;
    enough = λ d l. omega (arith, runs-live mh me d, live-next d mh me);
    few = λ d l. omega (arith, runs-live mh me d, count-le k (live (firsts t) (lasts t) d), s.table.few);
  }

  -- and the entries are those of the profile
  pub live-tallied : {h e : ℕ} {p : List ℕ} → Marks (firsts t) k h → Marks (lasts t) k e → Tallied h e n p → (d : ℕ) → d ≤ n → get_or p d 0 ≡ live_at (take k t) d
  live-tallied mh me q d l = q.here d l ∙ runs-live mh me d ∙ sym (live-rows d)

-- ---- the pass: the entries up to depth d are counted, and `now` rows are live

pub record Passed (heads ends : ℕ) (p : List ℕ) (now d : ℕ) : Type 0 where
  pub entries : length p ≡ 65
  pub live_now : now ≡ runs heads ends d
  pub here : (i : ℕ) → i ≤ d → get_or p i 0 ≡ runs heads ends i
  pub rest : (i : ℕ) → d < i → get_or p i 0 ≡ 0

pub passed_start : {heads ends : ℕ} {p : List ℕ} → p ≡ replicate 65 0 → Passed heads ends p 0 0
unfolding runs
passed_start {heads} {ends} {p} e = record {
  entries = ap length e;
  live_now = refl;
  here = λ i h. (let z : 0 ≡ i = omega arith in zero-there i ∙ ap (runs heads ends) z);
  rest = λ i h. zero-there i;
}
  where
    zero-there : (i : ℕ) → get_or p i 0 ≡ 0
    zero-there i = ap (λ (x : List ℕ). get_or x i 0) e ∙ zeros-at 65 i

-- one depth further
runs-next : (heads ends d : ℕ) → runs heads ends (d + 1) ≡ runs heads ends d + bit heads d - bit ends d
unfolding runs
runs-next heads ends d = ap (runs heads ends) (add-one d)

pub passed_on : {heads ends n now next d : ℕ} {p : List ℕ} → n ≤ 64 → d < n → Passed heads ends p now d → next ≡ now + bit heads d - bit ends d
    → Passed heads ends (set p (d + 1) next) next (d + 1)
passed_on {heads} {ends} {n} {now} {next} {d} {p} short l a q = record {
  entries = length-set p (d + 1) next ∙ a.entries;
  live_now = is-next;
  here = λ i b. at i b (ℕ_discrete i (d + 1));
  rest = λ i b. get_or-set_other p (d + 1) i next 0 (λ z. omega arith) ∙ a.rest i (omega arith);
}
  where
    is-next : next ≡ runs heads ends (d + 1)
    is-next = omega (arith, a.live_now, runs-next heads ends d)

    at : (i : ℕ) → i ≤ d + 1 → Dec (i ≡ d + 1) → get_or (set p (d + 1) next) i 0 ≡ runs heads ends i
    at i b (yes z) = ap (λ (x : ℕ). get_or (set p (d + 1) next) x 0) z ∙ get_or-set_same p (d + 1) next 0 (omega (arith, a.entries)) ∙ is-next ∙ ap (runs heads ends) (sym z)
    at i b (no z) = get_or-set_other p (d + 1) i next 0 z ∙ a.here i (omega arith)

-- what `next_live` asks, and that its answer fits a byte
pub next-ready : {heads ends n now d : ℕ} {p : List ℕ} → Balanced heads ends n → d < n → Passed heads ends p now d → (now ≤ 64) × (bit ends d ≤ now + bit heads d)
next-ready {d = d} s l a = (omega (arith, a.live_now, s.few d (omega arith)), omega (arith, a.live_now, s.enough d l))

pub next_fits : {heads ends n now next d : ℕ} {p : List ℕ} → Balanced heads ends n → d < n → Passed heads ends p now d → next ≡ now + bit heads d - bit ends d → next ≤ 64
next_fits {heads} {ends} {d = d} s l a q = omega (arith, a.live_now, runs-next heads ends d, s.few (d + 1) (omega arith))

pub passed-end : {heads ends n now d : ℕ} {p : List ℕ} → d ≤ n → n ≤ d → Passed heads ends p now d → Tallied heads ends n p
passed-end l m a = record { entries = a.entries; here = λ i h. a.here i (omega arith); unused = λ i h. a.rest i (omega arith) }
