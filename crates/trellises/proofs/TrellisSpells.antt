-- The trellis of plate rows spells exactly the sums of the rows. This asks nothing of where the rows' last ones are, but that they are kept
-- so long.
use lib.Dec.{T, ltb, ltb→lt, lt→ltb}
use lib.ListN.{get_or, length}
use mathlib.Core.Bool.{Bool, false, true}
use mathlib.Core.List.{List}
use mathlib.Core.Logic.{inl, inr, ◌⊎◌}
use mathlib.Core.Path.{ap, refl, subst, sym, ◌∙◌, ◌≡◌}
use native.Mathlib.Decide.{dec_lt}
use native.Mathlib.Nat.{le_refl}
use native.Mathlib.Omega.{arith}
use Prim.Native.Nat.{◌%◌, ◌*◌, ◌+◌, ◌/◌, ◌<◌, ◌^◌, suc, zero, ℕ, ◌≤◌}
use Rattle.plates.proofs.Live.{is_live, live_is}
use Rattle.plates.specs.Profile.{live}
use Rattle.trellises.proofs.Active.{is-active}
use Rattle.trellises.specs.Graph.{Branch, Has, Path, Spells, branch_at, no_branch}
use Rattle.trellises.specs.States.{active, branch_of, state_of, table, trellis}
use Rattle.words.proofs.Choice.{count_none, gather-lt, gather-same, gather-shows, spread-gather}
use Rattle.words.proofs.Sums.{all-zero, sum-agree}
use Rattle.words.proofs.Word.{below-bits, below-ext, half}
use Rattle.words.specs.Choice.{count, gather, spread}
use Rattle.words.specs.Span.{Before, Leads, Spans}
use Rattle.words.specs.Sum.{IsSum, sum_of}
use Rattle.words.specs.Word.{bit}

-- ---- the bits of u where the test passes, and of v elsewhere

abbrev sel : Bool → ℕ → ℕ → ℕ
sel true a b = a
sel false a b = b

mix : ℕ → (ℕ → Bool) → ℕ → ℕ → ℕ
mix zero P u v = 0
mix (suc k) P u v = mix k (λ j. P (suc j)) (u / 2) (v / 2) * 2 + sel (P 0) (u % 2) (v % 2)

sel-lt : (b : Bool) (x y : ℕ) → x < 2 → y < 2 → sel b x y < 2
sel-lt true x y hx hy = hx
sel-lt false x y hx hy = hy

bit-mix : (k : ℕ) (P : ℕ → Bool) (u v j : ℕ) → j < k → bit (mix k P u v) j ≡ sel (P j) (bit u j) (bit v j)
unfolding mix
bit-mix zero P u v j h = absurd (omega arith)
bit-mix (suc k) P u v zero h =
    let d = sel-lt (P 0) (u % 2) (v % 2) (omega arith) (omega arith) in omega arith
bit-mix (suc k) P u v (suc j) h =
    ap (λ (x : ℕ). bit x j) (half (mix k (λ j. P (suc j)) (u / 2) (v / 2)) (sel (P 0) (u % 2) (v % 2)) (sel-lt (P 0) (u % 2) (v % 2) (omega arith) (omega arith)))
    ∙ bit-mix k (λ j. P (suc j)) (u / 2) (v / 2) j (omega arith)

pub table-length : (n : ℕ) (F : ℕ → Branch) → length (table n F) ≡ n
table-length zero F = refl
table-length (suc n) F = ap suc (table-length n (λ i. F (suc i)))

pub table_at : (n : ℕ) (F : ℕ → Branch) (i : ℕ) → i < n → get_or (table n F) i no_branch ≡ F i
table_at zero F i h = absurd (omega arith)
table_at (suc n) F zero h = refl
table_at (suc n) F (suc i) h = table_at n (λ i. F (suc i)) i (omega arith)

-- the test at j passes, or fails: sel gives u's bit or v's
sel-true : (a b x y : ℕ) → a < b → sel (ltb a b) x y ≡ x
sel-true a b x y h = go (ltb a b) (lt→ltb a b h)
  where
    go : (c : Bool) → T c → sel c x y ≡ x
    go true t = refl
    go false t = absurd t

sel-false : (a b x y : ℕ) → b ≤ a → sel (ltb a b) x y ≡ y
sel-false a b x y h = go (ltb a b) (λ t. omega (arith, ltb→lt a b t))
  where
    go : (c : Bool) → (T c → ⊥) → sel c x y ≡ y
    go true n = absurd (n tt)
    go false n = refl

-- rows that are kept from their first ones, at f, to l: they are zero behind it, whether or not they have their last ones there
pub record Kept (rows : List ℕ) (f l : ℕ → ℕ) : Type 0 where
  pub first : Leads Before rows f
  pub rising : (i j : ℕ) → i < j → j < length rows → f i < f j
  pub behind : (j : ℕ) → j < length rows → (i : ℕ) → l j < i → bit (get_or rows j 0) i ≡ 0

pub spans-kept : {rows : List ℕ} {f l : ℕ → ℕ} → Spans rows f l → Kept rows f l
spans-kept s = record { first = s.first; rising = s.rising; behind = λ j k. (s.last j k).zeros }

module _ (n : ℕ) (rows : List ℕ) (f l : ℕ → ℕ) (s : Kept rows f l) (fit : (j : ℕ) → j < length rows → l j < n) where
  -- a row has 0 in a section where it is not active
  asleep : (t j : ℕ) → j < length rows → {A : Type 0} → (f j ≤ t → t ≤ l j → A) → (bit (get_or rows j 0) t ≡ 0) ⊎ A
  asleep t j k {A} yes-then = go (dec_lt t (f j)) (dec_lt (l j) t)
    where
      go : Dec (t < f j) → Dec (l j < t) → (bit (get_or rows j 0) t ≡ 0) ⊎ A
      go (yes a) b = inl ((s.first j k).zeros t a)
      go (no a) (yes b) = inl (s.behind j k t b)
      go (no a) (no b) = inr (yes-then (omega arith) (omega arith))

  below : (u : ℕ) → sum_of rows u < 2 ^ n
  below u = below-bits n (sum_of rows u) (λ i h. all-zero rows i (λ j k. s.behind j k i (omega (arith, fit j k))) u)

  -- the rows that branch v of section t takes
  abbrev X : ℕ → ℕ → ℕ
  X t v = spread (length rows) (active f l t) v

  pub own-branches : (t : ℕ) → length ((trellis rows f l).branches t) ≡ 2 ^ count (length rows) (active f l t)
  own-branches t = table-length (2 ^ count (length rows) (active f l t)) (λ v. branch_of rows f l t (X t v))

  own-branch : (t v : ℕ) → v < 2 ^ count (length rows) (active f l t) → branch_at (trellis rows f l) t v ≡ branch_of rows f l t (X t v)
  own-branch t v h = table_at (2 ^ count (length rows) (active f l t)) (λ v. branch_of rows f l t (X t v)) v h

  -- ---- each codeword has its path: at depth t the live rows that it takes

  path : (u : ℕ) → Path (trellis rows f l) n (sum_of rows u)
  path u = record {
    state = λ t. state_of rows f l t u;
    inside = λ t h. gather-lt (length rows) (live f l t) u;
    branch = λ t h. has t;
  }
    where
      has : (t : ℕ) → Has (trellis rows f l) t (state_of rows f l t u) (bit (sum_of rows u) t) (state_of rows f l (suc t) u)
      has t =
          let v : ℕ = gather (length rows) (active f l t) u in
          let h : v < 2 ^ count (length rows) (active f l t) = gather-lt (length rows) (active f l t) u in
          let e : branch_at (trellis rows f l) t v ≡ branch_of rows f l t (X t v) = own-branch t v h in
          let a : (j : ℕ) → j < length rows → f j ≤ t → t ≤ l j → bit (X t v) j ≡ bit u j =
          λ j k p q. spread-gather (length rows) (active f l t) u j k (is-active f l t j p q) in
          record {
            place = v;
            there = subst (λ (z : ℕ). v < z) (sym (own-branches t)) h;
            leaves = ap (λ (b : Branch). b.from) e ∙ gather-same (length rows) (live f l t) _ u (λ j k m. a j k (omega (arith, live_is f l t j m)) (live_is f l t j m).1);
            spells = ap (λ (b : Branch). b.out) e ∙ sum-agree rows t _ u (λ j k. asleep t j k (a j k));
            leads = ap (λ (b : Branch). b.to) e ∙ gather-same (length rows) (live f l (suc t)) _ u (λ j k m. a j k (omega (arith, live_is f l (suc t) j m)) (omega (arith, live_is f l (suc t) j m)));
          }

  -- ---- each path spells a codeword

  module _ (w : ℕ) (p : Path (trellis rows f l) n w) where
    -- the rows that the branch of section t takes
    taken : (t : ℕ) → t < n → (x : ℕ) × (state_of rows f l t x ≡ p.state t) × (bit (sum_of rows x) t ≡ bit w t) × (state_of rows f l (suc t) x ≡ p.state (suc t))
    taken t h =
        let b = p.branch t h in
        let e = own-branch t b.place (subst (λ (z : ℕ). b.place < z) (own-branches t) b.there) in (
          X t b.place,
          ap (λ (b : Branch). b.from) (sym e) ∙ b.leaves,
          ap (λ (b : Branch). b.out) (sym e) ∙ b.spells,
          ap (λ (b : Branch). b.to) (sym e) ∙ b.leads,
        )

    -- a choice of rows that goes with the path up to depth t
    up_to : (t : ℕ) → t ≤ n → (u : ℕ) × ((i : ℕ) → i < t → bit (sum_of rows u) i ≡ bit w i) × (gather (length rows) (live f l t) u ≡ p.state t)
    up_to zero h = (
      0,
      (λ i m. absurd (omega arith)),
      omega (arith, gather-lt (length rows) (live f l 0) 0, p.inside 0 h, ap (λ (x : ℕ). 2 ^ x) (count_none (length rows) (live f l 0) (λ j k a. omega (arith, live_is f l 0 j a)))),
    )
    up_to (suc t) h = step (up_to t (omega arith)) (taken t h)
      where
        step : ((u : ℕ) × ((i : ℕ) → i < t → bit (sum_of rows u) i ≡ bit w i) × (gather (length rows) (live f l t) u ≡ p.state t))
            → ((x : ℕ) × (gather (length rows) (live f l t) x ≡ p.state t) × (bit (sum_of rows x) t ≡ bit w t) × (gather (length rows) (live f l (suc t)) x ≡ p.state (suc t)))
            → (u : ℕ) × ((i : ℕ) → i < suc t → bit (sum_of rows u) i ≡ bit w i) × (gather (length rows) (live f l (suc t)) u ≡ p.state (suc t))
        step o x = (m, (λ i b. bits i b (dec_lt i t)), gather-same (length rows) (live f l (suc t)) m x.0 (λ j k a. same j k (omega (arith, live_is f l (suc t) j a)) (omega (arith, live_is f l (suc t) j a))) ∙ x.3)
          where
            m : ℕ
            m = mix (length rows) (λ j. ltb (f j) t) o.0 x.0

            old : (j : ℕ) → j < length rows → f j < t → bit m j ≡ bit o.0 j
            old j k a = bit-mix (length rows) (λ j. ltb (f j) t) o.0 x.0 j k ∙ sel-true (f j) t (bit o.0 j) (bit x.0 j) a

            new : (j : ℕ) → j < length rows → t ≤ f j → bit m j ≡ bit x.0 j
            new j k a = bit-mix (length rows) (λ j. ltb (f j) t) o.0 x.0 j k ∙ sel-false (f j) t (bit o.0 j) (bit x.0 j) a

            -- on the active rows it takes what the section's branch takes
            same : (j : ℕ) → j < length rows → f j ≤ t → t ≤ l j → bit m j ≡ bit x.0 j
            same j k a b = go (dec_lt (f j) t)
              where
                go : Dec (f j < t) → bit m j ≡ bit x.0 j
                go (yes c) = old j k c ∙ gather-shows (length rows) (live f l t) o.0 x.0 (o.2 ∙ sym x.1) j k (is_live f l t j c b)
                go (no c) = new j k (omega arith)

            bits : (i : ℕ) → i < suc t → Dec (i < t) → bit (sum_of rows m) i ≡ bit w i
            bits i b (yes c) = sum-agree rows i m o.0 (λ j k. asleep i j k (λ d e. old j k (omega arith))) ∙ o.1 i c
            bits i b (no c) =
                let e : t ≡ i = omega arith in
                subst (λ (i : ℕ). bit (sum_of rows m) i ≡ bit w i) e (sum-agree rows t m x.0 (λ j k. asleep t j k (same j k)) ∙ x.2)

    spelled : w < 2 ^ n → IsSum rows w
    spelled h = let u = up_to n (le_refl n) in record { by = u.0; sum = below-ext n (sum_of rows u.0) w (below u.0) h u.1 }

  pub trellis-spells : Spells (trellis rows f l) n (IsSum rows)
  trellis-spells = record {
    start = ap (λ (x : ℕ). 2 ^ x) (count_none (length rows) (live f l 0) (λ j k a. omega (arith, live_is f l 0 j a)));
    end = ap (λ (x : ℕ). 2 ^ x) (count_none (length rows) (live f l n) (λ j k a. omega (arith, live_is f l n j a, fit j k)));
    exact = λ w. ((λ g. subst (λ (x : ℕ). (x < 2 ^ n) × Path (trellis rows f l) n x) g.sum (below g.by, path g.by)), λ q. spelled w q.1 q.0);
  }
