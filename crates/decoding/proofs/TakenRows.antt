-- The rows taken on a way: the sum of those taken by depth t has the bit of their branch at t, and they make the state there.
use borrow.Author.Tests.{le-leb, lt-ltb, ne_eqb}
use lib.Bits.{bit_xor, xor_shifted, xor_zero_r, xor_comm}
use lib.Dec.{T, eqb}
use lib.ListN.{get_or, length}
use lib.Pow.{pow_mono}
use mathlib.Core.Bool.{◌&&◌, Bool, cond, false, not, true}
use mathlib.Core.List.{List, [], ◌∷◌}
use mathlib.Core.Logic.{inl, inr, ◌⊎◌}
use mathlib.Core.Path.{ap, ap₂, refl, subst, sym, ◌∙◌, ◌≡◌}
use native.Mathlib.Decide.{dec_lt}
use native.Mathlib.Nat.{lt_of_lt_of_le, one-mul, pow-suc}
use native.Mathlib.Omega.{arith}
use Prim.Native.Nat.{◌%◌, ◌*◌, ◌+◌, ◌/◌, ◌<◌, ◌^◌, suc, suc-le-suc, zero, zero-le, ℕ, ◌≤◌}
use Rattle.decoding.proofs.BegunRows.{begun-are, begun-few, begun-next, begun-row}
use Rattle.decoding.proofs.LiveMarks.{in_order}
use Rattle.decoding.specs.Backward.{branch_by, follow}
use Rattle.decoding.specs.LiveRows.{Taken, beginning_row, begun_before}
use Rattle.plates.proofs.Live.{live_is}
use Rattle.plates.specs.Profile.{live}
use Rattle.trellises.proofs.Active.{is-active}
use Rattle.trellises.proofs.OneBegins.{section-begins}
use Rattle.trellises.proofs.SectionAgrees.{chosen, live-count, section-agrees}
use Rattle.trellises.specs.declared.Section.{Section}
use Rattle.trellises.specs.Numbers.{bit_of, leads_to}
use Rattle.trellises.specs.SectionOf.{section_of}
use Rattle.trellises.specs.States.{active, state_of}
use Rattle.words.proofs.Choice.{count_none, gather-lt, gather-same, spread-gather}
use Rattle.words.proofs.Ends.{some-pos}
use Rattle.words.proofs.Sums.{sum-agree, sum-xor, sum-zero}
use Rattle.words.specs.Choice.{count, gather, more, pull}
use Rattle.words.specs.Ends.{firsts, lasts}
use Rattle.words.specs.Span.{Spans}
use Rattle.words.specs.Sum.{sum_of, taken}
use Rattle.words.specs.Word.{bit}

-- ---- digits gathered by two tests that agree below place n

pub gather_none : (k : ℕ) (P : ℕ → Bool) → gather k P 0 ≡ 0
gather_none zero P = refl
gather_none (suc k) P = go (P 0) (gather_none k (λ j. P (suc j)))
  where
    go : (b : Bool) {x : ℕ} → x ≡ 0 → pull b 0 x ≡ 0
    go true e = omega arith
    go false e = e

gather-few : (k : ℕ) (P Q : ℕ → Bool) (n u : ℕ) → u < 2 ^ n → ((j : ℕ) → j < n → P j ≡ Q j) → gather k P u ≡ gather k Q u
gather-few zero P Q n u h e = refl
gather-few (suc k) P Q zero u h e =
    let z : u ≡ 0 = omega arith in
    ap (gather (suc k) P) z ∙ gather_none (suc k) P ∙ sym (ap (gather (suc k) Q) z ∙ gather_none (suc k) Q)
gather-few (suc k) P Q (suc n) u h e =
    ap₂ (λ (b : Bool) (x : ℕ). pull b (u % 2) x) (e 0 (suc-le-suc zero-le))
    (gather-few k (λ j. P (suc j)) (λ j. Q (suc j)) n (u / 2) (omega (arith, pow-suc 2 n)) (λ j l. e (suc j) (suc-le-suc l)))

-- place n passes one test, and none from there on the other
gather-top : (k : ℕ) (P Q : ℕ → Bool) (n u : ℕ) → n < k → u < 2 ^ n → ((j : ℕ) → j < n → P j ≡ Q j) → P n ≡ true
    → ((j : ℕ) → n ≤ j → j < k → T (Q j) → ⊥) → gather k P (u + 2 ^ n) ≡ gather k Q u + 2 ^ count k Q
gather-top zero P Q n u l h e p q = absurd (omega arith)
gather-top (suc k) P Q zero u l h e p q =
    let z : u ≡ 0 = omega arith in
    let c : count (suc k) Q ≡ 0 = count_none (suc k) Q (λ j m. q j zero-le m) in
    let a : gather (suc k) P (0 + 1) ≡ 1 =
    ap (λ (b : Bool). pull b 1 (gather k (λ j. P (suc j)) 0)) p ∙ ap (λ (x : ℕ). x * 2 + 1) (gather_none k (λ j. P (suc j))) in
    ap (λ (x : ℕ). gather (suc k) P (x + 1)) z ∙ a ∙ sym (ap₂ (λ (x y : ℕ). x + 2 ^ y) (ap (gather (suc k) Q) z ∙ gather_none (suc k) Q) c)
gather-top (suc k) P Q (suc n) u l h e p q =
    let o : (u + 2 ^ suc n) % 2 ≡ u % 2 = omega (arith, pow-suc 2 n) in
    let d : (u + 2 ^ suc n) / 2 ≡ u / 2 + 2 ^ n = omega (arith, pow-suc 2 n) in
    ap₂ (λ (x y : ℕ). pull (P 0) x (gather k (λ j. P (suc j)) y)) o d
    ∙ ap₂ (λ (b : Bool) (x : ℕ). pull b (u % 2) x) (e 0 (suc-le-suc zero-le))
    (gather-top k (λ j. P (suc j)) (λ j. Q (suc j)) n (u / 2) (omega arith) (omega (arith, pow-suc 2 n)) (λ j m. e (suc j) (suc-le-suc m)) p
    (λ j m g. q (suc j) (suc-le-suc m) (suc-le-suc g)))
    ∙ go (Q 0)
  where
    G : ℕ
    G = gather k (λ j. Q (suc j)) (u / 2)

    C : ℕ
    C = count k (λ j. Q (suc j))

    go : (b : Bool) → pull b (u % 2) (G + 2 ^ C) ≡ pull b (u % 2) G + 2 ^ more b C
    go true = omega (arith, pow-suc 2 C)
    go false = refl

-- ---- one row more in a sum

sum_one : (rows : List ℕ) (j : ℕ) → sum_of rows (2 ^ j) ≡ get_or rows j 0
sum_one [] j = refl
sum_one (row ∷ rows) zero = ap (bit_xor row) (sum-zero rows) ∙ xor_zero_r row
sum_one (row ∷ rows) (suc j) =
    let o : 2 ^ suc j % 2 ≡ 0 = omega (arith, pow-suc 2 j) in
    let d : 2 ^ suc j / 2 ≡ 2 ^ j = omega (arith, pow-suc 2 j) in
    ap₂ (λ (x y : ℕ). bit_xor (taken x row) (sum_of rows y)) o d ∙ sum_one rows j

sum_more : (rows : List ℕ) (j u : ℕ) → u < 2 ^ j → sum_of rows (u + 2 ^ j) ≡ bit_xor (sum_of rows u) (get_or rows j 0)
sum_more rows j u h =
    let e : u + 2 ^ j ≡ bit_xor (2 ^ j) u = omega (arith, rw (one-mul (2 ^ j)) at (xor_shifted 1 j u h)) in
    ap (sum_of rows) e ∙ sum-xor rows (2 ^ j) u ∙ ap (λ (x : ℕ). bit_xor x (sum_of rows u)) (sum_one rows j) ∙ xor_comm (get_or rows j 0) (sum_of rows u)

-- ---- section t of a plate

module _ (rows : List ℕ) (s : Spans rows (firsts rows) (lasts rows)) (t : ℕ) where
  abbrev c : Section
  c = section_of rows t

  abbrev state : ℕ → ℕ → ℕ
  state depth u = state_of rows (firsts rows) (lasts rows) depth u

  -- the branch that takes u's active rows
  abbrev branch : ℕ → ℕ
  branch u = gather (length rows) (active (firsts rows) (lasts rows) t) u

  takes : (u j : ℕ) → j < length rows → firsts rows j ≤ t → t ≤ lasts rows j → bit (chosen rows t (branch u)) j ≡ bit u j
  takes u j k f l = spread-gather (length rows) (active (firsts rows) (lasts rows) t) u j k (is-active (firsts rows) (lasts rows) t j f l)

  branch-bit : (u : ℕ) → bit_of c (branch u) ≡ bit (sum_of rows u) t
  branch-bit u =
      (section-agrees rows s t).spells (branch u)
      ∙ sum-agree rows t (chosen rows t (branch u)) u (λ j k. go j k (dec_lt t (firsts rows j)) (dec_lt (lasts rows j) t))
    where
      go : (j : ℕ) → j < length rows → Dec (t < firsts rows j) → Dec (lasts rows j < t)
          → (bit (get_or rows j 0) t ≡ 0) ⊎ (bit (chosen rows t (branch u)) j ≡ bit u j)
      go j k (yes a) b = inl ((s.first j k).zeros t a)
      go j k (no a) (yes b) = inl ((s.last j k).zeros t b)
      go j k (no a) (no b) = inr (takes u j k (omega arith) (omega arith))

  branch_leads : (u : ℕ) → leads_to c (branch u) ≡ state (suc t) u
  branch_leads u =
      (section-agrees rows s t).to_state (branch u) (gather-lt (length rows) (active (firsts rows) (lasts rows) t) u)
      ∙ gather-same (length rows) (live (firsts rows) (lasts rows) (suc t)) (chosen rows t (branch u)) u
      (λ j k m. let a = live_is (firsts rows) (lasts rows) (suc t) j m in takes u j k (omega arith) (omega arith))

  -- a row that began before is active if it is live
  went_on : (j : ℕ) → j < length rows → j < begun_before rows t → active (firsts rows) (lasts rows) t j ≡ live (firsts rows) (lasts rows) t j
  went_on j k h =
      let a = (begun-are t rows s.rising j k).0 h in
      rw (le-leb (firsts rows j) t (omega arith), lt-ltb (firsts rows j) t a)

  -- the row that begins is the next one
  next-begins : (section_of rows t).begins ≡ true → (begun_before rows t < length rows) × (firsts rows (begun_before rows t) ≡ t)
  next-begins b =
      let a = (section-begins rows s t).0 b in
      let e = begun-row rows s t a in
      (omega (arith, a.there, e), ap (firsts rows) e ∙ a.here)

  -- it is not the zero word
  pub next-some : (section_of rows t).begins ≡ true → eqb (get_or rows (begun_before rows t) 0) 0 ≡ false
  next-some b =
      let n = next-begins b in
      ne_eqb (get_or rows (begun_before rows t) 0) 0
      (λ e. omega (arith, some-pos (get_or rows (begun_before rows t) 0) (firsts rows (begun_before rows t)) (s.first (begun_before rows t) n.0).one))

  module _ (u : ℕ) (h : u < 2 ^ begun_before rows t) where
    same : (j : ℕ) → j < begun_before rows t → active (firsts rows) (lasts rows) t j ≡ live (firsts rows) (lasts rows) t j
    same j l = went_on j (omega (arith, begun-few t rows)) l

    -- no row more is taken
    stays : branch u ≡ state t u
    stays = gather-few (length rows) (active (firsts rows) (lasts rows) t) (live (firsts rows) (lasts rows) t) (begun_before rows t) u h same

    -- the row that begins is taken
    joins : (section_of rows t).begins ≡ true → branch (u + 2 ^ begun_before rows t) ≡ state t u + 2 ^ (section_of rows t).live
    joins b =
        let n = next-begins b in
        let a : active (firsts rows) (lasts rows) t (begun_before rows t) ≡ true = rw (le-leb (firsts rows (begun_before rows t)) t (omega (arith, n.1)), le-leb t (lasts rows (begun_before rows t)) (omega (arith, n.1, in_order rows s (begun_before rows t) n.0))) in
        gather-top (length rows) (active (firsts rows) (lasts rows) t) (live (firsts rows) (lasts rows) t) (begun_before rows t) u n.0 h same a
        (λ j m k l. omega (arith, live_is (firsts rows) (lasts rows) t j l, (begun-are t rows s.rising j k).1 (live_is (firsts rows) (lasts rows) t j l).0))
        ∙ ap (λ (x : ℕ). state t u + 2 ^ x) (sym (live-count t rows))

  -- ---- the walk through section t

  module _ {sum i : ℕ} (w : Taken rows t sum i) where
    -- the state's own branch has the sum's bit
    pub state-bit : bit_of (section_of rows t) i ≡ bit sum t
    state-bit =
        ap (bit_of c) (w.state_is ∙ sym (stays w.by w.begun)) ∙ branch-bit w.by ∙ ap (λ (x : ℕ). bit x t) (sym w.sum_is)

    pub taken-on : (d : ℕ) → Taken rows (suc t) (bit_xor sum (cond (eqb (bit sum t) d) 0 (beginning_row rows t))) (follow (section_of rows t) i d)
    taken-on d = go c.begins refl (eqb (bit sum t) d) refl
      where
        n : ℕ
        n = begun_before rows t

        by : (b e : Bool) → c.begins ≡ b → eqb (bit sum t) d ≡ e → branch_by c i d ≡ cond (b && not e) (i + 2 ^ c.live) i
        by b e p q = ap₂ (λ (x y : Bool). cond (x && not y) (i + 2 ^ c.live) i) p (ap (λ (x : ℕ). eqb x d) state-bit ∙ q)

        none : (b e : Bool) → c.begins ≡ b → eqb (bit sum t) d ≡ e → (b && not e) ≡ false
            → bit_xor sum (cond e 0 (cond b (get_or rows n 0) 0)) ≡ sum → Taken rows (suc t) (bit_xor sum (cond (eqb (bit sum t) d) 0 (beginning_row rows t))) (follow c i d)
        none b e p q f x = record {
          by = w.by;
          begun = lt_of_lt_of_le w.begun (pow_mono {i = n} {j = begun_before rows (suc t)} (subst (λ (m : ℕ). n ≤ m) (sym (begun-next rows s t)) (grows c.begins)));
          sum_is = ap₂ (λ (e b : Bool). bit_xor sum (cond e 0 (cond b (get_or rows n 0) 0))) q p ∙ x ∙ w.sum_is;
          state_is = ap (leads_to c) (by b e p q ∙ ap (λ (z : Bool). cond z (i + 2 ^ c.live) i) f ∙ w.state_is ∙ sym (stays w.by w.begun)) ∙ branch_leads w.by;
        }
          where
            grows : (b : Bool) → n ≤ more b n
            grows true = omega arith
            grows false = omega arith

        go : (b : Bool) → c.begins ≡ b → (e : Bool) → eqb (bit sum t) d ≡ e
            → Taken rows (suc t) (bit_xor sum (cond (eqb (bit sum t) d) 0 (beginning_row rows t))) (follow c i d)
        go true p true q = none true true p q refl (xor_zero_r sum)
        go false p true q = none false true p q refl (xor_zero_r sum)
        go false p false q = none false false p q refl (xor_zero_r sum)
        go true p false q = record {
          by = w.by + 2 ^ n;
          begun = subst (λ (m : ℕ). w.by + 2 ^ n < 2 ^ m) (sym (begun-next rows s t ∙ ap (λ (b : Bool). more b n) p)) (omega (arith, w.begun, pow-suc 2 n));
          sum_is = ap₂ (λ (e b : Bool). bit_xor sum (cond e 0 (cond b (get_or rows n 0) 0))) q p ∙ ap (λ (x : ℕ). bit_xor x (get_or rows n 0)) w.sum_is ∙ sym (sum_more rows n w.by w.begun);
          state_is = ap (leads_to c) (by true false p q ∙ ap (λ (x : ℕ). x + 2 ^ c.live) w.state_is ∙ sym (joins w.by w.begun p)) ∙ branch_leads (w.by + 2 ^ n);
        }

  -- the branch as the code finds it, by the row taken
  pub branch-is : {sum i : ℕ} → Taken rows t sum i → (d : ℕ)
      → cond (eqb (cond (eqb (bit sum t) d) 0 (beginning_row rows t)) 0) i (i + 2 ^ (section_of rows t).live) ≡ branch_by (section_of rows t) i d
  branch-is {sum} {i} w d =
      go c.begins refl (eqb (bit sum t) d)
      ∙ sym (ap (λ (x : ℕ). cond (c.begins && not (eqb x d)) (i + 2 ^ c.live) i) (state-bit w))
    where
      go : (b : Bool) → c.begins ≡ b → (e : Bool)
          → cond (eqb (cond e 0 (cond b (get_or rows (begun_before rows t) 0) 0)) 0) i (i + 2 ^ c.live) ≡ cond (b && not e) (i + 2 ^ c.live) i
      go true p true = refl
      go true p false = ap (λ (z : Bool). cond z i (i + 2 ^ c.live)) (next-some p)
      go false p true = refl
      go false p false = refl
