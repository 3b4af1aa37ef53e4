-- Each codeword is spelled by exactly one path of the trellis, and the branches of a section are all different.
use lib.Bits.{bit_xor, differ, xor_zero_r}
use lib.Dec.{T}
use lib.ListN.{get_or, length}
use mathlib.Core.List.{List, [], ◌∷◌}
use mathlib.Core.Logic.{inl, inr, ◌≢◌, ◌⊎◌}
use mathlib.Core.Path.{ap, refl, subst, sym, ◌∙◌, ◌≡◌}
use native.Mathlib.Decide.{dec_lt, ℕ_discrete}
use native.Mathlib.Nat.{pow-suc}
use native.Mathlib.Omega.{arith}
use Prim.Native.Nat.{◌%◌, ◌/◌, ◌<◌, ◌^◌, suc, zero, zero-le, ℕ, ◌≤◌}
use Rattle.plates.proofs.Live.{is_live, live_is}
use Rattle.plates.proofs.OneCheck.{pow-here, pow-other}
use Rattle.plates.specs.Profile.{live}
use Rattle.trellises.proofs.Active.{active-is}
use Rattle.trellises.proofs.TrellisSpells.{Kept, spans-kept, table_at, table-length}
use Rattle.trellises.specs.Graph.{Branch, Has, Path, branch_at}
use Rattle.trellises.specs.Smallest.{Different, SamePath}
use Rattle.trellises.specs.States.{active, branch_of, state_of, trellis}
use Rattle.words.proofs.Choice.{count_none, gather-lt, gather-same, gather-shows, spread-injective}
use Rattle.words.proofs.Span.{lt-tri, rising-apart, sum-skip, zero_one}
use Rattle.words.proofs.Sums.{sum-agree, sum-xor, sum-zero}
use Rattle.words.proofs.Word.{bit-cases, bit-same, bit-xor, differ_self}
use Rattle.words.specs.Choice.{count, spread}
use Rattle.words.specs.Span.{Spans}
use Rattle.words.specs.Sum.{sum_of}
use Rattle.words.specs.Word.{bit}

-- the sum that takes row j alone
sum_one : (rows : List ℕ) (j : ℕ) → sum_of rows (2 ^ j) ≡ get_or rows j 0
sum_one [] j = refl
sum_one (r ∷ rs) zero = ap (bit_xor r) (sum-zero rs) ∙ xor_zero_r r
sum_one (r ∷ rs) (suc j) =
    let e : 2 ^ suc j % 2 ≡ 0 = omega (arith, pow-suc 2 j) in
    let h : 2 ^ suc j / 2 ≡ 2 ^ j = omega (arith, pow-suc 2 j) in
    sum-skip r rs (2 ^ suc j) e ∙ ap (sum_of rs) h ∙ sum_one rs j

-- two sums that agree at p, where row j has a 1, and that take every other row with a 1 there alike: they take row j alike
one_left : (rows : List ℕ) (p j u v : ℕ) → bit (get_or rows j 0) p ≡ 1
    → ((i : ℕ) → i < length rows → i ≢ j → (bit (get_or rows i 0) p ≡ 0) ⊎ (bit u i ≡ bit v i))
    → bit (sum_of rows u) p ≡ bit (sum_of rows v) p → bit u j ≡ bit v j
one_left rows p j u v one others e = go (bit-cases (bit_xor u v) j)
  where
    even : bit (sum_of rows (bit_xor u v)) p ≡ 0
    even =
        ap (λ (x : ℕ). bit x p) (sum-xor rows u v) ∙ bit-xor p (sum_of rows u) (sum_of rows v) ∙ ap (λ (x : ℕ). differ x (bit (sum_of rows v) p)) e
        ∙ differ_self (bit (sum_of rows v) p)

    other : (i : ℕ) → i ≢ j → (bit (get_or rows i 0) p ≡ 0) ⊎ (bit u i ≡ bit v i) → (bit (get_or rows i 0) p ≡ 0) ⊎ (bit (bit_xor u v) i ≡ bit (2 ^ j) i)
    other i d (inl z) = inl z
    other i d (inr q) = inr (bit-xor i u v ∙ ap (λ (x : ℕ). differ x (bit v i)) q ∙ differ_self (bit v i) ∙ sym (pow-other j i (λ r. d (sym r))))

    side : bit (bit_xor u v) j ≡ 1 → (i : ℕ) → i < length rows → Dec (i ≡ j) → (bit (get_or rows i 0) p ≡ 0) ⊎ (bit (bit_xor u v) i ≡ bit (2 ^ j) i)
    side o i k (yes q) = inr (subst (λ (x : ℕ). bit (bit_xor u v) x ≡ bit (2 ^ j) x) (sym q) (o ∙ sym (pow-here j)))
    side o i k (no d) = other i d (others i k d)

    go : (bit (bit_xor u v) j ≡ 0) ⊎ (bit (bit_xor u v) j ≡ 1) → bit u j ≡ bit v j
    go (inl z) = bit-same u v j z
    go (inr o) =
        absurd (zero_one even
        (sum-agree rows p (bit_xor u v) (2 ^ j) (λ i k. side o i k (ℕ_discrete i j)) ∙ ap (λ (x : ℕ). bit x p) (sum_one rows j) ∙ one))

module _ (rows : List ℕ) (f l : ℕ → ℕ) (s : Kept rows f l) where
  -- a state and a bit decide which of the active rows are taken: those live by the state, and one that begins by the bit
  pub decided : (t x y : ℕ) → state_of rows f l t x ≡ state_of rows f l t y → bit (sum_of rows x) t ≡ bit (sum_of rows y) t
      → (j : ℕ) → j < length rows → f j ≤ t → t ≤ l j → bit x j ≡ bit y j
  decided t x y from out j k a b = go (dec_lt (f j) t)
    where
      lives : (i : ℕ) → i < length rows → f i < t → t ≤ l i → bit x i ≡ bit y i
      lives i m c d = gather-shows (length rows) (live f l t) x y from i m (is_live f l t i c d)

      others : t ≡ f j → (i : ℕ) → i < length rows → i ≢ j → (f i < t) ⊎ ((f i ≡ t) ⊎ (t < f i)) → Dec (l i < t)
          → (bit (get_or rows i 0) t ≡ 0) ⊎ (bit x i ≡ bit y i)
      others e i m d (inl c) (yes z) = inl (s.behind i m t z)
      others e i m d (inl c) (no z) = inr (lives i m c (omega arith))
      others e i m d (inr (inl q)) z = absurd (d (rising-apart (length rows) f s.rising i j m k (q ∙ e)))
      others e i m d (inr (inr c)) z = inl ((s.first i m).zeros t c)

      go : Dec (f j < t) → bit x j ≡ bit y j
      go (yes c) = lives j k c b
      go (no c) =
          let e : t ≡ f j = omega arith in
          one_left rows t j x y (subst (λ (p : ℕ). bit (get_or rows j 0) p ≡ 1) (sym e) (s.first j k).one)
          (λ i m d. others e i m d (lt-tri (f i) t) (dec_lt (l i) t)) out

  -- the number of branches of section t
  size : (t : ℕ) → length ((trellis rows f l).branches t) ≡ 2 ^ count (length rows) (active f l t)
  size t = table-length (2 ^ count (length rows) (active f l t)) (λ v. branch_of rows f l t (spread (length rows) (active f l t) v))

  -- branch v of section t takes the active rows that the digits of v say
  pub kept-branch : (t v : ℕ) → v < length ((trellis rows f l).branches t)
      → branch_at (trellis rows f l) t v ≡ branch_of rows f l t (spread (length rows) (active f l t) v)
  kept-branch t v h =
      table_at (2 ^ count (length rows) (active f l t)) (λ v. branch_of rows f l t (spread (length rows) (active f l t) v)) v
      (subst (λ (z : ℕ). v < z) (size t) h)

  -- the state that a branch leaves and its bit decide the branch
  pub one-branch : (t i j : ℕ) → i < length ((trellis rows f l).branches t) → j < length ((trellis rows f l).branches t)
      → (branch_at (trellis rows f l) t i).from ≡ (branch_at (trellis rows f l) t j).from
      → (branch_at (trellis rows f l) t i).out ≡ (branch_at (trellis rows f l) t j).out → i ≡ j
  one-branch t i j hi hj from out =
      spread-injective (length rows) (active f l t) i j (subst (λ (z : ℕ). i < z) (size t) hi) (subst (λ (z : ℕ). j < z) (size t) hj)
      (λ m k a. decided t _ _ (sym (ap (λ (b : Branch). b.from) (kept-branch t i hi)) ∙ from ∙ ap (λ (b : Branch). b.from) (kept-branch t j hj))
      (sym (ap (λ (b : Branch). b.out) (kept-branch t i hi)) ∙ out ∙ ap (λ (b : Branch). b.out) (kept-branch t j hj)) m k
      (active-is f l t m a).0 (active-is f l t m a).1)

  -- the branches of a section are all different
  pub branches-differ : (t : ℕ) → Different (trellis rows f l) t
  branches-differ t i j hi hj e = one-branch t i j hi hj (ap (λ (b : Branch). b.from) e) (ap (λ (b : Branch). b.out) e)

  -- there is one state at depth 0, since no row is live
  nothing-live : 2 ^ count (length rows) (live f l 0) ≡ 1
  nothing-live = ap (λ (x : ℕ). 2 ^ x) (count_none (length rows) (live f l 0) (λ j k a. omega (arith, live_is f l 0 j a)))

  -- so every path begins in state 0
  start-zero : (n w : ℕ) (p : Path (trellis rows f l) n w) → p.state 0 ≡ 0
  start-zero n w p = omega (arith, nothing-live, p.inside 0 zero-le)

  module _ (n w : ℕ) (p q : Path (trellis rows f l) n w) where
    -- two paths that stand in one state take the same branch there, since their bit is the same
    same_place : (t : ℕ) (h : t < n) → p.state t ≡ q.state t → (p.branch t h).place ≡ (q.branch t h).place
    same_place t h e =
        one-branch t (p.branch t h).place (q.branch t h).place (p.branch t h).there (q.branch t h).there
        ((p.branch t h).leaves ∙ e ∙ sym (q.branch t h).leaves) ((p.branch t h).spells ∙ sym (q.branch t h).spells)

    -- and so they stand in the same state at the next depth
    same-state : (t : ℕ) → t ≤ n → p.state t ≡ q.state t
    same-state zero h = start-zero n w p ∙ sym (start-zero n w q)
    same-state (suc t) h =
        sym (p.branch t h).leads ∙ ap (λ (i : ℕ). (branch_at (trellis rows f l) t i).to) (same_place t h (same-state t (omega arith))) ∙ (q.branch t h).leads

    -- each word is spelled by at most one path
    pub paths-once : SamePath (trellis rows f l) n w p q
    paths-once = record { branches = λ t h. same_place t h (same-state t (omega arith)); states = same-state }

  -- a branch from the state of the live rows that a codeword takes, with its bit, leads to the next such state
  pub follows : (t u a c : ℕ) → Has (trellis rows f l) t a (bit (sum_of rows u) t) c → a ≡ state_of rows f l t u → c ≡ state_of rows f l (suc t) u
  follows t u a c b e = sym b.leads ∙ ap (λ (b : Branch). b.to) mine ∙ gather-same (length rows) (live f l (suc t)) x u alike
    where
      x : ℕ
      x = spread (length rows) (active f l t) b.place

      mine : branch_at (trellis rows f l) t b.place ≡ branch_of rows f l t x
      mine = kept-branch t b.place b.there

      alike : (j : ℕ) → j < length rows → T (live f l (suc t) j) → bit x j ≡ bit u j
      alike j k a =
          let g = live_is f l (suc t) j a in
          decided t x u (sym (ap (λ (b : Branch). b.from) mine) ∙ b.leaves ∙ e) (sym (ap (λ (b : Branch). b.out) mine) ∙ b.spells) j k
          (omega arith) (omega arith)

  -- the path of a codeword stands at depth t in the state of the live rows that it takes
  pub kept-state : (n u : ℕ) (p : Path (trellis rows f l) n (sum_of rows u)) (t : ℕ) → t ≤ n → p.state t ≡ state_of rows f l t u
  kept-state n u p zero h = omega (arith, nothing-live, start-zero n (sum_of rows u) p, gather-lt (length rows) (live f l 0) u)
  kept-state n u p (suc t) h = follows t u (p.state t) (p.state (suc t)) (p.branch t h) (kept-state n u p t (omega arith))

-- the same of rows that are kept to their last ones
module _ (rows : List ℕ) (f l : ℕ → ℕ) (s : Spans rows f l) where
  pub nth-branch : (t v : ℕ) → v < length ((trellis rows f l).branches t)
      → branch_at (trellis rows f l) t v ≡ branch_of rows f l t (spread (length rows) (active f l t) v)
  nth-branch = kept-branch rows f l (spans-kept s)

  pub path-state : (n u : ℕ) (p : Path (trellis rows f l) n (sum_of rows u)) (t : ℕ) → t ≤ n → p.state t ≡ state_of rows f l t u
  path-state = kept-state rows f l (spans-kept s)
