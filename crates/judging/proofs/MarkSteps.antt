-- The lines marked one by one, from the first to the last.
use borrow.Author.Tests.{eq-eqb, eqb-true, le-ltb, lt-ltb, ne_eqb}
use lib.Dec.{eqb}
use lib.ListN.{get_or, length-set, set}
use lib.Seq.{get_or-set_other, get_or-set_same}
use mathlib.Core.Bool.{Bool, cond, false, false≢true, true}
use mathlib.Core.List.{List}
use mathlib.Core.Path.{ap, refl, subst, sym, ◌∙◌, ◌≡◌}
use native.Mathlib.Decide.{dec_lt, ℕ_discrete}
use native.Mathlib.Omega.{arith}
use Prim.Native.Nat.{◌%◌, ◌*◌, ◌+◌, ◌-◌, ◌/◌, ◌<◌, suc, zero, ℕ, ◌≤◌}
use Rattle.trellises.specs.Graph.{Graph}
use Rattle.words.specs.Choice.{count}
use Rattle.judging.proofs.Chains.{chain-on, chain-start}
use Rattle.judging.proofs.Counting.{count-some, some-count}
use Rattle.judging.proofs.Theirs.{has-line, has-range}
use Rattle.judging.proofs.Used.{line-branch}
use Rattle.judging.specs.Marks.{AllMarked, MarkRight, Marked, mark_at, mark_for, reach_test}
use Rattle.judging.specs.Room.{Holds, lead_at, start_at, theirs}
use Rattle.judging.specs.Ways.{Chain}

-- ---- the mark, case by case as the code finds it

module _ (room : List ℕ) (lines t v : ℕ) where
  pub mark-start : t ≡ 0 → v ≡ 0 → 1 ≡ mark_for room lines t v
  mark-start e q = rw (eq-eqb t 0 e, eq-eqb v 0 q)

  pub mark-start-not : t ≡ 0 → (v ≡ 0 → ⊥) → 0 ≡ mark_for room lines t v
  mark-start-not e q = rw (eq-eqb t 0 e, ne_eqb v 0 q)

  module _ (d : t ≡ 0 → ⊥) (c : ℕ) (e : c ≡ count lines (reach_test room (t - 1) v)) where
    pub mark-some : 0 < c → 1 ≡ mark_for room lines t v
    mark-some l = rw (ne_eqb t 0 d, lt-ltb 0 (count lines (reach_test room (t - 1) v)) (omega (arith, l, e)))

    pub mark-none : c ≤ 0 → 0 ≡ mark_for room lines t v
    mark-none l = rw (ne_eqb t 0 d, le-ltb 0 (count lines (reach_test room (t - 1) v)) (omega (arith, l, e)))

-- ---- what the tests say

reach-true : (room : List ℕ) (s v k : ℕ) → reach_test room s v k ≡ true → (start_at room k / 2048 ≡ s) × (lead_at room k ≡ v) × (mark_at room k ≡ 1)
reach-true room s v k e = go (eqb (start_at room k / 2048) s) refl (eqb (lead_at room k) v) refl e
  where
    go : (a : Bool) → eqb (start_at room k / 2048) s ≡ a → (b : Bool) → eqb (lead_at room k) v ≡ b → cond a (cond b (eqb (mark_at room k) 1) false) false ≡ true
        → (start_at room k / 2048 ≡ s) × (lead_at room k ≡ v) × (mark_at room k ≡ 1)
    go true p true q r = (eqb-true _ _ p, eqb-true _ _ q, eqb-true _ _ r)
    go true p false q r = absurd (false≢true r)
    go false p b q r = absurd (false≢true r)

true-reach : (room : List ℕ) (s v k : ℕ) → start_at room k / 2048 ≡ s → lead_at room k ≡ v → mark_at room k ≡ 1 → reach_test room s v k ≡ true
true-reach room s v k p q r = rw (eq-eqb (start_at room k / 2048) s p, eq-eqb (lead_at room k) v q, eq-eqb (mark_at room k) 1 r)

-- the first part of a chain
chain-part : (g : Graph) (t v : ℕ) (c : Chain g (suc t) v) → Chain g t (c.state t)
chain-part g t v c = record {
  state = c.state;
  digit = c.digit;
  start = c.start;
  here = refl;
  two = λ i l. c.two i (omega arith);
  has = λ i l. c.has i (omega arith);
}

-- ---- one line more

module _ (n lines : ℕ) (room₀ room : List ℕ) (i : ℕ) (holds : Holds n lines room₀) (m : Marked n lines room₀ room i) (l : i < lines) where
  -- a line before it, of the section before it
  earlier : (k : ℕ) → k < lines → start_at room₀ k / 2048 < start_at room₀ i / 2048 → k < i
  earlier k h e = go (dec_lt k i) (ℕ_discrete i k)
    where
      go : Dec (k < i) → Dec (i ≡ k) → k < i
      go (yes d) q = d
      go (no d) (yes q) = absurd (omega (arith, e, ap (λ (x : ℕ). start_at room₀ x / 2048) q))
      go (no d) (no q) = absurd (omega (arith, e, holds.order i k (omega (arith, d, q)) h))

  -- a mark says that the state is reached
  mark-yes : (t v : ℕ) → start_at room₀ i / 2048 ≡ t → start_at room₀ i / 2 % 1024 ≡ v → mark_for room lines t v ≡ 1 → Chain (theirs n lines room₀) t v
  mark-yes zero v e q h = go (ℕ_discrete v 0)
    where
      go : Dec (v ≡ 0) → Chain (theirs n lines room₀) 0 v
      go (yes z) = subst (Chain (theirs n lines room₀) 0) (sym z) (chain-start (theirs n lines room₀))
      go (no z) = absurd (omega (arith, h, mark-start-not room lines 0 v refl z))
  mark-yes (suc t) v e q h = go (dec_lt 0 (count lines (reach_test room (suc t - 1) v)))
    where
      go : Dec (0 < count lines (reach_test room (suc t - 1) v)) → Chain (theirs n lines room₀) (suc t) v
      go (no z) = absurd (omega (arith, h, mark-none room lines (suc t) v (λ x. omega (arith, x)) (count lines (reach_test room (suc t - 1) v)) refl (omega (arith, z))))
      go (yes z) =
          let k = count-some lines (reach_test room (suc t - 1) v) z in
          let r = reach-true room (suc t - 1) v k.0 k.2 in
          let d : start_at room₀ k.0 / 2048 ≡ t = omega (arith, r.0, ap (λ (x : ℕ). x / 2048) (m.same.start k.0 k.1)) in
          let f : lead_at room₀ k.0 ≡ v = sym (m.same.lead k.0 k.1) ∙ r.1 in
          let c = (m.marks k.0 (earlier k.0 k.1 (omega (arith, d, e)))).yes_is r.2 in
          let s = chain-on c (start_at room₀ k.0 % 2) (lead_at room₀ k.0) (omega arith) (line-branch n lines room₀ holds k.0 k.1) in
          subst (Chain (theirs n lines room₀) (suc t)) f (subst (λ (x : ℕ). Chain (theirs n lines room₀) (suc x) (lead_at room₀ k.0)) d s)

  -- and a state that is reached is marked
  mark-no : (t v : ℕ) → start_at room₀ i / 2048 ≡ t → Chain (theirs n lines room₀) t v → mark_for room lines t v ≡ 1
  mark-no zero v e c = sym (mark-start room lines 0 v refl (sym c.here ∙ c.start))
  mark-no (suc t) v e c =
      let h = c.has t (omega arith) in
      let x = has-line n lines room₀ t (c.state t) (c.digit t) (c.state (suc t)) h in
      let w = has-range n lines room₀ t (c.state t) (c.digit t) (c.state (suc t)) h in
      let k : ℕ = x.0 in
      let d : start_at room₀ x.0 / 2048 ≡ t = omega (arith, x.2, w.0, w.1) in
      let f : start_at room₀ x.0 / 2 % 1024 ≡ c.state t = omega (arith, x.2, w.0, w.1) in
      let p : Chain (theirs n lines room₀) (start_at room₀ x.0 / 2048) (start_at room₀ x.0 / 2 % 1024) =
      subst (λ (y : ℕ). Chain (theirs n lines room₀) y (start_at room₀ x.0 / 2 % 1024)) (sym d) (subst (Chain (theirs n lines room₀) t) (sym f) (chain-part (theirs n lines room₀) t v c)) in
      let a : mark_at room x.0 ≡ 1 = (m.marks x.0 (earlier x.0 x.1 (omega (arith, d, e)))).no_is p in
      let u : start_at room x.0 / 2048 ≡ suc t - 1 = omega (arith, d, ap (λ (x : ℕ). x / 2048) (m.same.start x.0 x.1)) in
      let y : lead_at room x.0 ≡ v = m.same.lead x.0 x.1 ∙ x.3 ∙ c.here in
      sym (mark-some room lines (suc t) v (λ z. omega (arith, z)) (count lines (reach_test room (suc t - 1) v)) refl
      (some-count lines (reach_test room (suc t - 1) v) x.0 x.1 (true-reach room (suc t - 1) v x.0 u y a)))

  module _ (x : ℕ) (ex : x ≡ mark_for room lines (start_at room i / 2048) (start_at room i / 2 % 1024)) where
    other : (k : ℕ) → (k ≡ 4 * i + 3 → ⊥) → get_or (set room (4 * i + 3) x) k 0 ≡ get_or room k 0
    other k d = get_or-set_other room (4 * i + 3) k x 0 (λ e. d e)

    set_same : mark_at (set room (4 * i + 3) x) i ≡ x
    set_same = get_or-set_same room (4 * i + 3) x 0 (omega (arith, holds.size, m.same.size, l))

    there : x ≡ mark_for room lines (start_at room₀ i / 2048) (start_at room₀ i / 2 % 1024)
    there = ex ∙ ap (λ (s : ℕ). mark_for room lines (s / 2048) (s / 2 % 1024)) (m.same.start i l)

    pub marked_more : Marked n lines room₀ (set room (4 * i + 3) x) (i + 1)
    marked_more = record {
      same = record {
        size = length-set room (4 * i + 3) x ∙ m.same.size;
        start = λ j k. other (4 * j) (λ e. omega (arith, e)) ∙ m.same.start j k;
        lead = λ j k. other (4 * j + 1) (λ e. omega (arith, e)) ∙ m.same.lead j k;
        told = λ j k. other (4 * j + 2) (λ e. omega (arith, e)) ∙ m.same.told j k;
      };
      marks = λ j k. go j k (dec_lt j i);
    }
      where
        here : MarkRight (theirs n lines room₀) room₀ (mark_at (set room (4 * i + 3) x) i) i
        here = record {
          yes_is = λ h. mark-yes (start_at room₀ i / 2048) (start_at room₀ i / 2 % 1024) refl refl (sym there ∙ sym set_same ∙ h);
          no_is = λ c. set_same ∙ there ∙ mark-no (start_at room₀ i / 2048) (start_at room₀ i / 2 % 1024) refl c;
        }

        go : (j : ℕ) → j < i + 1 → Dec (j < i) → MarkRight (theirs n lines room₀) room₀ (mark_at (set room (4 * i + 3) x) j) j
        go j k (yes d) = subst (λ (y : ℕ). MarkRight (theirs n lines room₀) room₀ y j) (sym (other (4 * j + 3) (λ e. omega (arith, e, d)))) (m.marks j d)
        go j k (no d) = let q : i ≡ j = omega arith in subst (λ (j : ℕ). MarkRight (theirs n lines room₀) room₀ (mark_at (set room (4 * i + 3) x) j) j) q here

pub marked-none : (lines : ℕ) (room : List ℕ) → AllMarked lines room room 0
marked-none lines room n h = record {
  same = record { size = refl; start = λ i l. refl; lead = λ i l. refl; told = λ i l. refl };
  marks = λ j l. absurd (omega arith);
}
