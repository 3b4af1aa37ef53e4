-- How many states and branches are on full paths: what the counted lines say.
use borrow.Author.Tests.{eq-eqb, eqb-true, lt-ltb, ltb-true}
use lib.Dec.{eqb, ltb}
use lib.ListN.{get_or}
use mathlib.Core.Bool.{Bool, cond, false, false≢true, true}
use mathlib.Core.List.{List, [], ◌∷◌}
use mathlib.Core.Path.{ap, refl, subst, sym, ◌∙◌, ◌≡◌}
use native.Mathlib.Decide.{dec_lt}
use native.Mathlib.Omega.{arith}
use Prim.Native.Nat.{◌%◌, ◌/◌, ◌<◌, suc, zero, ℕ}
use Rattle.trellises.specs.Graph.{Graph, Path}
use Rattle.words.proofs.Word.{bit-lt}
use Rattle.words.specs.Choice.{count}
use Rattle.words.specs.Word.{bit}
use Rattle.judging.proofs.Counting.{Value, count-some, number-count, number_same, some-count}
use Rattle.judging.proofs.Used.{LineUsed, of-used, one_line, path-line, used-of}
use Rattle.judging.proofs.Ways.{Ended}
use Rattle.judging.specs.Marks.{MarkRight, first_test, mark_at, same_test, used_test}
use Rattle.judging.specs.Ours.{OfPlate, ours}
use Rattle.judging.specs.Room.{Holds, ToldFrom, key_of, start_at, theirs, told_at}
use Rattle.judging.specs.Surplus.{BranchOn, Number, StateOn}
use Rattle.judging.specs.Ways.{Same}

module _ (rows : List ℕ) (mask n : ℕ) (room : List ℕ) (lines : ℕ) (o : OfPlate rows mask n) (holds : Holds n lines room)
    (told : ToldFrom (theirs n lines room) rows mask n lines room 0) (right : Same (theirs n lines room) (ours rows mask) n 0 1 1)
    (ends : Ended (theirs n lines room) n) (marks : (j : ℕ) → j < lines → MarkRight (theirs n lines room) room (mark_at room j) j) where
  -- ---- a line is counted exactly if it is on a full path

  used-true : (t i : ℕ) → i < lines → used_test room t i ≡ true → (start_at room i / 2048 ≡ t) × LineUsed rows mask n room lines o holds told right i
  used-true t i l e = go (eqb (start_at room i / 2048) t) refl (eqb (mark_at room i) 1) refl e
    where
      go : (a : Bool) → eqb (start_at room i / 2048) t ≡ a → (b : Bool) → eqb (mark_at room i) 1 ≡ b → cond a (cond b (ltb 0 (told_at room i)) false) false ≡ true
          → (start_at room i / 2048 ≡ t) × LineUsed rows mask n room lines o holds told right i
      go true p true q r =
          (eqb-true _ _ p, used-of rows mask n room lines o holds told right ends i l ((marks i l).yes_is (eqb-true _ _ q)) (λ z. omega (arith, z, ltb-true 0 (told_at room i) r)))
      go true p false q r = absurd (false≢true r)
      go false p b q r = absurd (false≢true r)

  true-used : (t i : ℕ) → i < lines → start_at room i / 2048 ≡ t → LineUsed rows mask n room lines o holds told right i → used_test room t i ≡ true
  true-used t i l e u =
      let x = of-used rows mask n room lines o holds told right ends i l u in
      rw (eq-eqb (start_at room i / 2048) t e, eq-eqb (mark_at room i) 1 ((marks i l).no_is x.0), lt-ltb 0 (told_at room i) (omega (arith, x.1)))

  -- the line that a full path takes in a section
  taken-line : (t w : ℕ) → t < n → (p : Path (theirs n lines room) n w)
      → (j : ℕ) × (j < lines) × (used_test room t j ≡ true) × (start_at room j ≡ key_of t (p.state t) (bit w t)) × (p.state t < 1024)
  taken-line t w l p =
      let x = path-line n lines room holds w p t l in
      let two : bit w t < 2 = bit-lt t w in
      let small : p.state t < 1024 = x.4 in
      let d : start_at room x.0 / 2048 ≡ t = omega (arith, x.2, two, small) in
      let f : start_at room x.0 / 2 % 1024 ≡ p.state t = omega (arith, x.2, two, small) in
      let b : start_at room x.0 % 2 ≡ bit w t = omega (arith, x.2, two, small) in
      let u : LineUsed rows mask n room lines o holds told right x.0 = record { word = w; path = p; state_is = ap p.state d ∙ sym f; bit_is = ap (bit w) d ∙ sym b } in
      (x.0, x.1, true-used t x.0 x.1 d u, x.2, small)

  -- two lines of one depth with the same rest of their starts are one
  module _ (t : ℕ) where
    same_start : (i j : ℕ) → i < lines → j < lines → start_at room i / 2048 ≡ t → start_at room j / 2048 ≡ t → start_at room i % 2048 ≡ start_at room j % 2048 → i ≡ j
    same_start i j l m p q e = one_line n lines room holds i j l m (omega (arith, p, q, e))

  -- ---- branches

  pub branches-counted : (t : ℕ) → t < n → Number (BranchOn (theirs n lines room) n t) (count lines (used_test room t))
  branches-counted t h =
      number_same to from (number-count lines (used_test room t) (λ i. start_at room i % 2048) (λ i j l m p q e.
      let k : i < lines = omega (arith, l, m) in
      let z : i ≡ j = same_start t i j k m (used-true t i k p).0 (used-true t j m q).0 e in
      omega (arith, z, l)))
    where
      to : (x : ℕ) → Value lines (used_test room t) (λ i. start_at room i % 2048) x → BranchOn (theirs n lines room) n t x
      to x v =
          let u = used-true t v.0 v.1 v.2 in
          let s : u.1.path.state t ≡ start_at room v.0 / 2 % 1024 = ap u.1.path.state (sym u.0) ∙ u.1.state_is in
          let b : bit u.1.word t ≡ start_at room v.0 % 2 = ap (bit u.1.word) (sym u.0) ∙ u.1.bit_is in
          record { word = u.1.word; path = u.1.path; here = omega (arith, s, b, v.3) }

      from : (x : ℕ) → BranchOn (theirs n lines room) n t x → Value lines (used_test room t) (λ i. start_at room i % 2048) x
      from x v =
          let j = taken-line t v.word h v.path in
          let two : bit v.word t < 2 = bit-lt t v.word in
          (j.0, j.1, j.2, omega (arith, j.3, j.4, two, v.here))

  -- ---- states

  first-true : (t i : ℕ) → first_test room t i ≡ true → (used_test room t i ≡ true) × (count i (same_test room t (start_at room i / 2 % 1024)) ≡ 0)
  first-true t i e = go (used_test room t i) refl e
    where
      go : (a : Bool) → used_test room t i ≡ a → cond a (eqb (count i (same_test room t (start_at room i / 2 % 1024))) 0) false ≡ true
          → (used_test room t i ≡ true) × (count i (same_test room t (start_at room i / 2 % 1024)) ≡ 0)
      go true p q = (p, eqb-true _ _ q)
      go false p q = absurd (false≢true q)

  true_same : (t s i : ℕ) → used_test room t i ≡ true → start_at room i / 2 % 1024 ≡ s → same_test room t s i ≡ true
  true_same t s i p q = rw (p, eq-eqb (start_at room i / 2 % 1024) s q)

  same_true : (t s i : ℕ) → same_test room t s i ≡ true → (used_test room t i ≡ true) × (start_at room i / 2 % 1024 ≡ s)
  same_true t s i e = go (used_test room t i) refl e
    where
      go : (a : Bool) → used_test room t i ≡ a → cond a (eqb (start_at room i / 2 % 1024) s) false ≡ true → (used_test room t i ≡ true) × (start_at room i / 2 % 1024 ≡ s)
      go true p q = (p, eqb-true _ _ q)
      go false p q = absurd (false≢true q)

  abbrev FirstOf : ℕ → ℕ → Type 0
  FirstOf t s = Value lines (first_test room t) (λ i. start_at room i / 2 % 1024) s

  -- of the lines of a state the first is counted
  least : (m t j : ℕ) → j < m → j < lines → used_test room t j ≡ true → FirstOf t (start_at room j / 2 % 1024)
  least zero t j l k u = absurd (omega arith)
  least (suc m) t j l k u = go (dec_lt 0 (count j (same_test room t (start_at room j / 2 % 1024)))) (λ i a b c. least m t i a b c)
    where
      go : Dec (0 < count j (same_test room t (start_at room j / 2 % 1024))) → ((i : ℕ) → i < m → i < lines → used_test room t i ≡ true → FirstOf t (start_at room i / 2 % 1024))
          → FirstOf t (start_at room j / 2 % 1024)
      go (no d) ih = (j, k, rw (u, eq-eqb (count j (same_test room t (start_at room j / 2 % 1024))) 0 (omega (arith, d))), refl)
      go (yes d) ih =
          let x = count-some j (same_test room t (start_at room j / 2 % 1024)) d in
          let y = same_true t (start_at room j / 2 % 1024) x.0 x.2 in
          subst (FirstOf t) y.1 (ih x.0 (omega (arith, x.1, l)) (omega (arith, x.1, k)) y.0)

  pub states-counted : (t : ℕ) → t < n → Number (StateOn (theirs n lines room) n t) (count lines (first_test room t))
  states-counted t h =
      number_same to from (number-count lines (first_test room t) (λ i. start_at room i / 2 % 1024) (λ i j l m p q e.
      omega (arith, (first-true t j q).1, some-count j (same_test room t (start_at room j / 2 % 1024)) i l (true_same t (start_at room j / 2 % 1024) i (first-true t i p).0 e))))
    where
      to : (x : ℕ) → FirstOf t x → StateOn (theirs n lines room) n t x
      to x v =
          let u = used-true t v.0 v.1 (first-true t v.0 v.2).0 in
          record { word = u.1.word; path = u.1.path; here = ap u.1.path.state (sym u.0) ∙ u.1.state_is ∙ v.3 }

      from : (x : ℕ) → StateOn (theirs n lines room) n t x → FirstOf t x
      from x v =
          let j = taken-line t v.word h v.path in
          let two : bit v.word t < 2 = bit-lt t v.word in
          let f : start_at room j.0 / 2 % 1024 ≡ x = omega (arith, j.3, j.4, two, v.here) in
          subst (FirstOf t) f (least (suc j.0) t j.0 (omega arith) j.1 j.2)

-- at the end there is one state
pub end-counted : (g : Graph) (n w : ℕ) → g.states n ≡ 1 → Path g n w → Number (StateOn g n n) 1
end-counted g n w e p = record {
  list = 0 ∷ [];
  size = refl;
  each = λ j l. each j l;
  all = λ x s. (0, omega arith, sym (zero-at s.path) ∙ s.here);
  different = λ i j l m q. omega arith;
}
  where
    zero-at : {w : ℕ} (p : Path g n w) → p.state n ≡ 0
    zero-at p = omega (arith, e, p.inside n (omega arith))

    each : (j : ℕ) → j < 1 → StateOn g n n (get_or (0 ∷ []) j 0)
    each zero l = record { word = w; path = p; here = zero-at p }
    each (suc j) l = absurd (omega arith)
