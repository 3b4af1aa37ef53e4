-- Which lines of a right listing are on full paths: those whose state is reached and of which a number of ours is told.
use lib.Bits.{bit_xor, xor_lt}
use mathlib.Core.List.{List}
use mathlib.Core.Path.{ap, refl, subst, sym, ◌∙◌, ◌≡◌}
use native.Mathlib.Decide.{dec_lt}
use native.Mathlib.Omega.{arith}
use Prim.Native.Nat.{◌%◌, ◌*◌, ◌+◌, ◌-◌, ◌/◌, ◌<◌, suc, zero, ℕ, ◌≤◌}
use Rattle.trellises.specs.Graph.{Graph, Has, Path}
use Rattle.trellises.specs.SectionOf.{section_of}
use Rattle.words.proofs.Word.{bit-lt}
use Rattle.words.specs.Word.{bit}
use Rattle.judging.proofs.Chains.{path-chain, through}
use Rattle.judging.proofs.StatesTold.{follows-small, leads-ours, start-states, way-ours}
use Rattle.judging.proofs.Tells.{same-one}
use Rattle.judging.proofs.Theirs.{has-line, has-range, line-has}
use Rattle.judging.proofs.Ways.{Ended}
use Rattle.judging.specs.Ours.{OfPlate, follows, ours}
use Rattle.judging.specs.Room.{Holds, ToldFrom, key_of, lead_at, start_at, theirs, told_at}
use Rattle.judging.specs.Ways.{Chain, Leads, Same, Way}

module _ (n lines : ℕ) (room : List ℕ) (holds : Holds n lines room) where
  -- the line of a branch is its only line
  pub one_line : (i j : ℕ) → i < lines → j < lines → start_at room i ≡ start_at room j → i ≡ j
  one_line i j l m e = go (dec_lt i j) (dec_lt j i)
    where
      go : Dec (i < j) → Dec (j < i) → i ≡ j
      go (yes d) x = absurd (holds.apart i j d m e)
      go (no d) (yes x) = absurd (holds.apart j i x l (sym e))
      go (no d) (no x) = omega arith

  has-leads : (t v b c : ℕ) → Has (theirs n lines room) t v b c → Leads (theirs n lines room) t (suc v) b (suc c)
  has-leads t v b c h = record {
    none = λ e. absurd (omega (arith, e));
    all = λ v' c' e h'.
        let q : v ≡ v' = omega (arith, e) in
        let x = has-line n lines room t v b c h in
        let y = has-line n lines room t v' b c' h' in
        let i : x.0 ≡ y.0 = one_line x.0 y.0 x.1 y.1 (x.2 ∙ ap (λ (a : ℕ). key_of t a b) q ∙ sym y.2) in
        ap suc (sym x.3 ∙ ap (lead_at room) i ∙ y.3);
    some = λ c' e. let q : c ≡ c' = omega (arith, e) in (v, refl, subst (Has (theirs n lines room) t v b) q h);
  }

  -- ---- the parts of a line's start

  pub start_is : (j : ℕ) → start_at room j ≡ key_of (start_at room j / 2048) (start_at room j / 2 % 1024) (start_at room j % 2)
  start_is j = omega arith

  pub line-branch : (j : ℕ) → j < lines → Has (theirs n lines room) (start_at room j / 2048) (start_at room j / 2 % 1024) (start_at room j % 2) (lead_at room j)
  line-branch j l = line-has n lines room (start_at room j / 2048) (start_at room j / 2 % 1024) (start_at room j % 2) j (omega arith) (omega arith) l (start_is j)

  pub depth_small : (j : ℕ) → j < lines → start_at room j / 2048 < n
  depth_small j l = omega (arith, holds.starts j l)

  -- the line that a path takes
  pub path-line : (w : ℕ) (p : Path (theirs n lines room) n w) (t : ℕ) → t < n
      → (j : ℕ) × (j < lines) × (start_at room j ≡ key_of t (p.state t) (bit w t)) × (lead_at room j ≡ p.state (suc t)) × (p.state t < 1024)
  path-line w p t l =
      let h = p.branch t l in
      let x = has-line n lines room t (p.state t) (bit w t) (p.state (suc t)) h in
      (x.0, x.1, x.2, x.3, (has-range n lines room t (p.state t) (bit w t) (p.state (suc t)) h).0)

-- what is left of a path is a way
suffix-way : (g : Graph) (n w : ℕ) (p : Path g n w) → g.states n ≡ 1 → (d t : ℕ) → t + d ≡ n → (r : ℕ) × Way g d t (p.state t) r
suffix-way g n w p e zero t q =
    let z : t ≡ n = omega arith in
    (0, (omega (arith, e, subst (λ (k : ℕ). p.state k < g.states k) (sym z) (p.inside n (omega arith)), ap (λ (k : ℕ). g.states k) z), refl))
suffix-way g n w p e (suc d) t q =
    let x = suffix-way g n w p e d (suc t) (omega arith) in
    let two : bit w t < 2 = bit-lt t w in
    let e0 : bit w t ≡ (x.0 * 2 + bit w t) % 2 = omega (arith, two) in
    let e1 : x.0 ≡ (x.0 * 2 + bit w t) / 2 = omega (arith, two) in (
      x.0 * 2 + bit w t,
      (p.state (suc t), subst (λ (b : ℕ). Has g t (p.state t) b (p.state (suc t))) e0 (p.branch t (omega arith)), subst (Way g d (suc t) (p.state (suc t))) e1 x.1),
    )

module _ (rows : List ℕ) (mask n : ℕ) (room : List ℕ) (lines : ℕ) (o : OfPlate rows mask n) (holds : Holds n lines room)
    (told : ToldFrom (theirs n lines room) rows mask n lines room 0) (right : Same (theirs n lines room) (ours rows mask) n 0 1 1) where
  -- a state that is reached has the ways of a number of ours
  abbrev Known : ℕ → ℕ → Type 0
  Known t v = (y : ℕ) × (y ≤ (ours rows mask).states t) × Same (theirs n lines room) (ours rows mask) (n - t) t (suc v) y

  known_on : (t v b c : ℕ) → t < n → b < 2 → Has (theirs n lines room) t v b c → (y : ℕ) → y ≤ (ours rows mask).states t → Same (theirs n lines room) (ours rows mask) (n - t) t (suc v) y
      → (follows (section_of rows t) y (bit_xor b (bit mask t)) ≤ (ours rows mask).states (suc t)) × Same (theirs n lines room) (ours rows mask) (n - suc t) (suc t) (suc c) (follows (section_of rows t) y (bit_xor b (bit mask t)))
  known_on t v b c l two h y m s =
      let z : n - t ≡ suc (n - suc t) = omega (arith, l) in (
        follows-small o t y (bit_xor b (bit mask t)) l m (xor_lt 1 b (bit mask t) two (bit-lt t mask)),
        same-one (theirs n lines room) (ours rows mask) (n - suc t) t (suc v) b (suc c) y (follows (section_of rows t) y (bit_xor b (bit mask t))) two (has-leads n lines room holds t v b c h) (leads-ours o t y b l m two)
            (subst (λ (d : ℕ). Same (theirs n lines room) (ours rows mask) d t (suc v) y) z s),
      )

  known-along : (t v : ℕ) → t ≤ n → (c : Chain (theirs n lines room) t v) → (i : ℕ) → i ≤ t → Known i (c.state i)
  known-along t v l c zero m =
      let z : n ≡ n - 0 = omega arith in
      (1, omega (arith, start-states o), subst (λ (k : ℕ). Same (theirs n lines room) (ours rows mask) (n - 0) 0 (suc k) 1) (sym c.start) (subst (λ (d : ℕ). Same (theirs n lines room) (ours rows mask) d 0 1 1) z right))
  known-along t v l c (suc i) m =
      let k = known-along t v l c i (omega arith) in
      let x = known_on i (c.state i) (c.digit i) (c.state (suc i)) (omega arith) (c.two i (omega arith)) (c.has i (omega arith)) k.0 k.1 k.2 in
      (follows (section_of rows i) k.0 (bit_xor (c.digit i) (bit mask i)), x.0, x.1)

  pub known : (t v : ℕ) → t ≤ n → Chain (theirs n lines room) t v → Known t v
  known t v l c = subst (Known t) c.here (known-along t v l c t (omega arith))

  -- ---- lines on full paths

  -- a full path takes line j
  pub record LineUsed (j : ℕ) : Type 0 where
    pub word : ℕ
    pub path : Path (theirs n lines room) n word
    pub state_is : path.state (start_at room j / 2048) ≡ start_at room j / 2 % 1024
    pub bit_is : bit word (start_at room j / 2048) ≡ start_at room j % 2

  module _ (ends : Ended (theirs n lines room) n) (j : ℕ) (l : j < lines) where
    -- a number of ours is told, and so there is a way to the end
    way-there : (z : ℕ) → z ≤ (ours rows mask).states (suc (start_at room j / 2048)) → (z ≡ 0 → ⊥)
        → Same (theirs n lines room) (ours rows mask) (n - suc (start_at room j / 2048)) (suc (start_at room j / 2048)) (suc (lead_at room j)) z
        → (r : ℕ) × Way (theirs n lines room) (n - suc (start_at room j / 2048)) (suc (start_at room j / 2048)) (lead_at room j) r
    way-there zero m d s = absurd (d refl)
    way-there (suc c) m d s =
        let x = way-ours o (n - suc (start_at room j / 2048)) (suc (start_at room j / 2048)) c (omega (arith, depth_small n lines room holds j l)) (omega arith) in
        (x.0, (s x.0).1 x.1)

    pub used-of : Chain (theirs n lines room) (start_at room j / 2048) (start_at room j / 2 % 1024) → (told_at room j ≡ 0 → ⊥) → LineUsed j
    used-of c d =
        let t : ℕ = start_at room j / 2048 in
        let small : start_at room j / 2048 < n = depth_small n lines room holds j l in
        let k = known (start_at room j / 2048) (start_at room j / 2 % 1024) (omega (arith, small)) c in
        let x = known_on (start_at room j / 2048) (start_at room j / 2 % 1024) (start_at room j % 2) (lead_at room j) small (omega arith) (line-branch n lines room holds j l) k.0 k.1 k.2 in
        let e : told_at room j ≡ follows (section_of rows (start_at room j / 2048)) k.0 (bit_xor (start_at room j % 2) (bit mask (start_at room j / 2048))) = (told j (omega arith) l).tells.from _ x.0 x.1 in
        let f = way-there (follows (section_of rows (start_at room j / 2048)) k.0 (bit_xor (start_at room j % 2) (bit mask (start_at room j / 2048)))) x.0 (λ z. d (e ∙ z)) x.1 in
        let u = through (theirs n lines room) n ends (n - suc (start_at room j / 2048)) (start_at room j / 2048) (start_at room j / 2 % 1024) (start_at room j % 2) (lead_at room j) f.0 (omega (arith, small)) (omega arith) c (line-branch n lines room holds j l) f.1 in
        record { word = u.0; path = u.1; state_is = u.2; bit_is = u.3 }

    pub of-used : LineUsed j → Chain (theirs n lines room) (start_at room j / 2048) (start_at room j / 2 % 1024) × (told_at room j ≡ 0 → ⊥)
    of-used u = (chain, dead)
      where
        small : start_at room j / 2048 < n
        small = depth_small n lines room holds j l

        chain : Chain (theirs n lines room) (start_at room j / 2048) (start_at room j / 2 % 1024)
        chain =
            subst (Chain (theirs n lines room) (start_at room j / 2048)) u.state_is
            (path-chain (theirs n lines room) n u.word u.path (omega (arith, ends.start, u.path.inside 0 (omega arith))) (start_at room j / 2048) (omega (arith, small)))

        dead : told_at room j ≡ 0 → ⊥
        dead z =
            let p = path-line n lines room holds u.word u.path (start_at room j / 2048) small in
            let q : p.0 ≡ j = one_line n lines room holds p.0 j p.1 l (p.2 ∙ ap (λ (a : ℕ). a) (keys u.state_is u.bit_is) ∙ sym (start_is n lines room holds j)) in
            let e : u.path.state (suc (start_at room j / 2048)) ≡ lead_at room j = sym p.3 ∙ ap (lead_at room) q in
            let f = suffix-way (theirs n lines room) n u.word u.path ends.end (n - suc (start_at room j / 2048)) (suc (start_at room j / 2048)) (omega (arith, small)) in
            ((told j (omega arith) l).tells.to 0 (omega arith) z f.0).0 (subst (λ (v : ℕ). Way (theirs n lines room) (n - suc (start_at room j / 2048)) (suc (start_at room j / 2048)) v f.0) e f.1)
          where
            keys : {a b c d : ℕ} → a ≡ c → b ≡ d → key_of (start_at room j / 2048) a b ≡ key_of (start_at room j / 2048) c d
            keys {a} {b} {c} {d} p q = ap (λ (x : ℕ). key_of (start_at room j / 2048) x b) p ∙ ap (key_of (start_at room j / 2048) c) q
