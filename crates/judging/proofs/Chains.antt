-- States that follow one another from the start: each state so reached that has a way to the end is on a full path.
use borrow.Author.Tests.{le-ltb, lt-ltb}
use lib.Dec.{ltb}
use mathlib.Core.Bool.{cond}
use mathlib.Core.Path.{ap, refl, subst, sym, ◌∙◌, ◌≡◌}
use native.Mathlib.Decide.{dec_lt, ℕ_discrete}
use native.Mathlib.Omega.{arith}
use Prim.Native.Nat.{◌%◌, ◌*◌, ◌+◌, ◌/◌, ◌<◌, suc, zero, ℕ, ◌≤◌}
use Rattle.trellises.specs.Graph.{Graph, Has, Path}
use Rattle.words.proofs.Word.{bit-lt}
use Rattle.words.specs.Word.{bit}
use Rattle.judging.proofs.Ways.{Ended}
use Rattle.judging.specs.Ways.{Chain, Way}

pub chain-start : (g : Graph) → Chain g 0 0
chain-start g = record { state = λ i. 0; digit = λ i. 0; start = refl; here = refl; two = λ i l. absurd (omega arith); has = λ i l. absurd (omega arith) }

-- a full path goes through each of its states
pub path-chain : (g : Graph) (n w : ℕ) (p : Path g n w) → p.state 0 ≡ 0 → (t : ℕ) → t ≤ n → Chain g t (p.state t)
path-chain g n w p e t l = record {
  state = p.state;
  digit = bit w;
  start = e;
  here = refl;
  two = λ i m. bit-lt i w;
  has = λ i m. p.branch i (omega arith);
}

-- one branch more
module _ {g : Graph} {t v : ℕ} (c : Chain g t v) (b k : ℕ) where
  next-state : ℕ → ℕ
  next-state i = cond (ltb i (suc t)) (c.state i) k

  next-digit : ℕ → ℕ
  next-digit i = cond (ltb i t) (c.digit i) b

  state-low : (i : ℕ) → i ≤ t → next-state i ≡ c.state i
  unfolding next-state
  state-low i l = rw (lt-ltb i (suc t) (omega arith))

  state-top : next-state (suc t) ≡ k
  unfolding next-state
  state-top = rw (le-ltb (suc t) (suc t) (omega arith))

  digit_low : (i : ℕ) → i < t → next-digit i ≡ c.digit i
  unfolding next-digit
  digit_low i l = rw (lt-ltb i t l)

  digit-top : next-digit t ≡ b
  unfolding next-digit
  digit-top = rw (le-ltb t t (omega arith))

  pub chain-on : b < 2 → Has g t v b k → Chain g (suc t) k
  chain-on l h = record {
    state = next-state;
    digit = next-digit;
    start = state-low 0 (omega arith) ∙ c.start;
    here = state-top;
    two = λ i m. two i m (dec_lt i t);
    has = λ i m. step i m (dec_lt i t);
  }
    where
      two : (i : ℕ) → i < suc t → Dec (i < t) → next-digit i < 2
      two i m (yes d) = subst (λ (x : ℕ). x < 2) (sym (digit_low i d)) (c.two i d)
      two i m (no d) = let e : t ≡ i = omega arith in subst (λ (i : ℕ). next-digit i < 2) e (subst (λ (x : ℕ). x < 2) (sym digit-top) l)

      step : (i : ℕ) → i < suc t → Dec (i < t) → Has g i (next-state i) (next-digit i) (next-state (suc i))
      step i m (yes d) =
          subst (λ (x : ℕ). Has g i x (next-digit i) (next-state (suc i))) (sym (state-low i (omega arith)))
          (subst (λ (x : ℕ). Has g i (c.state i) x (next-state (suc i))) (sym (digit_low i d))
          (subst (Has g i (c.state i) (c.digit i)) (sym (state-low (suc i) d)) (c.has i d)))
      step i m (no d) =
          let e : t ≡ i = omega arith in
          subst (λ (i : ℕ). Has g i (next-state i) (next-digit i) (next-state (suc i))) e
          (subst (λ (x : ℕ). Has g t x (next-digit t) (next-state (suc t))) (sym (state-low t (omega arith) ∙ c.here))
          (subst (λ (x : ℕ). Has g t v x (next-state (suc t))) (sym digit-top)
          (subst (Has g t v b) (sym state-top) h)))

-- ---- a number with given digits

word_of : ℕ → (ℕ → ℕ) → ℕ
word_of zero D = 0
word_of (suc n) D = word_of n (λ i. D (suc i)) * 2 + D 0

word-bit : (n : ℕ) (D : ℕ → ℕ) → ((i : ℕ) → i < n → D i < 2) → (i : ℕ) → i < n → bit (word_of n D) i ≡ D i
unfolding word_of
word-bit zero D h i l = absurd (omega arith)
word-bit (suc n) D h zero l = let z : D 0 < 2 = h 0 (omega arith) in omega (arith, z)
word-bit (suc n) D h (suc i) l =
    let z : D 0 < 2 = h 0 (omega arith) in
    let e : (word_of n (λ i. D (suc i)) * 2 + D 0) / 2 ≡ word_of n (λ i. D (suc i)) = omega (arith, z) in
    ap (λ (x : ℕ). bit x i) e ∙ word-bit n (λ i. D (suc i)) (λ i m. h (suc i) (omega arith)) i (omega arith)

-- ---- a chain and a way make a full path

-- a full path that begins as the chain does
pub record Begins (g : Graph) (n t : ℕ) (state digit : ℕ → ℕ) : Type 0 where
  pub word : ℕ
  pub path : Path g n word
  pub states : (i : ℕ) → i ≤ t → path.state i ≡ state i
  pub digits : (i : ℕ) → i < t → bit word i ≡ digit i

module _ (g : Graph) (n : ℕ) (e : Ended g n) where
  whole : (c : Chain g n 0) → Begins g n n c.state c.digit
  whole c = record {
    word = word_of n c.digit;
    path = record {
      state = c.state;
      inside = within;
      branch = λ i l. subst (λ (x : ℕ). Has g i (c.state i) x (c.state (suc i))) (sym (word-bit n c.digit c.two i l)) (c.has i l);
    };
    states = λ i l. refl;
    digits = λ i l. word-bit n c.digit c.two i l;
  }
    where
      within : (i : ℕ) → i ≤ n → c.state i < g.states i
      within zero l = omega (arith, e.start, c.start)
      within (suc i) l = side (ℕ_discrete (suc i) n)
        where
          side : Dec (suc i ≡ n) → c.state (suc i) < g.states (suc i)
          side (yes q) = subst (λ (k : ℕ). c.state k < g.states k) (sym q) (omega (arith, e.end, c.here))
          side (no d) = e.inside i _ _ _ (omega (arith, d, l)) (c.has i l)

  pub joined : (d t v r : ℕ) → t + d ≡ n → (c : Chain g t v) → Way g d t v r → Begins g n t c.state c.digit
  unfolding chain-on
  joined zero t v r q c f =
      let z : t ≡ n = omega arith in
      subst (λ (m : ℕ). Begins g n m c.state c.digit) (sym z) (whole (record {
        state = c.state;
        digit = c.digit;
        start = c.start;
        here = ap c.state (sym z) ∙ c.here ∙ f.0;
        two = λ i l. c.two i (omega (arith, l, z));
        has = λ i l. c.has i (omega (arith, l, z));
      }))
  joined (suc d) t v r q c f =
      let two : r % 2 < 2 = omega arith in
      let b = joined d (suc t) f.0 (r / 2) (omega arith) (chain-on c (r % 2) f.0 two f.1) f.2 in
      record {
        word = b.word;
        path = b.path;
        states = λ i l. b.states i (omega arith) ∙ state-low c (r % 2) f.0 i l;
        digits = λ i l. b.digits i (omega arith) ∙ digit_low c (r % 2) f.0 i l;
      }

  -- through a branch: the path has its state and its bit
  pub through : (d t v b k r : ℕ) → t + suc d ≡ n → b < 2 → Chain g t v → Has g t v b k → Way g d (suc t) k r
      → (w : ℕ) × (p : Path g n w) × (p.state t ≡ v) × (bit w t ≡ b)
  unfolding chain-on
  through d t v b k r q l c h f =
      let x = joined d (suc t) k r (omega arith) (chain-on c b k l h) f in
      (x.word, x.path, x.states t (omega arith) ∙ state-low c b k t (omega arith) ∙ c.here, x.digits t (omega arith) ∙ digit-top c b k)
