-- First and last ones of sums of rows whose first ones rise and whose last ones differ, and the cut lemma.
-- A word's lead in the order B is a position with a 1, with 0 at every position before it by B.
use lib.Bits.{bit_xor, differ, xor_comm, xor_zero_r}
use lib.ListN.{length}
use mathlib.Core.List.{List, [], ◌∷◌}
use mathlib.Core.Logic.{inl, inr, ◌⊎◌}
use mathlib.Core.Path.{ap, ap₂, refl, subst, sym, ◌∙◌, ◌≡◌}
use native.Mathlib.Decide.{dec_lt}
use native.Mathlib.Omega.{arith}
use Prim.Native.Nat.{◌%◌, ◌/◌, ◌<◌, ◌^◌, suc, suc-le-suc, zero, zero-le, ℕ, ◌≤◌}
use Rattle.words.proofs.Sums.{sum-xor}
use Rattle.words.proofs.Word.{below-ext, bit-cases, bit-same, bit-xor, bit-zero, xor_self}
use Rattle.words.specs.Span.{After, Apart, Before, First, Last, Lead, Leads, Spans}
use Rattle.words.specs.Sum.{IsSum, sum_of, taken}
use Rattle.words.specs.Word.{bit}

-- u takes none of k rows
abbrev pub Nothing : ℕ → ℕ → Type 0
Nothing k u = (j : ℕ) → j < k → bit u j ≡ 0

-- the lead of the sum is that of a row taken, and no row taken has its lead before it
abbrev pub Top : (ℕ → ℕ → Type 0) → List ℕ → (ℕ → ℕ) → ℕ → Type 0
Top B rows f u =
    (j : ℕ) × (j < length rows) × (bit u j ≡ 1) × Lead B (sum_of rows u) (f j) × ((i : ℕ) → i < length rows → bit u i ≡ 1 → B (f i) (f j) → ⊥)

pub sum-skip : (r : ℕ) (rs : List ℕ) (u : ℕ) → u % 2 ≡ 0 → sum_of (r ∷ rs) u ≡ sum_of rs (u / 2)
sum-skip r rs u e = ap (λ (d : ℕ). bit_xor (taken d r) (sum_of rs (u / 2))) e

pub sum-take : (r : ℕ) (rs : List ℕ) (u : ℕ) → u % 2 ≡ 1 → sum_of (r ∷ rs) u ≡ bit_xor r (sum_of rs (u / 2))
sum-take r rs u e = ap (λ (d : ℕ). bit_xor (taken d r) (sum_of rs (u / 2))) e

pub zero_one : {x : ℕ} → x ≡ 0 → x ≡ 1 → ⊥
zero_one p q = omega arith

module _ (B : ℕ → ℕ → Type 0) (irrefl : (a : ℕ) → B a a → ⊥) (trans : (a b c : ℕ) → B a b → B b c → B a c)
    (tri : (a b : ℕ) → B a b ⊎ ((a ≡ b) ⊎ B b a)) where
  pub lead-xor : {a b p q : ℕ} → Lead B a p → Lead B b q → B p q → Lead B (bit_xor a b) p
  lead-xor {a} {b} {p} {q} la lb h = record {
    one = bit-xor p a b ∙ ap₂ differ la.one (lb.zeros p h);
    zeros = λ i g. bit-xor i a b ∙ ap₂ differ (la.zeros i g) (lb.zeros i (trans i p q g h));
  }

  pub lead-unique : {a p q : ℕ} → Lead B a p → Lead B a q → p ≡ q
  lead-unique {a} {p} {q} lp lq = go (tri p q)
    where
      go : B p q ⊎ ((p ≡ q) ⊎ B q p) → p ≡ q
      go (inl h) = absurd (zero_one (lq.zeros p h) lp.one)
      go (inr (inl e)) = e
      go (inr (inr h)) = absurd (zero_one (lp.zeros q h) lq.one)

  pub top : (rows : List ℕ) (f : ℕ → ℕ) → Leads B rows f → Apart (length rows) f → (u : ℕ)
      → (Nothing (length rows) u × (sum_of rows u ≡ 0)) ⊎ Top B rows f u
  top [] f h a u = inl ((λ j l. absurd (omega arith)), refl)
  top (r ∷ rs) f h a u =
      step (bit-cases u 0)
      (top rs (λ j. f (suc j)) (λ j l. h (suc j) (suc-le-suc l)) (λ i j l m e. omega (arith, a (suc i) (suc j) (suc-le-suc l) (suc-le-suc m) e)) (u / 2))
    where
      Goal : Type 0
      Goal = (Nothing (suc (length rs)) u × (sum_of (r ∷ rs) u ≡ 0)) ⊎ Top B (r ∷ rs) f u

      first : u % 2 ≡ 1 → Lead B (bit_xor r (sum_of rs (u / 2))) (f 0) → ((i : ℕ) → i < length rs → bit u (suc i) ≡ 1 → B (f (suc i)) (f 0) → ⊥) → Goal
      first e l m = inr (0, suc-le-suc zero-le, e, subst (λ (x : ℕ). Lead B x (f 0)) (sym (sum-take r rs u e)) l, least)
        where
          least : (i : ℕ) → i < suc (length rs) → bit u i ≡ 1 → B (f i) (f 0) → ⊥
          least zero g t b = irrefl (f 0) b
          least (suc i) g t b = m i (omega arith) t b

      other : (j : ℕ) → j < length rs → bit u (suc j) ≡ 1 → Lead B (sum_of (r ∷ rs) u) (f (suc j)) → (u % 2 ≡ 1 → B (f 0) (f (suc j)) → ⊥)
          → ((i : ℕ) → i < length rs → bit u (suc i) ≡ 1 → B (f (suc i)) (f (suc j)) → ⊥) → Goal
      other j g t l z m = inr (suc j, suc-le-suc g, t, l, least)
        where
          least : (i : ℕ) → i < suc (length rs) → bit u i ≡ 1 → B (f i) (f (suc j)) → ⊥
          least zero g t b = z t b
          least (suc i) g t b = m i (omega arith) t b

      both : u % 2 ≡ 1 → (t : Top B rs (λ j. f (suc j)) (u / 2)) → B (f 0) (f (suc t.0)) ⊎ ((f 0 ≡ f (suc t.0)) ⊎ B (f (suc t.0)) (f 0)) → Goal
      both e t (inl b) =
          first e (lead-xor (h 0 (suc-le-suc zero-le)) t.3 b)
          (λ i l k c. t.4 i l k (trans (f (suc i)) (f 0) (f (suc t.0)) c b))
      both e t (inr (inl q)) = let z : 0 ≡ suc t.0 = a 0 (suc t.0) (suc-le-suc zero-le) (suc-le-suc t.1) q in absurd (omega arith)
      both e t (inr (inr b)) =
          other t.0 t.1 t.2
          (subst (λ (x : ℕ). Lead B x (f (suc t.0))) (xor_comm (sum_of rs (u / 2)) r ∙ sym (sum-take r rs u e))
          (lead-xor t.3 (h 0 (suc-le-suc zero-le)) b))
          (λ k c. irrefl (f 0) (trans (f 0) (f (suc t.0)) (f 0) c b)) t.4

      none : u % 2 ≡ 0 → Nothing (length rs) (u / 2) → Nothing (suc (length rs)) u
      none e n zero l = e
      none e n (suc j) l = n j (omega arith)

      step : (u % 2 ≡ 0) ⊎ (u % 2 ≡ 1) → (Nothing (length rs) (u / 2) × (sum_of rs (u / 2) ≡ 0)) ⊎ Top B rs (λ j. f (suc j)) (u / 2) → Goal
      step (inl e) (inl n) = inl (none e n.0, sum-skip r rs u e ∙ n.1)
      step (inl e) (inr t) =
          other t.0 t.1 t.2 (subst (λ (x : ℕ). Lead B x (f (suc t.0))) (sym (sum-skip r rs u e)) t.3) (λ k c. zero_one e k) t.4
      step (inr e) (inl n) =
          first e (subst (λ (x : ℕ). Lead B x (f 0)) (sym (ap (bit_xor r) n.1 ∙ xor_zero_r r)) (h 0 (suc-le-suc zero-le)))
          (λ i l k c. zero_one (n.0 i l) k)
      step (inr e) (inr t) = both e t (tri (f 0) (f (suc t.0)))

  -- a sum that is zero on positions Z, with each position also those before it, takes no row with its lead in Z
  pub clear : (rows : List ℕ) (f : ℕ → ℕ) → Leads B rows f → Apart (length rows) f → (u : ℕ) (Z : ℕ → Type 0) → ((i p : ℕ) → B i p → Z p → Z i)
      → ((i : ℕ) → Z i → bit (sum_of rows u) i ≡ 0) → (j : ℕ) → j < length rows → Z (f j) → bit u j ≡ 0
  clear rows f h a u Z down z j l zj = go (top rows f h a u) (bit-cases u j)
    where
      at : (t : Top B rows f u) → bit u j ≡ 1 → B (f j) (f t.0) ⊎ ((f j ≡ f t.0) ⊎ B (f t.0) (f j)) → ⊥
      at t e (inl b) = t.4 j l e b
      at t e (inr (inl q)) = zero_one (z (f t.0) (subst Z q zj)) t.3.one
      at t e (inr (inr b)) = zero_one (z (f t.0) (down (f t.0) (f j) b zj)) t.3.one

      go : (Nothing (length rows) u × (sum_of rows u ≡ 0)) ⊎ Top B rows f u → (bit u j ≡ 0) ⊎ (bit u j ≡ 1) → bit u j ≡ 0
      go (inl n) c = n.0 j l
      go (inr t) (inl e) = e
      go (inr t) (inr e) = absurd (at t e (tri (f j) (f t.0)))

-- ---- the two orders

pub lt-tri : (a b : ℕ) → (a < b) ⊎ ((a ≡ b) ⊎ (b < a))
lt-tri a b = go (dec_lt a b) (dec_lt b a)
  where
    go : Dec (a < b) → Dec (b < a) → (a < b) ⊎ ((a ≡ b) ⊎ (b < a))
    go (yes h) d = inl h
    go (no h) (yes g) = inr (inr g)
    go (no h) (no g) = inr (inl (omega arith))

pub gt-tri : (a b : ℕ) → (b < a) ⊎ ((a ≡ b) ⊎ (a < b))
gt-tri a b = go (lt-tri b a)
  where
    go : (b < a) ⊎ ((b ≡ a) ⊎ (a < b)) → (b < a) ⊎ ((a ≡ b) ⊎ (a < b))
    go (inl h) = inl h
    go (inr (inl e)) = inr (inl (sym e))
    go (inr (inr h)) = inr (inr h)

pub first-unique : {a p q : ℕ} → First a p → First a q → p ≡ q
first-unique = lead-unique Before (λ a h. omega arith) (λ a b c g h. omega arith) lt-tri

pub last-unique : {a p q : ℕ} → Last a p → Last a q → p ≡ q
last-unique = lead-unique After (λ a h. omega arith) (λ a b c g h. omega arith) gt-tri

pub least : (rows : List ℕ) (f : ℕ → ℕ) → Leads Before rows f → Apart (length rows) f → (u : ℕ) → (Nothing (length rows) u × (sum_of rows u ≡ 0)) ⊎ Top Before rows f u
least = top Before (λ a h. omega arith) (λ a b c g h. omega arith) lt-tri

pub rising-apart : (k : ℕ) (f : ℕ → ℕ) → ((i j : ℕ) → i < j → j < k → f i < f j) → Apart k f
rising-apart k f r i j hi hj e = go (lt-tri i j)
  where
    go : (i < j) ⊎ ((i ≡ j) ⊎ (j < i)) → i ≡ j
    go (inl h) = absurd (omega (arith, r i j h hj))
    go (inr (inl q)) = q
    go (inr (inr h)) = absurd (omega (arith, r j i h hi))

module _ (rows : List ℕ) (f l : ℕ → ℕ) (s : Spans rows f l) where
  -- a sum that is zero before q takes only rows whose first one is at q or after
  pub zero-before : (u q : ℕ) → ((i : ℕ) → i < q → bit (sum_of rows u) i ≡ 0) → (j : ℕ) → j < length rows → f j < q → bit u j ≡ 0
  zero-before u q z =
      clear Before (λ a h. omega arith) (λ a b c g h. omega arith) lt-tri rows f s.first (rising-apart (length rows) f s.rising) u
      (λ i. i < q) (λ i p g h. omega arith) z

  -- a sum that is zero from p on takes only rows whose last one is before p
  pub zero-from : (u p : ℕ) → ((i : ℕ) → p ≤ i → bit (sum_of rows u) i ≡ 0) → (j : ℕ) → j < length rows → p ≤ l j → bit u j ≡ 0
  zero-from u p z =
      clear After (λ a h. omega arith) (λ a b c g h. omega arith) gt-tri rows l s.last s.apart u
      (λ i. p ≤ i) (λ i p g h. omega arith) z

  -- a sum that is zero takes nothing
  pub zero-nothing : (u : ℕ) → sum_of rows u ≡ 0 → Nothing (length rows) u
  zero-nothing u e j h = zero-before u (suc (f j)) (λ i g. ap (λ (x : ℕ). bit x i) e ∙ bit-zero i) j h (omega arith)

  -- equal sums take the same rows
  pub same_taken : (u v : ℕ) → sum_of rows u ≡ sum_of rows v → (j : ℕ) → j < length rows → bit u j ≡ bit v j
  same_taken u v e j h =
      bit-same u v j (zero-nothing (bit_xor u v) (sum-xor rows u v ∙ ap (bit_xor (sum_of rows u)) (sym e) ∙ xor_self (sum_of rows u)) j h)

  -- information below 2 ^ k is determined by its word
  pub encode_injective : (u v : ℕ) → u < 2 ^ length rows → v < 2 ^ length rows → sum_of rows u ≡ sum_of rows v → u ≡ v
  encode_injective u v hu hv e = below-ext (length rows) u v hu hv (same_taken u v e)

  -- THE CUT. x and y differ by codewords a, zero from p on, and b, zero before q: they agree at each row that begins before q and ends at p or after
  pub cut : (x y a b p q : ℕ) → bit_xor (sum_of rows x) (sum_of rows y) ≡ bit_xor a b → IsSum rows a → IsSum rows b
      → ((i : ℕ) → p ≤ i → bit a i ≡ 0) → ((i : ℕ) → i < q → bit b i ≡ 0)
      → (j : ℕ) → j < length rows → f j < q → p ≤ l j → bit x j ≡ bit y j
  cut x y a b p q e ga gb za zb j h hf hl =
      let na : bit ga.by j ≡ 0 = zero-from ga.by p (λ i g. ap (λ (w : ℕ). bit w i) ga.sum ∙ za i g) j h hl in
      let nb : bit gb.by j ≡ 0 = zero-before gb.by q (λ i g. ap (λ (w : ℕ). bit w i) gb.sum ∙ zb i g) j h hf in
      let same : sum_of rows (bit_xor x y) ≡ sum_of rows (bit_xor ga.by gb.by) =
      sum-xor rows x y ∙ e ∙ sym (sum-xor rows ga.by gb.by ∙ ap₂ bit_xor ga.sum gb.sum) in
      bit-same x y j (same_taken (bit_xor x y) (bit_xor ga.by gb.by) same j h ∙ bit-xor j ga.by gb.by ∙ ap₂ differ na nb)
