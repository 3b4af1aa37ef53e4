-- At each position just one of two: a row of a code has its lead there, or a row of the dual has, in the order turned round.
-- So a position is a head of a code exactly if it is no last one of the dual, and a last one exactly if it is no head of the dual.
use lib.Bits.{bit_and, bit_xor, differ}
use lib.Count.{ones}
use lib.Dec.{ltb, ltb→lt}
use lib.ListN.{get_or, length}
use lib.Pow.{pow-lt}
use mathlib.Core.List.{List, [], ◌∷◌}
use mathlib.Core.Logic.{inl, inr, ◌⊎◌}
use mathlib.Core.Path.{ap, ap₂, subst, sym, ◌∙◌, ◌≡◌}
use native.Mathlib.Decide.{dec_lt, ℕ_discrete}
use native.Mathlib.Omega.{arith}
use Prim.Native.Nat.{◌%◌, ◌+◌, ◌<◌, ◌^◌, min, suc, suc-le-suc, zero, zero-le, ℕ, ◌≤◌}
use Rattle.plates.proofs.OneCheck.{pow-here, pow-other}
use Rattle.plates.proofs.ProfileSteps.{before-suc, here-none, here-one}
use Rattle.plates.specs.Code.{Checked}
use Rattle.plates.specs.Counts.{before, here}
use Rattle.plates.specs.declared.Kind.TheVariants.{H}
use Rattle.trellises.proofs.PlateGenerates.{code-closed}
use Rattle.words.proofs.Choice.{count_none}
use Rattle.words.proofs.Masks.{bit-and}
use Rattle.words.proofs.Parity.{parity-comm, parity-power, parity-xor}
use Rattle.words.proofs.Span.{Nothing, Top, lead-unique, lead-xor, top, zero_one}
use Rattle.words.proofs.Word.{bit-ext, bit-zero, digit}
use Rattle.words.specs.Parity.{parity}
use Rattle.words.specs.Span.{Apart, Lead, Leads}
use Rattle.words.specs.Sum.{IsSum, sum_of}
use Rattle.words.specs.Word.{bit}

-- words that are alike wherever b has a one have the same parity with b
parity-alike : (a c b : ℕ) → ((i : ℕ) → (bit a i ≡ bit c i) ⊎ (bit b i ≡ 0)) → parity a b ≡ parity c b
parity-alike a c b h =
    ap (λ (x : ℕ). ones x % 2) (bit-ext (bit_and a b) (bit_and c b) (λ i. bit-and i a b ∙ side i (h i) ∙ sym (bit-and i c b)))
  where
    side : (i : ℕ) → (bit a i ≡ bit c i) ⊎ (bit b i ≡ 0) → min (bit a i) (bit b i) ≡ min (bit c i) (bit b i)
    side i (inl e) = omega arith
    side i (inr e) = omega arith

-- the first of k places that has P, or none of them has
pub first-place : (P : ℕ → Type 0) → ((j : ℕ) → Dec (P j)) → (k : ℕ)
    → ((j : ℕ) × (j < k) × P j × ((i : ℕ) → i < j → P i → ⊥)) ⊎ ((j : ℕ) → j < k → P j → ⊥)
first-place P dec zero = inr (λ j h. absurd (omega arith))
first-place P dec (suc k) = go (first-place P dec k) (dec k)
  where
    go : ((j : ℕ) × (j < k) × P j × ((i : ℕ) → i < j → P i → ⊥)) ⊎ ((j : ℕ) → j < k → P j → ⊥) → Dec (P k)
        → ((j : ℕ) × (j < suc k) × P j × ((i : ℕ) → i < j → P i → ⊥)) ⊎ ((j : ℕ) → j < suc k → P j → ⊥)
    go (inl t) d = inl (t.0, omega (arith, t.1), t.2, t.3)
    go (inr none) (yes p) = inl (k, omega arith, p, none)
    go (inr none) (no n) = inr (λ j h. at j h (dec_lt j k))
      where
        at : (j : ℕ) → j < suc k → Dec (j < k) → P j → ⊥
        at j h (yes l) = none j l
        at j h (no l) = let e : j ≡ k = omega arith in λ p. n (subst P e p)

-- some word that passes the checks has its lead at p
pub record LeadOfDual (B : ℕ → ℕ → Type 0) (n : ℕ) (checks : List ℕ) (p : ℕ) : Type 0 where
  pub word : ℕ
  pub passes : Checked n checks word
  pub lead : Lead B word p

-- an order of the positions turned round
abbrev pub Back : (ℕ → ℕ → Type 0) → ℕ → ℕ → Type 0
Back B i p = B p i

module _ (B : ℕ → ℕ → Type 0) (irrefl : (a : ℕ) → B a a → ⊥) (trans : (a b c : ℕ) → B a b → B b c → B a c)
    (tri : (a b : ℕ) → B a b ⊎ ((a ≡ b) ⊎ B b a)) where
  -- it is an order as well
  back-trans : (a b c : ℕ) → Back B a b → Back B b c → Back B a c
  back-trans a b c g h = trans c b a h g

  back-tri : (a b : ℕ) → Back B a b ⊎ ((a ≡ b) ⊎ Back B b a)
  back-tri a b = go (tri b a)
    where
      go : B b a ⊎ ((b ≡ a) ⊎ B a b) → B b a ⊎ ((a ≡ b) ⊎ B a b)
      go (inl h) = inl h
      go (inr (inl e)) = inr (inl (sym e))
      go (inr (inr h)) = inr (inr h)

  -- one word has no one before p, the other its lead at p in the order turned round: they meet at p or nowhere
  meets : (a b p : ℕ) → ((i : ℕ) → B i p → bit a i ≡ 0) → Lead (Back B) b p → parity a b ≡ bit a p
  meets a b p z l = parity-comm a b ∙ parity-alike b (2 ^ p) a (λ i. side i (tri i p)) ∙ parity-power p a
    where
      side : (i : ℕ) → B i p ⊎ ((i ≡ p) ⊎ B p i) → (bit b i ≡ bit (2 ^ p) i) ⊎ (bit a i ≡ 0)
      side i (inl h) = inr (z i h)
      side i (inr (inl e)) = inl (subst (λ (x : ℕ). bit b x ≡ bit (2 ^ p) x) (sym e) (l.one ∙ sym (pow-here p)))
      side i (inr (inr h)) = inl (l.zeros i h ∙ sym (pow-other p i (λ e. irrefl p (subst (B p) (sym e) h))))

  -- Rows have their leads at different positions, none of them at p: then some word that they all check has its lead at p in the order
  -- turned round. Row by row, a word that fails the row gains one that fails it too, whose lead is the row's own
  completed : (n : ℕ) (rows : List ℕ) (f : ℕ → ℕ) → Leads B rows f → Apart (length rows) f → ((j : ℕ) → j < length rows → f j < n)
      → (p : ℕ) → p < n → ((j : ℕ) → j < length rows → f j ≡ p → ⊥) → LeadOfDual (Back B) n rows p
  completed n [] f h a b p l none = record {
    word = 2 ^ p;
    passes = record { below = pow-lt l; even = λ j k. absurd (omega arith) };
    lead = record { one = pow-here p; zeros = λ i g. pow-other p i (λ e. irrefl p (subst (B p) (sym e) g)) };
  }
  completed n (r ∷ rs) f h a b p l none =
      go (completed n rs (λ j. f (suc j)) (λ j k. h (suc j) (suc-le-suc k)) (λ i j k m e. omega (arith, a (suc i) (suc j) (suc-le-suc k) (suc-le-suc m) e))
      (λ j k. b (suc j) (suc-le-suc k)))
    where
      -- the row's own lead
      own : Lead B r (f 0)
      own = h 0 (suc-le-suc zero-le)

      -- the row checks it too
      more : (v : ℕ) → Checked n rs v → parity r v ≡ 0 → Checked n (r ∷ rs) v
      more v c e = record { below = c.below; even = at }
        where
          at : (j : ℕ) → j < suc (length rs) → parity (get_or (r ∷ rs) j 0) v ≡ 0
          at zero k = e
          at (suc j) k = c.even j (omega arith)

      -- a word that fails the row, and one that fails it too
      add : B (f 0) p → (v : LeadOfDual (Back B) n rs p) → LeadOfDual (Back B) n rs (f 0) → parity r v.word ≡ 1 → LeadOfDual (Back B) n (r ∷ rs) p
      add c v w e = record {
        word = bit_xor v.word w.word;
        passes = more (bit_xor v.word w.word) (code-closed H n rs v.word w.word v.passes w.passes)
            (parity-comm r (bit_xor v.word w.word) ∙ parity-xor v.word w.word r
            ∙ ap₂ differ (parity-comm v.word r ∙ e) (parity-comm w.word r ∙ meets r w.word (f 0) own.zeros w.lead ∙ own.one));
        lead = lead-xor (Back B) irrefl back-trans back-tri v.lead w.lead c;
      }

      -- where the row's lead is before p, and where after
      side : (v : LeadOfDual (Back B) n rs p) → (B (f 0) p → LeadOfDual (Back B) n rs (f 0)) → B (f 0) p ⊎ ((f 0 ≡ p) ⊎ B p (f 0))
          → LeadOfDual (Back B) n (r ∷ rs) p
      side v w (inl c) = by (digit (parity r v.word) (omega arith))
        where
          by : (parity r v.word ≡ 0) ⊎ (parity r v.word ≡ 1) → LeadOfDual (Back B) n (r ∷ rs) p
          by (inl e) = record { word = v.word; passes = more v.word v.passes e; lead = v.lead }
          by (inr e) = add c v (w c) e
      side v w (inr (inl e)) = absurd (none 0 (suc-le-suc zero-le) e)
      side v w (inr (inr c)) = record {
        word = v.word;
        passes = more v.word v.passes (meets r v.word p (λ i g. own.zeros i (trans i p (f 0) g c)) v.lead ∙ own.zeros p c);
        lead = v.lead;
      }

      go : ((q : ℕ) → q < n → ((j : ℕ) → j < length rs → f (suc j) ≡ q → ⊥) → LeadOfDual (Back B) n rs q) → LeadOfDual (Back B) n (r ∷ rs) p
      go rest =
          side (rest p l (λ j k. none (suc j) (suc-le-suc k)))
          (λ c. rest (f 0) (b 0 (suc-le-suc zero-le)) (λ j k e. omega (arith, a (suc j) 0 (suc-le-suc k) (suc-le-suc zero-le) e))) (tri (f 0) p)

  -- a: rows with their leads at different positions before n. b: rows that generate just the words that the rows of a check, with their leads
  -- at different positions in the order turned round
  module _ (n : ℕ) (a b : List ℕ) (f g : ℕ → ℕ) (fa : Leads B a f) (da : Apart (length a) f) (within : (j : ℕ) → j < length a → f j < n)
      (gb : Leads (Back B) b g) (db : Apart (length b) g) (even : (j : ℕ) → j < length b → Checked n a (get_or b j 0))
      (all : (v : ℕ) → Checked n a v → IsSum b v) where
    -- not both: the two rows would have just p in common
    no-common-lead : (i j p : ℕ) → i < length a → j < length b → f i ≡ p → g j ≡ p → ⊥
    no-common-lead i j p k m e q =
        let x : Lead B (get_or a i 0) p = subst (Lead B (get_or a i 0)) e (fa i k) in
        let y : Lead (Back B) (get_or b j 0) p = subst (Lead (Back B) (get_or b j 0)) q (gb j m) in
        zero_one ((even j m).even i k) (meets (get_or a i 0) (get_or b j 0) p x.zeros y ∙ x.one)

    -- a lead of a word that the rows of a check is the lead of a row of b
    lead-in : (p : ℕ) → LeadOfDual (Back B) n a p → (j : ℕ) × (j < length b) × (g j ≡ p)
    lead-in p v = go (all v.word v.passes)
      where
        go : IsSum b v.word → (j : ℕ) × (j < length b) × (g j ≡ p)
        go s = by (top (Back B) irrefl back-trans back-tri b g gb db s.by)
          where
            by : (Nothing (length b) s.by × (sum_of b s.by ≡ 0)) ⊎ Top (Back B) b g s.by → (j : ℕ) × (j < length b) × (g j ≡ p)
            by (inl z) = absurd (zero_one (ap (λ (x : ℕ). bit x p) (sym s.sum ∙ z.1) ∙ bit-zero p) v.lead.one)
            by (inr t) = (
              t.0,
              t.1,
              lead-unique (Back B) irrefl back-trans back-tri (subst (λ (x : ℕ). Lead (Back B) x (g t.0)) s.sum t.3) v.lead,
            )

    -- at each position just one
    pub just-one : (p : ℕ) → p < n → here (length a) f p + here (length b) g p ≡ 1
    just-one p l = go (first-place (λ j. f j ≡ p) (λ j. ℕ_discrete (f j) p) (length a))
      where
        go : ((j : ℕ) × (j < length a) × (f j ≡ p) × ((i : ℕ) → i < j → f i ≡ p → ⊥)) ⊎ ((j : ℕ) → j < length a → f j ≡ p → ⊥)
            → here (length a) f p + here (length b) g p ≡ 1
        go (inl t) =
            omega (arith, here-one (length a) f p t.0 da t.1 t.2, here-none (length b) g p (λ j m q. no-common-lead t.0 j p t.1 m t.2 q))
        go (inr none) =
            let t = lead-in p (completed n a f fa da within p l none) in
            omega (arith, here-none (length a) f p none, here-one (length b) g p t.0 db t.1 t.2)

    -- so before t there are t leads in all
    pub fill-up : (t : ℕ) → t ≤ n → before (length a) f t + before (length b) g t ≡ t
    fill-up zero l = omega (arith, nothing (length a) f, nothing (length b) g)
      where
        nothing : (k : ℕ) (e : ℕ → ℕ) → before k e 0 ≡ 0
        nothing k e = count_none k (λ j. ltb (e j) 0) (λ j h q. omega (arith, ltb→lt (e j) 0 q))
    fill-up (suc t) l = omega (arith, fill-up t (omega arith), just-one t l, before-suc (length a) f t, before-suc (length b) g t)
