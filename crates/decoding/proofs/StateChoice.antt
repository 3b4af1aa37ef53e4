-- What is chosen at a state: no way through its branches beats it, and one that ties with it is later.
use lib.Dec.{T}
use lib.IntN.{◌+ℤ◌, ℤ}
use lib.Signed.{◌<ℤ◌, <ℤ-≤ℤ_trans, lt_z, lt_z_no, lt_z_yes}
use mathlib.Core.Bool.{Bool, false, not, true}
use mathlib.Core.Logic.{inl, inr, ◌≢◌, ◌⊎◌}
use mathlib.Core.Path.{ap, refl, subst, sym, ◌∙◌, ◌≡◌}
use native.Mathlib.Omega.{arith}
use Prim.Native.Nat.{◌*◌, ◌+◌, ◌<◌, suc, zero, ℕ}
use Rattle.decoding.proofs.EarlierWords.{earlier-behind, earlier-here}
use Rattle.decoding.proofs.IntegerOrder.{<ℤ-≤ℤ, add-lt, le-lt-or-eq}
use Rattle.decoding.specs.Taking.{preferred, signed}
use Rattle.words.specs.Word.{Earlier}

-- a way with word w and metric m does not beat the word W with metric B: it scores less, or ties and is W or later
abbrev pub Under : ℤ → ℕ → ℕ → ℤ → Type 0
Under B W w m = (m <ℤ B) ⊎ ((m ≡ B) × ((W ≡ w) ⊎ Earlier W w))

-- the same branch in front of both
pub under-behind : (b : ℕ) (y : ℤ) (B : ℤ) (W w : ℕ) (m : ℤ) → b < 2 → Under B W w m → Under (signed b y +ℤ B) (W * 2 + b) (w * 2 + b) (signed b y +ℤ m)
under-behind b y B W w m h (inl l) = inl (add-lt (signed b y) l)
under-behind b y B W w m h (inr (e, inl q)) = inr (ap (λ (z : ℤ). signed b y +ℤ z) e, inl (ap (λ (x : ℕ). x * 2 + b) q))
under-behind b y B W w m h (inr (e, inr q)) = inr (ap (λ (z : ℤ). signed b y +ℤ z) e, inr (earlier-behind b h q))

-- what is under a loser is under the winner: the winner scores more, or as much with 0 in front where the loser has 1
abbrev pub Beats : ℤ → ℕ → ℤ → ℕ → Type 0
Beats B b O o = (O <ℤ B) ⊎ ((O ≡ B) × (b ≡ 0) × (o ≡ 1))

pub under-beaten : (B O : ℤ) (b o U W w : ℕ) (m : ℤ) → Beats B b O o → Under O (U * 2 + o) (w * 2 + o) m → Under B (W * 2 + b) (w * 2 + o) m
under-beaten B O b o U W w m (inl l) (inl k) = inl (<ℤ-≤ℤ_trans k (<ℤ-≤ℤ l))
under-beaten B O b o U W w m (inl l) (inr (e, q)) = inl (subst (λ (z : ℤ). z <ℤ B) (sym e) l)
under-beaten B O b o U W w m (inr (e, c, d)) (inl k) = inl (subst (λ (z : ℤ). m <ℤ z) e k)
under-beaten B O b o U W w m (inr (e, c, d)) (inr (f, q)) =
    inr (f ∙ e, inr (subst (λ (x : ℕ). Earlier (W * 2 + x) (w * 2 + o)) (sym c) (subst (λ (x : ℕ). Earlier (W * 2 + 0) (w * 2 + x)) (sym d) (earlier-here W w))))

-- the preferred of two branches with different bits beats the other
T_true : (t : Bool) → t ≡ true → T t
T_true t e = subst (λ (b : Bool). T b) (sym e) tt

T_not : (t : Bool) → t ≡ false → T (not t)
T_not t e = subst (λ (b : Bool). T (not b)) (sym e) tt

flip : (a b : Bool) → not a ≡ b → a ≡ not b
flip true b e = ap not e
flip false b e = ap not e

less-or-tie : (a b : ℤ) → lt_z a b ≡ false → (b <ℤ a) ⊎ (b ≡ a)
less-or-tie a b e = le-lt-or-eq (lt_z_no (T_not (lt_z a b) e))

-- m and b are the further branch's, o and d what stood before
pub preferred-beats : (m o : ℤ) (b d : ℕ) → b < 2 → d < 2 → (b ≡ d → ⊥) → preferred m b o ≡ true → Beats m b o d
preferred-beats m o zero d hb hd n p = go (less-or-tie m o (flip (lt_z m o) true p))
  where
    go : (o <ℤ m) ⊎ (o ≡ m) → Beats m 0 o d
    go (inl l) = inl l
    go (inr e) = inr (e, refl, omega (arith, other))
      where
        other : d ≢ 0
        other q = n (sym q)
preferred-beats m o (suc zero) d hb hd n p = inl (lt_z_yes (T_true (lt_z o m) p))
preferred-beats m o (suc (suc b)) d hb hd n p = absurd (omega arith)

pub kept-beats : (m o : ℤ) (b d : ℕ) → b < 2 → d < 2 → (b ≡ d → ⊥) → preferred m b o ≡ false → Beats o d m b
kept-beats m o zero d hb hd n p = inl (lt_z_yes (T_true (lt_z m o) (flip (lt_z m o) false p)))
kept-beats m o (suc zero) d hb hd n p = go (less-or-tie o m p)
  where
    go : (m <ℤ o) ⊎ (m ≡ o) → Beats o d m 1
    go (inl l) = inl l
    go (inr e) = inr (e, omega (arith, other), refl)
      where
        other : d ≢ 1
        other q = n (sym q)
kept-beats m o (suc (suc b)) d hb hd n p = absurd (omega arith)
