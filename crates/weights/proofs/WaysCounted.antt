-- The ways counted section by section are the words that a way spells, counted by their ones.
use borrow.Author.Tests.{eq-eqb, ne_eqb}
use lib.Count.{ones, ones_step}
use lib.Dec.{T, eqb}
use mathlib.Core.Bool.{◌&&◌, Bool, ◌||◌, cond, false, not, true}
use mathlib.Core.Logic.{inl, inr, ◌⊎◌}
use mathlib.Core.Path.{ap, ap₂, refl, subst, sym, ◌∙◌, ◌≡◌}
use native.Mathlib.Decide.{ℕ_discrete}
use native.Mathlib.Nat.{add_comm}
use native.Mathlib.Omega.{arith}
use Prim.Native.Nat.{◌%◌, ◌*◌, ◌+◌, ◌/◌, ◌<◌, ◌^◌, suc, zero, ℕ}
use Rattle.decoding.specs.Backward.{Chain, branch_by, follow}
use Rattle.decoding.specs.Stepping.{SectionFits}
use Rattle.trellises.proofs.SectionBranches.{below-high, below-low, other-bit}
use Rattle.trellises.specs.declared.Section.{Section}
use Rattle.trellises.specs.Numbers.{bit_of, branch_count, leads_to}
use Rattle.weights.proofs.CountPairs.{count-pairs, count_same}
use Rattle.weights.specs.Ways.{leaving, shifted, ways}
use Rattle.words.proofs.Choice.{count_none}
use Rattle.words.proofs.Word.{digit}
use Rattle.words.specs.Choice.{count, more}

-- whether a branch with bit b leaves state i
abbrev pub opens : Section → ℕ → ℕ → Bool
opens c i b = c.begins || eqb (bit_of c i) b

-- whether x spells a way through d sections, from state i at depth t
abbrev pub spells : (ℕ → Section) → ℕ → ℕ → ℕ → ℕ → Bool
spells sections zero t i x = true
spells sections (suc d) t i x = opens (sections t) i (x % 2) && spells sections d (suc t) (follow (sections t) i (x % 2)) (x / 2)

-- ---- the branches of a state, by their bits

-- the numbers by a bit, where a branch has it
abbrev by_bit : Bool → ℕ → (ℕ → ℕ) → ℕ → ℕ
by_bit o b F w = cond o (shifted b F w) 0

module _ (c : Section) (f : SectionFits c) (old : ℕ → ℕ → ℕ) (i w : ℕ) (h : i < 2 ^ c.live) where
  -- by the bit of the state's own branch, and the bit of the other
  by_digits : (b : Bool) (x y : ℕ) → (x ≡ 0) ⊎ (x ≡ 1) → (b ≡ true → y ≡ (x + 1) % 2)
      → cond b (shifted x (old (leads_to c i)) w + shifted y (old (leads_to c (i + 2 ^ c.live))) w) (shifted x (old (leads_to c i)) w)
      ≡ by_bit (b || eqb x 0) 0 (old (leads_to c (cond (b && not (eqb x 0)) (i + 2 ^ c.live) i))) w
      + by_bit (b || eqb x 1) 1 (old (leads_to c (cond (b && not (eqb x 1)) (i + 2 ^ c.live) i))) w
  by_digits true x y (inl e) g = let z : y ≡ 1 = g refl ∙ ap (λ (x : ℕ). (x + 1) % 2) e in rw (e, z)
  by_digits true x y (inr e) g =
      let z : y ≡ 0 = g refl ∙ ap (λ (x : ℕ). (x + 1) % 2) e in
      rw (e, z) (add_comm (shifted 1 (old (leads_to c i)) w) (old (leads_to c (i + 2 ^ c.live)) w))
  by_digits false x y (inl e) g = rw e (omega arith)
  by_digits false x y (inr e) g = rw e (omega arith)

  pub leaving-bits : leaving c old i w ≡ by_bit (opens c i 0) 0 (old (follow c i 0)) w + by_bit (opens c i 1) 1 (old (follow c i 1)) w
  leaving-bits = by_digits c.begins (bit_of c i) (bit_of c (i + 2 ^ c.live)) (digit (bit_of c i) (omega arith)) (λ e. other-bit c i h (f.begun e))

  -- the branch that a bit names is one of the section's
  pub branch-below : (b : ℕ) → branch_by c i b < branch_count c
  branch-below b = go c.begins refl (not (eqb (bit_of c i) b))
    where
      go : (t : Bool) → c.begins ≡ t → (u : Bool) → cond (t && u) (i + 2 ^ c.live) i < branch_count c
      go true e true = below-high c i h e
      go true e false = below-low c i h
      go false e u = below-low c i h

-- ---- words by their last digit

digits_mod : (x b : ℕ) → b < 2 → (x * 2 + b) % 2 ≡ b
digits_mod x b h = omega arith

digits_div : (x b : ℕ) → b < 2 → (x * 2 + b) / 2 ≡ x
digits_div x b h = omega arith

digits-ones : (x b : ℕ) → b < 2 → ones (x * 2 + b) ≡ b + ones x
digits-ones x b h = ones_step (x * 2 + b) ∙ ap₂ (λ (m n : ℕ). m + ones n) (digits_mod x b h) (digits_div x b h)

both-assoc : (a b c : Bool) → ((a && b) && c) ≡ (a && (b && c))
both-assoc true b c = refl
both-assoc false b c = refl

none_both : (a : Bool) → (a && false) ≡ false
none_both true = refl
none_both false = refl

-- how many of the numbers below m pass P and have w ones, where b is added to the ones
module _ (m : ℕ) (P : ℕ → Bool) where
  counted-shift : (b : ℕ) → b < 2 → (F : ℕ → ℕ) → ((w : ℕ) → F w ≡ count m (λ x. P x && eqb (ones x) w)) → (w : ℕ)
      → count m (λ x. P x && eqb (b + ones x) w) ≡ shifted b F w
  counted-shift zero h F e w = count_same m _ _ (λ x l. ap (λ (n : ℕ). P x && eqb n w) (zero_more (ones x))) ∙ sym (e w)
    where
      zero_more : (n : ℕ) → 0 + n ≡ n
      zero_more n = omega arith
  counted-shift (suc zero) h F e zero =
      count_none m (λ x. P x && eqb (1 + ones x) 0) (λ x l t. fails (subst T (none x) t))
    where
      none : (x : ℕ) → (P x && eqb (1 + ones x) 0) ≡ false
      none x = ap (λ (q : Bool). P x && q) (ne_eqb (1 + ones x) 0 (λ q. omega arith)) ∙ none_both (P x)

      fails : T false → ⊥
      fails t = t
  counted-shift (suc zero) h F e (suc w) = count_same m _ _ (λ x l. ap (λ (q : Bool). P x && q) (one_more (ones x))) ∙ sym (e w)
    where
      one_more : (n : ℕ) → eqb (1 + n) (suc w) ≡ eqb n w
      one_more n = go (ℕ_discrete n w)
        where
          go : Dec (n ≡ w) → eqb (1 + n) (suc w) ≡ eqb n w
          go (yes q) = eq-eqb (1 + n) (suc w) (omega arith) ∙ sym (eq-eqb n w q)
          go (no q) = ne_eqb (1 + n) (suc w) (λ z. q (omega arith)) ∙ sym (ne_eqb n w q)
  counted-shift (suc (suc b)) h F e w = absurd (omega arith)

  -- where a branch has the bit, and where none has
  pub counted-bit : (o : Bool) (b : ℕ) → b < 2 → (F : ℕ → ℕ) → ((w : ℕ) → F w ≡ count m (λ x. P x && eqb (ones x) w)) → (w : ℕ)
      → count m (λ x. o && (P x && eqb (b + ones x) w)) ≡ by_bit o b F w
  counted-bit true b h F e w = counted-shift b h F e w
  counted-bit false b h F e w = count_none m (λ x. false) (λ x l t. t)

module _ (sections : ℕ → Section) (n : ℕ) (chain : Chain sections n) where
  -- the words that go on with bit b
  half : (d t i w b : ℕ) → b < 2
      → ((v : ℕ) → ways sections d (suc t) (follow (sections t) i b) v
      ≡ count (2 ^ d) (λ x. spells sections d (suc t) (follow (sections t) i b) x && eqb (ones x) v))
      → count (2 ^ d) (λ x. spells sections (suc d) t i (x * 2 + b) && eqb (ones (x * 2 + b)) w)
      ≡ by_bit (opens (sections t) i b) b (ways sections d (suc t) (follow (sections t) i b)) w
  half d t i w b h ih =
      count_same (2 ^ d) _ _ (λ x l.
      ap₂ (λ (r q : ℕ). (opens (sections t) i r && spells sections d (suc t) (follow (sections t) i r) q) && eqb (ones (x * 2 + b)) w)
      (digits_mod x b h) (digits_div x b h)
      ∙ ap (λ (k : ℕ). (opens (sections t) i b && spells sections d (suc t) (follow (sections t) i b) x) && eqb k w) (digits-ones x b h)
      ∙ both-assoc (opens (sections t) i b) (spells sections d (suc t) (follow (sections t) i b) x) (eqb (b + ones x) w))
      ∙ counted-bit (2 ^ d) (λ x. spells sections d (suc t) (follow (sections t) i b) x) (opens (sections t) i b) b h _ ih w

  pub ways-counted : (d t i w : ℕ) → t + d ≡ n → i < 2 ^ (sections t).live
      → ways sections d t i w ≡ count (2 ^ d) (λ x. spells sections d t i x && eqb (ones x) w)
  unfolding ones
  ways-counted zero t i zero e h = refl
  ways-counted zero t i (suc w) e h = sym (ap (λ (b : Bool). more b 0) (ne_eqb 0 (suc w) (λ q. omega arith)))
  ways-counted (suc d) t i w e h =
      let k : t < n = omega arith in
      let on : (b : ℕ) → follow (sections t) i b < 2 ^ (sections (suc t)).live =
      λ b. chain.leads t k (branch_by (sections t) i b) (branch-below (sections t) (chain.fits t k) (λ j v. 0) i w h b) in
      let even : (x : ℕ) → x * 2 + 0 ≡ x * 2 = λ x. omega arith in
      leaving-bits (sections t) (chain.fits t k) (ways sections d (suc t)) i w h
      ∙ sym (count-pairs d (λ x. spells sections (suc d) t i x && eqb (ones x) w)
      ∙ ap₂ ◌+◌
      (count_same (2 ^ d) _ _ (λ x l. ap (λ (y : ℕ). spells sections (suc d) t i y && eqb (ones y) w) (sym (even x)))
      ∙ half d t i w 0 (omega arith) (λ v. ways-counted d (suc t) (follow (sections t) i 0) v (omega arith) (on 0)))
      (half d t i w 1 (omega arith) (λ v. ways-counted d (suc t) (follow (sections t) i 1) v (omega arith) (on 1))))
