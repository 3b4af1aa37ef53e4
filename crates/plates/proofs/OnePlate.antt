-- A code has at most one list of plate rows.
use lib.ListN.{length}
use mathlib.Core.List.{List, [], ◌∷◌}
use mathlib.Core.Logic.{inl, inr, ◌⊎◌}
use mathlib.Core.Path.{ap₂, refl, subst, sym, ◌∙◌, ◌≡◌}
use native.Mathlib.Omega.{arith}
use Prim.Native.Nat.{◌<◌, suc, suc-le-suc, zero, zero-le, ℕ, ◌≤◌}
use Rattle.plates.specs.Heads.{RowFor, RowsOf}
use Rattle.words.proofs.Span.{lt-tri, zero_one}
use Rattle.words.specs.Span.{First, Last}
use Rattle.words.specs.Word.{Earlier, bit}

-- neither of two words is earlier than the other if the other is
pub not-both : (a b : ℕ) → Earlier a b → Earlier b a → ⊥
not-both a b s t = go (lt-tri s.place t.place)
  where
    go : (s.place < t.place) ⊎ ((s.place ≡ t.place) ⊎ (t.place < s.place)) → ⊥
    go (inl h) = zero_one s.zero_here (sym (t.same s.place h) ∙ s.one_there)
    go (inr (inl e)) = zero_one s.zero_here (subst (λ (x : ℕ). bit a x ≡ 1) (sym e) t.one_there)
    go (inr (inr h)) = zero_one t.zero_here (sym (s.same t.place h) ∙ t.one_there)

row-unique : (C : ℕ → Type 0) (a b p m n : ℕ) → RowFor C p a m → RowFor C p b n → a ≡ b
row-unique C a b p m n x y =
    let e : m ≡ n = (let h₁ : m ≤ n = x.soonest b n y.codeword y.begins y.ends in let h₂ : n ≤ m = y.soonest a m x.codeword x.begins x.ends in omega arith) in
    go (x.earliest b y.codeword y.begins (subst (Last b) (sym e) y.ends)) (y.earliest a x.codeword x.begins (subst (Last a) e x.ends))
  where
    go : (a ≡ b) ⊎ Earlier a b → (b ≡ a) ⊎ Earlier b a → a ≡ b
    go (inl q) t = q
    go (inr s) (inl q) = sym q
    go (inr s) (inr t) = absurd (not-both a b s t)

-- the codewords that are zero up to q
abbrev Beyond : (ℕ → Type 0) → ℕ → ℕ → Type 0
Beyond C q w = C w × ((i : ℕ) → i ≤ q → bit w i ≡ 0)

tail_of : (C : ℕ → Type 0) (r : ℕ) (rs : List ℕ) (f l : ℕ → ℕ) (q : ℕ) → f 0 ≡ q → RowsOf C (r ∷ rs) f l → RowsOf (Beyond C q) rs (λ j. f (suc j)) (λ j. l (suc j))
tail_of C r rs f l q e p = record {
  row = λ j k. (let b = p.row (suc j) (suc-le-suc k) in record {
    codeword = (b.codeword, λ i h. b.begins.zeros i (omega (arith, p.order 0 (suc j) (suc-le-suc zero-le) (suc-le-suc k))));
    begins = b.begins;
    ends = b.ends;
    soonest = λ w m c. b.soonest w m c.0;
    earliest = λ w c. b.earliest w c.0;
  });
  order = λ i j h k. p.order (suc i) (suc j) (suc-le-suc h) (suc-le-suc k);
  heads = λ w m c h. shift w m c h (p.heads w m c.0 h);
}
  where
    shift : (w m : ℕ) → Beyond C q w → First w m → (j : ℕ) × (j < suc (length rs)) × (f j ≡ m) → (j : ℕ) × (j < length rs) × (f (suc j) ≡ m)
    shift w m c h t = go t.0 t.1 t.2
      where
        go : (j : ℕ) → j < suc (length rs) → f j ≡ m → (j : ℕ) × (j < length rs) × (f (suc j) ≡ m)
        go zero k a = absurd (zero_one (c.1 m (omega arith)) h.one)
        go (suc j) k a = (j, omega arith, a)

head_first : (C : ℕ → Type 0) (r : ℕ) (rs : List ℕ) (f l : ℕ → ℕ) → RowsOf C (r ∷ rs) f l → (w p : ℕ) → C w → First w p → f 0 ≤ p
head_first C r rs f l q w p c h = let t = q.heads w p c h in go t.0 t.1 t.2
  where
    go : (j : ℕ) → j < suc (length rs) → f j ≡ p → f 0 ≤ p
    go zero k e = omega arith
    go (suc j) k e = omega (arith, q.order 0 (suc j) (suc-le-suc zero-le) k)

pub one-plate : (C : ℕ → Type 0) (xs ys : List ℕ) (f l f' l' : ℕ → ℕ) → RowsOf C xs f l → RowsOf C ys f' l' → xs ≡ ys
one-plate C [] [] f l f' l' p q = refl
one-plate C [] (b ∷ ys) f l f' l' p q =
    let t = q.row 0 (suc-le-suc zero-le) in absurd (omega (arith, (p.heads b (f' 0) t.codeword t.begins).1))
one-plate C (a ∷ xs) [] f l f' l' p q =
    let t = p.row 0 (suc-le-suc zero-le) in absurd (omega (arith, (q.heads a (f 0) t.codeword t.begins).1))
one-plate C (a ∷ xs) (b ∷ ys) f l f' l' p q =
    let x = p.row 0 (suc-le-suc zero-le) in
    let y = q.row 0 (suc-le-suc zero-le) in
    let h₁ : f 0 ≤ f' 0 = head_first C a xs f l p b (f' 0) y.codeword y.begins in
    let h₂ : f' 0 ≤ f 0 = head_first C b ys f' l' q a (f 0) x.codeword x.begins in
    let e : f' 0 ≡ f 0 = omega arith in
    ap₂ ◌∷◌ (row-unique C a b (f 0) (l 0) (l' 0) x (subst (λ (z : ℕ). RowFor C z b (l' 0)) e y))
    (one-plate (Beyond C (f 0)) xs ys (λ j. f (suc j)) (λ j. l (suc j)) (λ j. f' (suc j)) (λ j. l' (suc j)) (tail_of C a xs f l (f 0) refl p) (tail_of C b ys f' l' (f 0) e q))
