-- The rows' last ones, noted row after row at their positions.
use lib.ListN.{get_or, get_or-replicate, length, length-replicate, length-set, replicate, set}
use lib.Seq.{get_or-set_other, get_or-set_same}
use mathlib.Core.List.{List}
use mathlib.Core.Path.{ap, sym, ◌∙◌, ◌≡◌}
use native.Mathlib.Decide.{dec_lt, ℕ_discrete}
use native.Mathlib.Omega.{arith}
use Prim.Native.Nat.{◌<◌, suc, ℕ}
use Rattle.decoding.specs.LiveRows.{EndsAre}
use Rattle.words.specs.Ends.{lasts}

-- the first k rows are noted
pub record Noted (rows : List ℕ) (k : ℕ) (ends : List ℕ) : Type 0 where
  pub size : length ends ≡ 64
  pub none : (t : ℕ) → t < 64 → get_or ends t 0 ≡ 0 → (j : ℕ) → j < k → lasts rows j ≡ t → ⊥
  pub some : (t j : ℕ) → t < 64 → get_or ends t 0 ≡ suc j → (j < k) × (lasts rows j ≡ t)

module _ (rows : List ℕ) where
  pub all_noted : {ends : List ℕ} → Noted rows (length rows) ends → EndsAre rows ends
  all_noted n = record { size = n.size; none = n.none; some = n.some }

  pub none-noted : Noted rows 0 (replicate 64 0)
  none-noted = record {
    size = length-replicate {A = ℕ} 64 0;
    none = λ t h z j l. absurd (omega arith);
    some = λ t j h e. absurd (omega (arith, get_or-replicate {A = ℕ} 64 t 0 0 h));
  }

  pub one-noted : {k : ℕ} {ends : List ℕ} → Noted rows k ends → (l : ℕ) → l ≡ lasts rows k → l < 64 → Noted rows (suc k) (set ends l (suc k))
  one-noted {k} {ends} n l e h = record {
    size = length-set ends l (suc k) ∙ n.size;
    none = λ t g z j m q. none t z j m q (ℕ_discrete t l) (dec_lt j k) g;
    some = λ t j g z. some t j g z (ℕ_discrete t l);
  }
    where
      noted : List ℕ
      noted = set ends l (suc k)

      old : (t : ℕ) → (t ≡ l → ⊥) → get_or ends t 0 ≡ get_or noted t 0
      old t d = sym (get_or-set_other ends l t (suc k) 0 d)

      new : (t : ℕ) → t ≡ l → get_or noted t 0 ≡ suc k
      new t p = ap (λ (i : ℕ). get_or noted i 0) p ∙ get_or-set_same ends l (suc k) 0 (omega (arith, n.size))

      none : (t : ℕ) → get_or noted t 0 ≡ 0 → (j : ℕ) → j < suc k → lasts rows j ≡ t → Dec (t ≡ l) → Dec (j < k) → t < 64 → ⊥
      none t z j m q (yes p) d g = omega (arith, new t p)
      none t z j m q (no p) (yes d) g = n.none t g (old t p ∙ z) j d q
      none t z j m q (no p) (no d) g =
          let i : j ≡ k = omega arith in
          p (sym q ∙ ap (lasts rows) i ∙ sym e)

      some : (t j : ℕ) → t < 64 → get_or noted t 0 ≡ suc j → Dec (t ≡ l) → (j < suc k) × (lasts rows j ≡ t)
      some t j g z (yes p) = let i : j ≡ k = omega (arith, new t p) in (omega arith, ap (lasts rows) i ∙ sym e ∙ sym p)
      some t j g z (no p) = let o = n.some t j g (old t p ∙ z) in (omega arith, o.1)
