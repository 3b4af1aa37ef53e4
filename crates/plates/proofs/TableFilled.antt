-- The table of a matrix: its rows, or the unit words, are put in place by place, and the zero words after them change no sum.
use lib.ListN.{get_or, length, length-set, replicate, set, take}
use lib.Pow.{pow-lt, pow_pos, shl_exact}
use lib.Seq.{ext_get_or, get_or-set_other, get_or-set_same, get_or-take, length-take-le}
use mathlib.Core.List.{List}
use mathlib.Core.Logic.{◌↔◌}
use mathlib.Core.Path.{ap, refl, subst, sym, ◌∙◌, ◌≡◌}
use native.Mathlib.Decide.{dec_lt, ℕ_discrete}
use native.Mathlib.Omega.{arith}
use Prim.Native.Nat.{◌%◌, ◌*◌, ◌+◌, ◌<◌, ◌^◌, suc, zero, ℕ, ◌≤◌}
use Rattle.plates.proofs.OneCheck.{every-word}
use Rattle.plates.specs.declared.Kind.{Kind}
use Rattle.plates.specs.declared.Kind.TheVariants.{G}
use Rattle.plates.specs.Filling.{Filled, Holds, row_at, unit}
use Rattle.plates.specs.Working.{SameSums, Table}
use Rattle.words.proofs.Sums.{in_all, in_row, in-zero}
use Rattle.words.specs.Sum.{IsSum}

-- ---- zero words

pub zeros-at : (n m : ℕ) → ◌≡◌ {A = ℕ} (get_or (replicate n 0) m 0) 0
zeros-at zero m = refl
zeros-at (suc n) zero = refl
zeros-at (suc n) (suc m) = zeros-at n m

-- zero rows after the first k change no sum
pub sums-used : (t : List ℕ) (k : ℕ) → k ≤ length t → ((j : ℕ) → k ≤ j → get_or t j 0 ≡ 0) → SameSums (take k t) t
sums-used t k h z = record {
  to = in_all (take k t) t (λ j l. subst (IsSum t) (sym (get_or-take k t j 0 (omega (arith, length-take-le k t h)))) (in_row t j));
  from = in_all t (take k t) (λ j l. go j (dec_lt j k));
}
  where
    go : (j : ℕ) → Dec (j < k) → IsSum (take k t) (get_or t j 0)
    go j (yes l) = subst (IsSum (take k t)) (get_or-take k t j 0 l) (in_row (take k t) j)
    go j (no l) = subst (IsSum (take k t)) (sym (z j (omega arith))) (in-zero (take k t))

-- ---- place by place

pub holds-start : {t : List ℕ} {f : ℕ → ℕ} → t ≡ replicate 64 0 → Holds t f 0
holds-start {t} e = record {
  size = ap length e;
  here = λ j h. absurd (omega arith);
  zeros = λ j h. ap (λ (x : List ℕ). get_or x j 0) e ∙ zeros-at 64 j;
}

pub holds_on : {t : List ℕ} {f : ℕ → ℕ} {i w : ℕ} → i < 64 → w ≡ f i → Holds t f i → Holds (set t i w) f (i + 1)
holds_on {t} {f} {i} {w} h e s = record {
  size = length-set t i w ∙ s.size;
  here = λ j l. go j l (ℕ_discrete j i);
  zeros = λ j l. get_or-set_other t i j w 0 (λ q. omega arith) ∙ s.zeros j (omega arith);
}
  where
    go : (j : ℕ) → j < i + 1 → Dec (j ≡ i) → get_or (set t i w) j 0 ≡ f j
    go j l (yes q) = ap (λ (x : ℕ). get_or (set t i w) x 0) q ∙ get_or-set_same t i w 0 (omega (arith, s.size)) ∙ e ∙ ap f (sym q)
    go j l (no d) = get_or-set_other t i j w 0 d ∙ s.here j (omega arith)

pub holds-end : {t : List ℕ} {f : ℕ → ℕ} {i m : ℕ} → i ≤ m → m ≤ i → Holds t f i → Holds t f m
holds-end {t} {f} {i} {m} h k s = let e : i ≡ m = omega arith in subst (Holds t f) e s

-- a unit word by a shift
pub shifted_one : (i : ℕ) → i < 64 → 1 * 2 ^ i % 2 ^ 64 ≡ 2 ^ i
shifted_one i h = shl_exact 1 i 64 (omega arith) (omega arith) ∙ omega arith

-- ---- the table, and its code

module _ {t : List ℕ} {f : ℕ → ℕ} {n m : ℕ} (short : n ≤ 64) (few : m ≤ 64) (small : (j : ℕ) → j < m → f j < 2 ^ n) (s : Holds t f m) where
  pub holds-table : Table t n m
  holds-table = record { size = s.size; short = short; few = few; narrow = λ j. go j (dec_lt j m); unused = s.zeros }
    where
      go : (j : ℕ) → Dec (j < m) → get_or t j 0 < 2 ^ n
      go j (yes h) = subst (λ (x : ℕ). x < 2 ^ n) (sym (s.here j h)) (small j h)
      go j (no h) = subst (λ (x : ℕ). x < 2 ^ n) (sym (s.zeros j (omega arith))) (pow_pos n)

  pub holds-sums : SameSums (take m t) t
  holds-sums = sums-used t m (omega (arith, s.size)) s.zeros

  holds-length : length (take m t) ≡ m
  holds-length = length-take-le m t (omega (arith, s.size))

  holds_row : (j : ℕ) → j < m → get_or (take m t) j 0 ≡ f j
  holds_row j h = get_or-take m t j 0 h ∙ s.here j h

-- the rows of the matrix: as generator its code is their sums
pub loaded : {n : ℕ} {kind : Kind} {rows t : List ℕ} → kind ≡ G → n ≤ 64 → length rows ≤ 64 → ((j : ℕ) → j < length rows → get_or rows j 0 < 2 ^ n)
    → Holds t (row_at rows) (length rows) → Filled n kind rows t (length rows)
loaded {n} {kind} {rows} {t} is-g short few small s =
    subst (λ (x : Kind). Filled n x rows t (length rows)) (sym is-g)
    (record {
      table = holds-table short few small s;
      code = λ w. ((λ g. subst (λ (x : List ℕ). IsSum x w) e (same.from w g)), λ g. same.to w (subst (λ (x : List ℕ). IsSum x w) (sym e) g));
    })
  where
    same : SameSums (take (length rows) t) t
    same = holds-sums short few small s

    e : take (length rows) t ≡ rows
    e = ext_get_or 0 (take (length rows) t) rows (holds-length short few small s) (λ j h. holds_row short few small s j (omega (arith, holds-length short few small s)))

-- the unit words: their sums are all words of length n
pub units-table : {n : ℕ} {t : List ℕ} → n ≤ 64 → Holds t unit n → Table t n n
units-table short s = holds-table short short (λ j h. pow-lt h) s

pub units-words : {n : ℕ} {t : List ℕ} → n ≤ 64 → Holds t unit n → (w : ℕ) → IsSum t w ↔ (w < 2 ^ n)
units-words {n} {t} short s w = ((λ g. every.0 (same.from w g)), λ h. same.to w (every.1 h))
  where
    same : SameSums (take n t) t
    same = holds-sums short short (λ j h. pow-lt h) s

    every : IsSum (take n t) w ↔ (w < 2 ^ n)
    every = every-word n (take n t) (holds-length short short (λ j h. pow-lt h) s) (holds_row short short (λ j h. pow-lt h) s) w
