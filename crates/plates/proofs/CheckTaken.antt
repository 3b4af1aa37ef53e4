-- Checks are taken in one after the other: the sums left are those that pass.
use lib.Bits.{bit_xor, differ, xor_comm, xor_lt}
use lib.ListN.{get_or, length, length-set, set}
use lib.Seq.{get_or-set_other, get_or-set_same}
use mathlib.Core.List.{List}
use mathlib.Core.Logic.{inl, inr, ◌≢◌, ◌⊎◌}
use mathlib.Core.Path.{ap, ap₂, subst, sym, ◌∙◌, ◌≡◌}
use native.Mathlib.Decide.{dec_lt, ℕ_discrete}
use native.Mathlib.Omega.{arith}
use Prim.Native.Nat.{◌+◌, ◌<◌, ◌^◌, zero-le, ℕ, ◌≤◌}
use Rattle.plates.proofs.Gaining.{not-odd}
use Rattle.plates.proofs.OneCheck.{one-check, parity-all}
use Rattle.plates.proofs.TableFilled.{units-words}
use Rattle.plates.specs.declared.Kind.{Kind}
use Rattle.plates.specs.declared.Kind.TheVariants.{H}
use Rattle.plates.specs.Filling.{Filled, Holds, Passing, PassingOne, unit}
use Rattle.plates.specs.Working.{FirstAt, Gained, GainedRow, NoneIn, Odd, Table}
use Rattle.words.proofs.Parity.{parity-comm, parity-xor, parity-zero}
use Rattle.words.proofs.Span.{lt-tri}
use Rattle.words.proofs.Sums.{in_row, in-xor}
use Rattle.words.proofs.Word.{xor_self}
use Rattle.words.specs.Parity.{parity}
use Rattle.words.specs.Sum.{IsSum}

-- no row is odd: all sums pass
pub check-none : {t : List ℕ} {n check : ℕ} → Table t n n → NoneIn t (Odd check) 0 n → PassingOne t t n check
check-none {t} {n} {check} s f = record { table = s; words = λ w. ((λ g. (g, parity-all check t (λ j l. even j (dec_lt j n)) w g)), λ p. p.0) }
  where
    even : (j : ℕ) → Dec (j < n) → parity check (get_or t j 0) ≡ 0
    even j (yes l) = not-odd (f j zero-le l)
    even j (no l) = ap (parity check) (s.unused j (omega arith)) ∙ parity-zero check

-- row p is odd, the later odd rows gain it, and it is put to zero
module _ {t u v : List ℕ} {n check p : ℕ} (s : Table t n n) (f : FirstAt t (Odd check) 0 n p)
    (g : Gained t u (Odd check) (p + 1) n p) (e : v ≡ set u p 0) where
  -- a row is even and stays, or is odd and gains row p: so it is with row p itself
  abbrev Row : ℕ → Type 0
  Row m = ((parity check (get_or t m 0) ≡ 0) × (get_or v m 0 ≡ get_or t m 0)) ⊎ ((parity check (get_or t m 0) ≡ 1) × (get_or v m 0 ≡ bit_xor (get_or t m 0) (get_or t p 0)))

  other : (m : ℕ) → m ≢ p → get_or v m 0 ≡ get_or u m 0
  other m d = ap (λ (x : List ℕ). get_or x m 0) e ∙ get_or-set_other u p m 0 0 d

  row-p : Row p
  row-p = inr (f.here.odd, ap (λ (x : List ℕ). get_or x p 0) e ∙ get_or-set_same u p 0 0 (omega (arith, g.size, s.size, s.few)) ∙ sym (xor_self (get_or t p 0)))

  row : (m : ℕ) → Row m
  row m = go (lt-tri m p) (dec_lt m n)
    where
      later : p < m → GainedRow (Odd check) (get_or t m 0) (get_or t p 0) (get_or u m 0) → Row m
      later b (inl q) = inr (q.0.odd, other m (λ z. omega arith) ∙ q.1)
      later b (inr q) = inl (not-odd q.0, other m (λ z. omega arith) ∙ q.1)

      go : (m < p) ⊎ ((m ≡ p) ⊎ (p < m)) → Dec (m < n) → Row m
      go (inl b) d = inl (not-odd (f.none m zero-le b), other m (λ z. omega arith) ∙ g.others m (inl (omega arith)))
      go (inr (inl q)) d = subst Row (sym q) row-p
      go (inr (inr b)) (yes l) = later b (g.rows m (omega arith) l)
      go (inr (inr b)) (no l) =
          inl (ap (parity check) (s.unused m (omega arith)) ∙ parity-zero check, other m (λ z. omega arith) ∙ g.others m (inr (omega arith)))

  from : (m : ℕ) → Row m → IsSum t (get_or v m 0)
  from m (inl q) = subst (IsSum t) (sym q.1) (in_row t m)
  from m (inr q) = subst (IsSum t) (sym q.1) (in-xor (in_row t m) (in_row t p))

  even : (m : ℕ) → Row m → parity check (get_or v m 0) ≡ 0
  even m (inl q) = ap (parity check) q.1 ∙ q.0
  even m (inr q) =
      ap (parity check) q.1 ∙ parity-comm check (bit_xor (get_or t m 0) (get_or t p 0)) ∙ parity-xor (get_or t m 0) (get_or t p 0) check
      ∙ ap₂ differ (parity-comm (get_or t m 0) check ∙ q.0) (parity-comm (get_or t p 0) check ∙ f.here.odd)

  back : (m : ℕ) → Row m → IsSum v (get_or t m 0) ⊎ IsSum v (bit_xor (get_or t p 0) (get_or t m 0))
  back m (inl q) = inl (subst (IsSum v) q.1 (in_row v m))
  back m (inr q) = inr (subst (IsSum v) (q.1 ∙ xor_comm (get_or t m 0) (get_or t p 0)) (in_row v m))

  narrow : (m : ℕ) → Row m → get_or v m 0 < 2 ^ n
  narrow m (inl q) = subst (λ (x : ℕ). x < 2 ^ n) (sym q.1) (s.narrow m)
  narrow m (inr q) = subst (λ (x : ℕ). x < 2 ^ n) (sym q.1) (xor_lt n (get_or t m 0) (get_or t p 0) (s.narrow m) (s.narrow p))

  pub check-found : PassingOne t v n check
  check-found = record {
    table = record {
      size = ap length e ∙ length-set u p 0 ∙ g.size ∙ s.size;
      short = s.short;
      few = s.few;
      narrow = λ m. narrow m (row m);
      unused = λ m l. other m (λ z. omega arith) ∙ g.others m (inr l) ∙ s.unused m l;
    };
    words = one-check check t v (get_or t p 0) (in_row t p) f.here.odd (λ m l. from m (row m)) (λ m l. even m (row m)) (λ m l. back m (row m));
  }

-- ---- one check after the other

pub passing-none : {t : List ℕ} {n : ℕ} {checks : List ℕ} → Table t n n → Passing t t n checks 0
passing-none s = record { table = s; words = λ w. ((λ g. (g, λ j h. absurd (omega arith))), λ p. p.0) }

pub passing-on : {t u v : List ℕ} {n : ℕ} {checks : List ℕ} {i check : ℕ} → check ≡ get_or checks i 0 → Passing t u n checks i → PassingOne u v n check → Passing t v n checks (i + 1)
passing-on {t} {u} {v} {n} {checks} {i} {check} e s o = record {
  table = o.table;
  words = λ w. (
    (λ g. (let p = (o.words w).0 g in let q = (s.words w).0 p.0 in (q.0, λ j l. at w p.1 q.1 j l (ℕ_discrete j i)))),
    λ p. (o.words w).1 ((s.words w).1 (p.0, λ j l. p.1 j (omega arith)), ap (λ (x : ℕ). parity x w) e ∙ p.1 i (omega arith)),
  );
}
  where
    at : (w : ℕ) → parity check w ≡ 0 → ((j : ℕ) → j < i → parity (get_or checks j 0) w ≡ 0) → (j : ℕ) → j < i + 1 → Dec (j ≡ i) → parity (get_or checks j 0) w ≡ 0
    at w z h j l (yes q) = ap (λ (x : ℕ). parity (get_or checks x 0) w) q ∙ ap (λ (x : ℕ). parity x w) (sym e) ∙ z
    at w z h j l (no d) = h j (omega arith)

pub passing-end : {t u : List ℕ} {n : ℕ} {checks : List ℕ} {i m : ℕ} → i ≤ m → m ≤ i → Passing t u n checks i → Passing t u n checks m
passing-end {t} {u} {n} {checks} {i} {m} h k s = let e : i ≡ m = omega arith in subst (Passing t u n checks) e s

-- from the unit words: the words of length n that pass all checks
pub checked : {n : ℕ} {kind : Kind} {rows t u : List ℕ} → kind ≡ H → n ≤ 64 → Holds t unit n → Passing t u n rows (length rows) → Filled n kind rows u n
checked {n} {kind} {rows} {t} {u} is-h short s p =
    subst (λ (x : Kind). Filled n x rows u n) (sym is-h)
    (record {
      table = p.table;
      code = λ w. (
        (λ g. (let q = (p.words w).0 g in record { below = (units-words short s w).0 q.0; even = q.1 })),
        λ c. (p.words w).1 ((units-words short s w).1 c.below, c.even),
      );
    })
