-- The sums of some rows have a parity-check matrix: it begins with a check for each position, and each row that comes in is made to pass.
use lib.Bits.{bit_xor, differ, xor_lt}
use lib.ListN.{get_or, length, length-map}
use lib.Pow.{pow-lt, suc_ones}
use mathlib.Core.List.{List, [], map, ◌∷◌}
use mathlib.Core.Logic.{inl, inr, ◌↔◌, ◌⊎◌}
use mathlib.Core.Path.{ap, ap₂, refl, subst, sym, ◌∙◌, ◌≡◌}
use native.Mathlib.Decide.{dec_lt}
use native.Mathlib.Omega.{arith}
use Prim.Native.Nat.{◌%◌, ◌+◌, ◌/◌, ◌<◌, ◌^◌, suc, suc-le-suc, zero, zero-le, ℕ}
use Rattle.demands.specs.Accepted.{ParityChecks}
use Rattle.plates.specs.Code.{Checked}
use Rattle.words.proofs.Parity.{differ-mod, parity-comm, parity-power, parity-xor, parity-zero, parity-zero-left}
use Rattle.words.proofs.Sums.{in_all, in-cons, in_row, in-xor}
use Rattle.words.proofs.Word.{bits_below, bits-zero, differ-zero, digit, xor-cancel}
use Rattle.words.specs.Parity.{parity}
use Rattle.words.specs.Sum.{IsSum, sum_of, taken}
use Rattle.words.specs.Word.{bit}

-- ---- a check for each position

units : ℕ → ℕ → List ℕ
units from zero = []
units from (suc count) = 2 ^ from ∷ units (suc from) count

units-count : (from count : ℕ) → length (units from count) ≡ count
unfolding units
units-count from zero = refl
units-count from (suc count) = ap suc (units-count (suc from) count)

unit-at : (from count j : ℕ) → j < count → get_or (units from count) j 0 ≡ 2 ^ (from + j)
unfolding units
unit-at from zero j h = absurd (omega arith)
unit-at from (suc count) zero h = let e : from ≡ from + 0 = omega arith in ap (λ (x : ℕ). 2 ^ x) e
unit-at from (suc count) (suc j) h =
    let e : suc from + j ≡ from + suc j = omega arith in
    unit-at (suc from) count j (omega arith) ∙ ap (λ (x : ℕ). 2 ^ x) e

unit-is : (n j : ℕ) → j < n → get_or (units 0 n) j 0 ≡ 2 ^ j
unit-is n j h = let e : 0 + j ≡ j = omega arith in unit-at 0 n j h ∙ ap (λ (x : ℕ). 2 ^ x) e

-- ---- a check made to pass a row r, by a check q that does not

mend : ℕ → ℕ → ℕ → ℕ
mend q r h = bit_xor h (taken (parity h r) q)

small : (a b : ℕ) → parity a b < 2
small a b = omega arith

module _ (q r h w : ℕ) where
  mend-even : parity h r ≡ 0 → parity (mend q r h) w ≡ parity h w
  unfolding mend
  mend-even e =
      ap (λ (d : ℕ). parity (bit_xor h (taken d q)) w) e ∙ parity-xor h 0 w ∙ ap (differ (parity h w)) (parity-zero-left w) ∙ differ-zero (parity h w)

  mend-odd : parity h r ≡ 1 → parity (mend q r h) w ≡ (parity h w + parity q w) % 2
  unfolding mend
  mend-odd e =
      ap (λ (d : ℕ). parity (bit_xor h (taken d q)) w) e ∙ parity-xor h q w ∙ differ-mod (parity h w) (parity q w) (small h w) (small q w)

mend-below : (n q r h : ℕ) → q < 2 ^ n → h < 2 ^ n → mend q r h < 2 ^ n
unfolding mend
mend-below n q r h k l = xor_lt n h (taken (parity h r) q) l (go (parity h r))
  where
    go : (d : ℕ) → taken d q < 2 ^ n
    go zero = omega (arith, k)
    go (suc d) = k

-- the parity of a check with a sum of two words
parity-sum : (c a b : ℕ) → parity c (bit_xor a b) ≡ (parity c a + parity c b) % 2
parity-sum c a b =
    parity-comm c (bit_xor a b) ∙ parity-xor a b c ∙ ap₂ differ (parity-comm a c) (parity-comm b c)
    ∙ differ-mod (parity c a) (parity c b) (small c a) (small c b)

-- ---- lists

mapped : (f : ℕ → ℕ) (xs : List ℕ) (j : ℕ) → j < length xs → get_or (map f xs) j 0 ≡ f (get_or xs j 0)
mapped f [] j h = absurd (omega arith)
mapped f (x ∷ xs) zero h = refl
mapped f (x ∷ xs) (suc j) h = mapped f xs j (omega arith)

-- every check passes r, or some check does not
abbrev Finding : List ℕ → ℕ → Type 0
Finding checks r =
    ((j : ℕ) → j < length checks → parity (get_or checks j 0) r ≡ 0) ⊎ ((p : ℕ) × (p < length checks) × (parity (get_or checks p 0) r ≡ 1))

find : (checks : List ℕ) (r : ℕ) → Finding checks r
find [] r = inl (λ j h. absurd (omega arith))
find (c ∷ cs) r = go (digit (parity c r) (small c r)) (find cs r)
  where
    go : (parity c r ≡ 0) ⊎ (parity c r ≡ 1) → Finding cs r → Finding (c ∷ cs) r
    go (inr e) rest = inr (0, suc-le-suc zero-le, e)
    go (inl e) (inl none) = inl (λ j. elim j as (λ k. k < suc (length cs) → parity (get_or (c ∷ cs) k 0) r ≡ 0) [ zero ↦ (λ h. e) | suc i ↦ (λ h. none i (omega arith)) ])
    go (inl e) (inr (p, h, o)) = inr (suc p, suc-le-suc h, o)

-- ---- one row more

module _ (n : ℕ) (rows checks : List ℕ) (same : (w : ℕ) → IsSum rows w ↔ Checked n checks w) (r : ℕ) (low : r < 2 ^ n) where
  -- a row that passes is a sum already
  passing : ((j : ℕ) → j < length checks → parity (get_or checks j 0) r ≡ 0) → (w : ℕ) → IsSum (r ∷ rows) w ↔ Checked n checks w
  passing even w = ((λ g. (same w).0 (in_all (r ∷ rows) rows within w g)), λ c. in-cons r ((same w).1 c))
    where
      within : (j : ℕ) → j < length (r ∷ rows) → IsSum rows (get_or (r ∷ rows) j 0)
      within zero h = (same r).1 (record { below = low; even = even })
      within (suc j) h = in_row rows j

  module _ (p : ℕ) (there : p < length checks) (odd : parity (get_or checks p 0) r ≡ 1) where
    -- a mended check passes what all checks pass, and passes r
    old-passes : (h w : ℕ) → parity h w ≡ 0 → parity (get_or checks p 0) w ≡ 0 → parity (mend (get_or checks p 0) r h) w ≡ 0
    old-passes h w a b = go (digit (parity h r) (small h r))
      where
        go : (parity h r ≡ 0) ⊎ (parity h r ≡ 1) → parity (mend (get_or checks p 0) r h) w ≡ 0
        go (inl e) = mend-even (get_or checks p 0) r h w e ∙ a
        go (inr e) = mend-odd (get_or checks p 0) r h w e ∙ ap₂ (λ (x y : ℕ). (x + y) % 2) a b

    row-passes : (h : ℕ) → parity (mend (get_or checks p 0) r h) r ≡ 0
    row-passes h = go (digit (parity h r) (small h r))
      where
        go : (parity h r ≡ 0) ⊎ (parity h r ≡ 1) → parity (mend (get_or checks p 0) r h) r ≡ 0
        go (inl e) = mend-even (get_or checks p 0) r h r e ∙ e
        go (inr e) = mend-odd (get_or checks p 0) r h r e ∙ ap₂ (λ (x y : ℕ). (x + y) % 2) e odd

    -- each row of r ∷ rows passes, so do their sums
    sum-passes : (w : ℕ) → IsSum (r ∷ rows) w → Checked n (map (mend (get_or checks p 0) r) checks) w
    sum-passes w g = subst (Checked n (map (mend (get_or checks p 0) r) checks)) g.sum (go (digit (g.by % 2) (omega arith)))
      where
        c : Checked n checks (sum_of rows (g.by / 2))
        c = (same (sum_of rows (g.by / 2))).0 (record { by = g.by / 2; sum = refl })

        own : (j : ℕ) → j < length checks → parity (mend (get_or checks p 0) r (get_or checks j 0)) (sum_of rows (g.by / 2)) ≡ 0
        own j k = old-passes (get_or checks j 0) (sum_of rows (g.by / 2)) (c.even j k) (c.even p there)

        listed : (v : ℕ) → v < 2 ^ n → ((j : ℕ) → j < length checks → parity (mend (get_or checks p 0) r (get_or checks j 0)) v ≡ 0)
            → Checked n (map (mend (get_or checks p 0) r) checks) v
        listed v l f = record {
          below = l;
          even = λ j k.
              let m : j < length checks = omega (arith, length-map checks (mend (get_or checks p 0) r)) in
              ap (λ (x : ℕ). parity x v) (mapped (mend (get_or checks p 0) r) checks j m) ∙ f j m;
        }

        go : (g.by % 2 ≡ 0) ⊎ (g.by % 2 ≡ 1) → Checked n (map (mend (get_or checks p 0) r) checks) (sum_of (r ∷ rows) g.by)
        go (inl e) =
            subst (λ (d : ℕ). Checked n (map (mend (get_or checks p 0) r) checks) (bit_xor (taken d r) (sum_of rows (g.by / 2)))) (sym e)
            (listed (sum_of rows (g.by / 2)) c.below own)
        go (inr e) =
            subst (λ (d : ℕ). Checked n (map (mend (get_or checks p 0) r) checks) (bit_xor (taken d r) (sum_of rows (g.by / 2)))) (sym e)
            (listed (bit_xor r (sum_of rows (g.by / 2))) (xor_lt n r (sum_of rows (g.by / 2)) low c.below) (λ j k.
            parity-sum (mend (get_or checks p 0) r (get_or checks j 0)) r (sum_of rows (g.by / 2))
            ∙ ap₂ (λ (x y : ℕ). (x + y) % 2) (row-passes (get_or checks j 0)) (own j k)))

    -- what passes the mended checks is a sum, or one once r is added
    pass-sums : (w : ℕ) → Checked n (map (mend (get_or checks p 0) r) checks) w → IsSum (r ∷ rows) w
    pass-sums w c = go (digit (parity (get_or checks p 0) w) (small (get_or checks p 0) w))
      where
        at : (j : ℕ) → j < length checks → parity (mend (get_or checks p 0) r (get_or checks j 0)) w ≡ 0
        at j k =
            let m : j < length (map (mend (get_or checks p 0) r) checks) = omega (arith, length-map checks (mend (get_or checks p 0) r)) in
            sym (ap (λ (x : ℕ). parity x w) (mapped (mend (get_or checks p 0) r) checks j k)) ∙ c.even j m

        own : (d : ℕ) → parity (get_or checks p 0) w ≡ d → (j : ℕ) → j < length checks → (parity (get_or checks j 0) r ≡ 0) ⊎ (parity (get_or checks j 0) r ≡ 1)
            → ((parity (get_or checks j 0) w ≡ 0) × (parity (get_or checks j 0) r ≡ 0))
            ⊎ (((parity (get_or checks j 0) w + d) % 2 ≡ 0) × (parity (get_or checks j 0) r ≡ 1))
        own d e j k (inl z) = inl (sym (mend-even (get_or checks p 0) r (get_or checks j 0) w z) ∙ at j k, z)
        own d e j k (inr o) =
            inr (ap (λ (x : ℕ). (parity (get_or checks j 0) w + x) % 2) (sym e) ∙ sym (mend-odd (get_or checks p 0) r (get_or checks j 0) w o) ∙ at j k, o)

        zero-case : (x y : ℕ) → x < 2 → ((x ≡ 0) × (y ≡ 0)) ⊎ (((x + 0) % 2 ≡ 0) × (y ≡ 1)) → x ≡ 0
        zero-case x y h (inl a) = a.0
        zero-case x y h (inr a) = omega (arith, h, a.0)

        one-case : (x y : ℕ) → x < 2 → ((x ≡ 0) × (y ≡ 0)) ⊎ (((x + 1) % 2 ≡ 0) × (y ≡ 1)) → (y + x) % 2 ≡ 0
        one-case x y h (inl a) = omega (arith, a.0, a.1)
        one-case x y h (inr a) = omega (arith, h, a.0, a.1)

        go : (parity (get_or checks p 0) w ≡ 0) ⊎ (parity (get_or checks p 0) w ≡ 1) → IsSum (r ∷ rows) w
        go (inl e) = in-cons r ((same w).1 (record {
          below = c.below;
          even = λ j k.
              zero-case (parity (get_or checks j 0) w) (parity (get_or checks j 0) r) (small (get_or checks j 0) w)
              (own 0 e j k (digit (parity (get_or checks j 0) r) (small (get_or checks j 0) r)));
        }))
        go (inr e) =
            subst (IsSum (r ∷ rows)) (xor-cancel r w)
            (in-xor (in_row (r ∷ rows) 0) (in-cons r ((same (bit_xor r w)).1 (record {
              below = xor_lt n r w low c.below;
              even = λ j k.
                  parity-sum (get_or checks j 0) r w
                  ∙ one-case (parity (get_or checks j 0) w) (parity (get_or checks j 0) r) (small (get_or checks j 0) w)
                  (own 1 e j k (digit (parity (get_or checks j 0) r) (small (get_or checks j 0) r)));
            }))))

-- ---- all rows

pub sums-checked : (n : ℕ) (rows : List ℕ) → ((j : ℕ) → j < length rows → get_or rows j 0 < 2 ^ n) → (checks : List ℕ) × ParityChecks (IsSum rows) n checks
sums-checked n [] low = (units 0 n, record { count = units-count 0 n; below = below; same = λ w. (sum-even w, even_sum w) })
  where
    below : (j : ℕ) → j < length (units 0 n) → get_or (units 0 n) j 0 < 2 ^ n
    below j h =
        let k : j < n = omega (arith, units-count 0 n) in
        subst (λ (x : ℕ). x < 2 ^ n) (sym (unit-is n j k)) (pow-lt k)

    bits : (w j : ℕ) → j < n → parity (get_or (units 0 n) j 0) w ≡ bit w j
    bits w j k = ap (λ (x : ℕ). parity x w) (unit-is n j k) ∙ parity-power j w

    sum-even : (w : ℕ) → IsSum [] w → Checked n (units 0 n) w
    sum-even w g = subst (Checked n (units 0 n)) g.sum (record { below = omega (arith, suc_ones n); even = λ j h. parity-zero (get_or (units 0 n) j 0) })

    even_sum : (w : ℕ) → Checked n (units 0 n) w → IsSum [] w
    even_sum w c = record { by = 0; sum = sym (bits-zero w (λ i. at i (dec_lt i n))) }
      where
        at : (i : ℕ) → Dec (i < n) → bit w i ≡ 0
        at i (yes k) = sym (bits w i k) ∙ c.even i (omega (arith, units-count 0 n))
        at i (no k) = bits_below n w c.below i (omega arith)
sums-checked n (r ∷ rows) low = go (sums-checked n rows (λ j h. low (suc j) (suc-le-suc h)))
  where
    go : (checks : List ℕ) × ParityChecks (IsSum rows) n checks → (checks : List ℕ) × ParityChecks (IsSum (r ∷ rows)) n checks
    go (checks, c) = with (find checks r)
      where
        with : Finding checks r → (checks : List ℕ) × ParityChecks (IsSum (r ∷ rows)) n checks
        with (inl even) =
            (checks, record { count = c.count; below = c.below; same = passing n rows checks c.same r (low 0 (suc-le-suc zero-le)) even })
        with (inr (p, there, odd)) = (
          map (mend (get_or checks p 0) r) checks,
          record {
            count = length-map checks (mend (get_or checks p 0) r) ∙ c.count;
            below = λ j h.
                let m : j < length checks = omega (arith, length-map checks (mend (get_or checks p 0) r)) in
                subst (λ (x : ℕ). x < 2 ^ n) (sym (mapped (mend (get_or checks p 0) r) checks j m))
                (mend-below n (get_or checks p 0) r (get_or checks j 0) (c.below p there) (c.below j m));
            same = λ w. (
              sum-passes n rows checks c.same r (low 0 (suc-le-suc zero-le)) p there odd w,
              pass-sums n rows checks c.same r (low 0 (suc-le-suc zero-le)) p there odd w,
            );
          },
        )
