-- Rows taken off a word by their heads: what is known before the first row, after each row, and after the last.
use lib.Bits.{bit_xor, differ, xor_shifted, xor_zero_r}
use lib.ListN.{get_or, length, take}
use lib.Seq.{get_or-take, length-take-le}
use mathlib.Core.List.{List, [], ◌∷◌}
use mathlib.Core.Logic.{inl, inr, ◌⊎◌}
use mathlib.Core.Path.{ap, ap₂, subst, sym, ◌∙◌, ◌≡◌}
use native.Mathlib.Nat.{pow-suc}
use native.Mathlib.Omega.{arith}
use Prim.Native.Nat.{◌%◌, ◌*◌, ◌+◌, ◌/◌, ◌<◌, ◌^◌, suc, zero, ℕ}
use Rattle.coding.specs.declared.Reading.{Reading}
use Rattle.coding.specs.TakingOff.{Headed, Read, ReadOn}
use Rattle.words.proofs.Span.{lt-tri}
use Rattle.words.proofs.Sums.{sum-xor, sum-zero}
use Rattle.words.proofs.Word.{bit-lt, bit-xor, bit-zero, xor-four, xor_self}
use Rattle.words.specs.Ends.{firsts}
use Rattle.words.specs.Sum.{sum_of, taken}
use Rattle.words.specs.Word.{bit}

-- the number 2 ^ j takes row j alone
pub sum-power : (rows : List ℕ) (j : ℕ) → j < length rows → sum_of rows (2 ^ j) ≡ get_or rows j 0
sum-power [] j h = absurd (omega arith)
sum-power (r ∷ rs) zero h = ap (bit_xor r) (sum-zero rs) ∙ xor_zero_r r
sum-power (r ∷ rs) (suc j) h =
    let d : 2 ^ suc j ≡ 2 ^ j * 2 = pow-suc 2 j in
    let l : 2 ^ suc j % 2 ≡ 0 = omega arith in
    let e : 2 ^ suc j / 2 ≡ 2 ^ j = omega arith in
    ap₂ (λ (x y : ℕ). bit_xor (taken x r) (sum_of rs y)) l e ∙ sum-power rs j (omega arith)

-- one more row in the information is one more row in the sum
sum-one-more : (rows : List ℕ) (u j d : ℕ) → j < length rows → u < 2 ^ j → d < 2 → sum_of rows (u + d * 2 ^ j) ≡ bit_xor (taken d (get_or rows j 0)) (sum_of rows u)
sum-one-more rows u j zero h l k = ap (sum_of rows) (omega arith)
sum-one-more rows u j (suc zero) h l k =
    let e : u + 1 * 2 ^ j ≡ bit_xor (1 * 2 ^ j) u = sym (xor_shifted 1 j u l ∙ swap) in
    let o : 1 * 2 ^ j ≡ 2 ^ j = omega arith in
    ap (sum_of rows) e ∙ sum-xor rows (1 * 2 ^ j) u ∙ ap (λ (x : ℕ). bit_xor x (sum_of rows u)) (ap (sum_of rows) o ∙ sum-power rows j h)
  where
    swap : 1 * 2 ^ j + u ≡ u + 1 * 2 ^ j
    swap = omega arith
sum-one-more rows u j (suc (suc d)) h l k = absurd (omega arith)

module _ (rows : List ℕ) (k word : ℕ) (headed : Headed rows k) where
  length-k : length (take k rows) ≡ k
  length-k = length-take-le k rows (omega (arith, headed.table, headed.few))

  pub read-start : Read rows k word 0 (record { information = 0; rest = word })
  read-start = record {
    short = omega arith;
    together = ap (λ (x : ℕ). bit_xor x word) (sum-zero (take k rows));
    cleared = λ i h. absurd (omega arith);
  }

  module _ (j : ℕ) (h : j < k) (a r : Reading) (before : Read rows k word j a) (on : ReadOn a (get_or rows j 0) j r) where
    head-bit : on.digit ≡ bit a.rest (firsts rows j)
    head-bit = on.at_head (firsts rows j) (headed.head j h)

    two : on.digit < 2
    two = subst (λ (x : ℕ). x < 2) (sym head-bit) (bit-lt (firsts rows j) a.rest)

    row : get_or (take k rows) j 0 ≡ get_or rows j 0
    row = get_or-take k rows j 0 h

    short_on : r.information < 2 ^ suc j
    short_on = go on.digit two on.information
      where
        go : (d : ℕ) → d < 2 → r.information ≡ a.information + d * 2 ^ j → r.information < 2 ^ suc j
        go zero t e = omega (arith, e, before.short, pow-suc 2 j)
        go (suc zero) t e = omega (arith, e, before.short, pow-suc 2 j)
        go (suc (suc d)) t e = absurd (omega arith)

    -- adding the row on both sides changes nothing
    twice : (x y z : ℕ) → bit_xor (bit_xor x y) (bit_xor x z) ≡ bit_xor y z
    twice x y z = xor-four x y x z ∙ ap (λ (q : ℕ). bit_xor q (bit_xor y z)) (xor_self x)

    together-on : bit_xor (sum_of (take k rows) r.information) r.rest ≡ word
    together-on =
        ap₂ bit_xor
        (ap (sum_of (take k rows)) on.information ∙ sum-one-more (take k rows) a.information j on.digit (omega (arith, length-k)) before.short two
        ∙ ap (λ (x : ℕ). bit_xor (taken on.digit x) (sum_of (take k rows) a.information)) row)
        on.rest
        ∙ twice (taken on.digit (get_or rows j 0)) (sum_of (take k rows) a.information) a.rest ∙ before.together

    -- the bit at a head before or at j
    taken-zero : (e p : ℕ) → bit (get_or rows j 0) p ≡ 0 → bit (taken e (get_or rows j 0)) p ≡ 0
    taken-zero zero p z = bit-zero p
    taken-zero (suc e) p z = z

    at_own : (e : ℕ) → e < 2 → bit a.rest (firsts rows j) ≡ e → bit (get_or rows j 0) (firsts rows j) ≡ 1
        → differ (bit (taken e (get_or rows j 0)) (firsts rows j)) (bit a.rest (firsts rows j)) ≡ 0
    at_own zero t q o = ap₂ differ (bit-zero (firsts rows j)) q
    at_own (suc zero) t q o = ap₂ differ o q
    at_own (suc (suc e)) t q o = absurd (omega arith)

    cleared_at : (i : ℕ) → (i < j) ⊎ ((i ≡ j) ⊎ (j < i)) → i < suc j → bit (bit_xor (taken on.digit (get_or rows j 0)) a.rest) (firsts rows i) ≡ 0
    cleared_at i (inl l) m =
        bit-xor (firsts rows i) (taken on.digit (get_or rows j 0)) a.rest
        ∙ ap₂ differ (taken-zero on.digit (firsts rows i) ((headed.head j h).zeros (firsts rows i) (headed.rising i j l h))) (before.cleared i l)
    cleared_at i (inr (inl q)) m =
        subst (λ (x : ℕ). bit (bit_xor (taken on.digit (get_or rows j 0)) a.rest) (firsts rows x) ≡ 0) (sym q)
        (bit-xor (firsts rows j) (taken on.digit (get_or rows j 0)) a.rest ∙ at_own on.digit two (sym head-bit) (headed.head j h).one)
    cleared_at i (inr (inr l)) m = absurd (omega arith)

    pub read-on : Read rows k word (suc j) r
    read-on = record {
      short = short_on;
      together = together-on;
      cleared = λ i m. ap (λ (x : ℕ). bit x (firsts rows i)) on.rest ∙ cleared_at i (lt-tri i j) m;
    }
