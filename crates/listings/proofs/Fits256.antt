-- Every line of each kind is at most 256 bytes long.
use lib.Dec.{ltb}
use lib.IntN.{nat_abs, pos, ℤ}
use lib.ListN.{get_or, length, length-append}
use lib.Signed.{lt_z}
use mathlib.Core.Bool.{Bool, cond, false, true}
use mathlib.Core.List.{List, [], map, ◌∷◌}
use mathlib.Core.Logic.{inl, inr, ◌⊎◌}
use mathlib.Core.Path.{◌≡◌}
use native.Mathlib.Omega.{arith}
use Prim.Native.Nat.{◌%◌, ◌*◌, ◌+◌, ◌-◌, ◌/◌, ◌<◌, suc, zero, ℕ, ◌≤◌}
use Rattle.listings.proofs.Backwards.{positions-length}
use Rattle.listings.proofs.Digits.{decimal-high, decimal-low}
use Rattle.listings.specs.Decimal.{decimal, digits, signed_decimal}
use Rattle.listings.specs.Lines.{line_of_end, following, largest, least_line, less, names_field, no_least_line, plate_line, profile_line, refused_line, tally_line, weight_line, word_line}
use Rattle.listings.specs.declared.Tally.{Tally}
use Rattle.words.proofs.Span.{lt-tri}

-- ---- numbers

-- a text or none
shorter : {k : ℕ} (t : Bool) (s : List ℕ) → length s ≤ k → length (cond t [] s) ≤ k
shorter true s h = omega arith
shorter false s h = h

-- k digits at most
digits-length : (k n : ℕ) → length (digits k n) ≤ k
digits-length zero n = omega arith
digits-length (suc k) n =
    let high = digits k (n / 10) in
    omega (arith, length-append (cond (ltb n 10) [] high) ((48 + n % 10) ∷ []), shorter (ltb n 10) high (digits-length k (n / 10)))

-- 20 digits at most
pub decimal-length : (n : ℕ) → length (decimal n) ≤ 20
unfolding decimal
decimal-length n = digits-length 20 n

-- a minus is one byte
with-minus : (t : Bool) (s : List ℕ) → length s ≤ 20 → length (cond t (45 ∷ s) s) ≤ 21
with-minus true s h = omega arith
with-minus false s h = omega arith

-- 21 bytes at most
pub signed-length : (z : ℤ) → length (signed_decimal z) ≤ 21
unfolding signed_decimal
signed-length z = with-minus (lt_z z (pos 0)) (decimal (nat_abs z)) (decimal-length (nat_abs z))

-- a number below 100 has at most two digits
pub decimal-two : (n : ℕ) → n < 100 → length (decimal n) ≤ 2
decimal-two n h = go (lt-tri n 10)
  where
    many : 10 ≤ n → length (decimal n) ≤ 2
    many l =
        let e = decimal-high n l (omega arith) in
        let f = decimal-low (n / 10) (omega arith) in
        rw (e, f) (omega arith)

    go : (n < 10) ⊎ ((n ≡ 10) ⊎ (10 < n)) → length (decimal n) ≤ 2
    go (inl l) = rw (decimal-low n l) (omega arith)
    go (inr (inl e)) = many (omega arith)
    go (inr (inr l)) = many (omega arith)

-- ---- lines

-- 3 + 21 + 1
pub end-fits-256 : (blocks : ℕ) → length (line_of_end blocks) ≤ 256
unfolding line_of_end
end-fits-256 blocks = simp length-append (omega (arith, decimal-length blocks))

-- a number that may be named, and the line feed
last-length : (t : Bool) (value : ℕ) → length (following (cond t (decimal value ∷ []) [])) ≤ 22
last-length true value = simp length-append (omega (arith, decimal-length value))
last-length false value = omega arith

-- 7 + 21 + 21 + 21 + 1
pub refused-fits-256 : (number place field : ℕ) → length (refused_line number place field) ≤ 256
unfolding refused_line
refused-fits-256 number place field =
    simp length-append (omega (arith, decimal-length number, decimal-length place, last-length (names_field number) field))

-- 5 + 21 + 21 + 21 + 1
pub plate-fits-256 : (n k : ℕ) (entries : List ℕ) → length (plate_line n k entries) ≤ 256
unfolding plate_line
plate-fits-256 n k entries = simp length-append (omega (arith, decimal-length n, decimal-length k, decimal-length (largest entries)))

-- 4 + 65 + 22 + 21 + 21 + 1
pub word-fits-256 : (n word : ℕ) (metric : ℤ) (additions comparisons : ℕ) → n ≤ 64 → length (word_line n word metric additions comparisons) ≤ 256
unfolding word_line
word-fits-256 n word metric additions comparisons h =
    simp length-append
    (omega (arith, positions-length word 0 n, signed-length metric, decimal-length additions, decimal-length comparisons))

-- a tab and two digits each, and the line feed
two-each : (entries : List ℕ) → ((t : ℕ) → t < length entries → get_or entries t 0 ≤ 12) → length (following (map decimal entries)) ≤ 3 * length entries + 1
two-each [] h = omega arith
two-each (entry ∷ entries) h =
    simp length-append
    (omega (arith, decimal-two entry (omega (arith, h 0 (omega arith))), two-each entries (λ t l. h (suc t) (omega arith))))

-- 7 + 65 * 3 + 1
pub profile-fits-256 : (entries : List ℕ) → length entries ≤ 65 → ((t : ℕ) → t < length entries → get_or entries t 0 ≤ 12) → length (profile_line entries) ≤ 256
unfolding profile_line
profile-fits-256 entries l h = omega (arith, two-each entries h)

-- 6 + 21 + 21 + 1
pub weight-fits-256 : (weight count : ℕ) → length (weight_line weight count) ≤ 256
unfolding weight_line
weight-fits-256 weight count = simp length-append (omega (arith, decimal-length weight, decimal-length count))

-- 5 + 21 + 1
pub least-fits-256 : (weight : ℕ) → length (least_line weight) ≤ 256
unfolding least_line
least-fits-256 weight = simp length-append (omega (arith, decimal-length weight))

-- 5 + 5 + 1
pub no-least-fits-256 : length no_least_line ≤ 256
unfolding no_least_line
no-least-fits-256 = omega arith

-- 21 bytes at most
less-length : (above below : ℕ) → length (less above below) ≤ 21
unfolding less
less-length above below = by (ltb above below)
  where
    by : (t : Bool) → length (cond t (45 ∷ decimal (below - above)) (decimal (above - below))) ≤ 21
    by true = omega (arith, decimal-length (below - above))
    by false = omega (arith, decimal-length (above - below))

-- 5 + 8 * 21 + 22 + 1
pub tally-fits-256 : (t : Tally) → length (tally_line t) ≤ 256
unfolding tally_line
tally-fits-256 t =
    simp length-append
    (omega (
      arith,
      decimal-length t.decoded,
      decimal-length t.refused,
      decimal-length t.repeated,
      decimal-length t.late,
      decimal-length t.missing,
      decimal-length t.opposing,
      decimal-length t.zeros,
      less-length t.above t.below,
    ))
