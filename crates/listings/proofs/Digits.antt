-- The digits of a number, taken from the last to the first.
use borrow.Author.Tests.{le-ltb, lt-ltb}
use lib.Dec.{ltb}
use mathlib.Core.Bool.{cond}
use mathlib.Core.List.{◌++◌, List, [], append_assoc, append-nil, ◌∷◌}
use mathlib.Core.Path.{ap, subst, sym, ◌∙◌, ◌≡◌}
use native.Mathlib.Nat.{pow-suc}
use native.Mathlib.Omega.{arith}
use Prim.Native.Nat.{◌%◌, ◌*◌, ◌+◌, ◌/◌, ◌<◌, ◌^◌, suc, zero, ℕ, ◌≤◌}
use Rattle.listings.proofs.Prepending.{prepend-none, ◌▹◌}
use Rattle.listings.specs.Building.{Prepends}
use Rattle.listings.specs.Decimal.{decimal, digits}

-- one digit more of room changes nothing
more : (k n : ℕ) → n < 10 ^ suc k → digits (suc k) n ≡ digits (suc (suc k)) n
more zero n h =
    let l : n < 10 = h in
    rw (lt-ltb n 10 l)
more (suc k) n h =
    let e : 10 ^ suc (suc k) ≡ 10 ^ suc k * 10 = pow-suc 10 (suc k) in
    let l : n / 10 < 10 ^ suc k = omega arith in
    ap (λ (t : List ℕ). cond (ltb n 10) [] t ++ (48 + n % 10) ∷ []) (more k (n / 10) l)

-- a number below 10 is one digit
pub decimal-low : (n : ℕ) → n < 10 → decimal n ≡ (48 + n) ∷ []
unfolding decimal
decimal-low n h =
    let e : n % 10 ≡ n = omega arith in
    rw (lt-ltb n 10 h, e)

-- any other is the digits of its tenth, and its last digit
pub decimal-high : (n : ℕ) → 10 ≤ n → n < 2 ^ 64 → decimal n ≡ decimal (n / 10) ++ (48 + n % 10) ∷ []
unfolding decimal
decimal-high n h l = rw (le-ltb n 10 h) (ap (λ (t : List ℕ). t ++ (48 + n % 10) ∷ []) (more 18 (n / 10) (omega arith)))

-- some digits are put, and those of `rest` stand to the left of them
pub record Digits (d : List ℕ) (end value : ℕ) (e : List ℕ) (at rest : ℕ) : Type 0 where
  pub text : List ℕ
  pub put : Prepends d end text e at
  pub whole : decimal rest ++ text ≡ decimal value
  pub small : rest < 2 ^ 64

-- none are put yet
pub digits-start : (d : List ℕ) (end value : ℕ) → value < 2 ^ 64 → Digits d end value d end value
digits-start d end value h = record { text = []; put = prepend-none d end; whole = append-nil (decimal value); small = h }

-- one digit more
pub digits-on : {d e f : List ℕ} {end value at r rest : ℕ} → Digits d end value e at rest → 10 ≤ rest
    → Prepends e at ((48 + rest % 10) ∷ []) f r → Digits d end value f r (rest / 10)
digits-on {rest = rest} s h p = record {
  text = (48 + rest % 10) ∷ s.text;
  put = s.put ▹ p;
  whole = sym (append_assoc (decimal (rest / 10)) ((48 + rest % 10) ∷ []) s.text) ∙ rw (decimal-high rest h s.small) at s.whole;
  small = omega (arith, s.small);
}

-- the first digit is put
pub digits-end : {d e f : List ℕ} {end value at r rest : ℕ} → Digits d end value e at rest → rest < 10
    → Prepends e at ((48 + rest) ∷ []) f r → Prepends d end (decimal value) f r
digits-end {d} {f = f} {end} {r = r} {rest} s h p =
    subst (λ (t : List ℕ). Prepends d end t f r) (rw (decimal-low rest h) at s.whole) (s.put ▹ p)
