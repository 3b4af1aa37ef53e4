-- A digit taken out of a number that stands above another: it is taken out of each by itself.
use borrow.Author.Tests.{ltb-false, ltb-true}
use lib.Dec.{ltb}
use lib.Pow.{high, low, mod-pow-add, pow-add, pow_mono, pow_pos, shr-shr}
use mathlib.Core.Bool.{Bool, false, true}
use mathlib.Core.Path.{ap, ap₂, refl, sym, ◌∙◌, ◌≡◌}
use native.Mathlib.Nat.{add_assoc, add_comm, add-mul, add-mul-mod_self_right, add-zero, div-eq_of_lt, lt_of_lt_of_le, mod-eq_of_lt, mul-add-div_right, mul_assoc, zero-add, zero-mul}
use native.Mathlib.Omega.{arith}
use Prim.Native.Nat.{◌%◌, ◌*◌, ◌+◌, ◌-◌, ◌/◌, ◌<◌, ◌^◌, suc, ℕ, ◌≤◌}
use Rattle.trellises.specs.Numbers.{without}

-- a digit past all of x changes nothing
pub without-past : (e x : ℕ) → x < 2 ^ e → without e x ≡ x
without-past e x h =
    rw (div-eq_of_lt h, mod-eq_of_lt h) (ap (λ (z : ℕ). z + x) (zero-mul (2 ^ e)) ∙ zero-add x)

without-zero : (e : ℕ) → without e 0 ≡ 0
without-zero e = without-past e 0 (pow_pos e)

-- below the seam
module _ (e a r : ℕ) where
  below : without e (a * 2 * 2 ^ e + r) ≡ a * 2 ^ e + without e r
  below =
      let q : (a * 2 * 2 ^ e + r) / 2 ^ e ≡ a * 2 + r / 2 ^ e = mul-add-div_right (pow_pos e) (a * 2) r in
      let h : (a * 2 + r / 2 ^ e) / 2 ≡ a + r / 2 ^ e / 2 = omega arith in
      let m : (a * 2 * 2 ^ e + r) % 2 ^ e ≡ r % 2 ^ e = ap (λ (z : ℕ). z % 2 ^ e) (add_comm (a * 2 * 2 ^ e) r) ∙ add-mul-mod_self_right r (a * 2) (2 ^ e) in
      rw (q, h, m, add-mul a (r / 2 ^ e / 2) (2 ^ e)) (add_assoc (a * 2 ^ e) (r / 2 ^ e / 2 * 2 ^ e) (r % 2 ^ e))

-- at the seam or above
module _ (m k a r : ℕ) (l : r < 2 ^ k) where
  above : without (m + k) (a * 2 ^ k + r) ≡ a / 2 ^ m / 2 * 2 ^ (m + k) + (a % 2 ^ m * 2 ^ k + r)
  above =
      let q : (a * 2 ^ k + r) / 2 ^ (m + k) ≡ a / 2 ^ m =
      ap (λ (z : ℕ). (a * 2 ^ k + r) / 2 ^ z) (add_comm m k) ∙ sym (shr-shr (a * 2 ^ k + r) k m) ∙ ap (λ (z : ℕ). z / 2 ^ m) (high a k l) in
      let p : (a * 2 ^ k + r) % 2 ^ (m + k) ≡ a % 2 ^ m * 2 ^ k + r =
      mod-pow-add (a * 2 ^ k + r) m k ∙ ap₂ (λ (x y : ℕ). x % 2 ^ m * 2 ^ k + y) (high a k l) (low a k l) in
      ap₂ (λ (x y : ℕ). x / 2 * 2 ^ (m + k) + y) q p

pub without-cat : (e k a r : ℕ) → r < 2 ^ k → without e (a * 2 ^ k + r) ≡ without e (a * 2 ^ k) + without e r
without-cat e k a r l = go (ltb e k) refl
  where
    go : (t : Bool) → ltb e k ≡ t → without e (a * 2 ^ k + r) ≡ without e (a * 2 ^ k) + without e r
    go true t =
        let m = k - suc e in
        let s : k ≡ m + (1 + e) = omega (arith, ltb-true e k t) in
        let p : a * 2 ^ k ≡ a * 2 ^ m * 2 * 2 ^ e =
        ap (λ (z : ℕ). a * 2 ^ z) s ∙ ap (λ (z : ℕ). a * z) (pow-add 2 m (1 + e) ∙ ap (λ (z : ℕ). 2 ^ m * z) (pow-add 2 1 e))
        ∙ sym (mul_assoc a (2 ^ m) (2 * 2 ^ e)) ∙ sym (mul_assoc (a * 2 ^ m) 2 (2 ^ e)) in
        let z : a * 2 ^ m * 2 * 2 ^ e + 0 ≡ a * 2 ^ m * 2 * 2 ^ e = omega arith in
        let b : without e (a * 2 ^ m * 2 * 2 ^ e) ≡ a * 2 ^ m * 2 ^ e + without e 0 = ap (without e) (sym z) ∙ below e (a * 2 ^ m) 0 in
        rw (p, below e (a * 2 ^ m) r, b, without-zero e) (ap (λ (w : ℕ). w + without e r) (sym (add-zero (a * 2 ^ m * 2 ^ e))))
    go false t =
        let m = e - k in
        let s : e ≡ m + k = omega (arith, ltb-false e k t) in
        let z : a * 2 ^ k + 0 ≡ a * 2 ^ k = omega arith in
        let b : without (m + k) (a * 2 ^ k) ≡ a / 2 ^ m / 2 * 2 ^ (m + k) + (a % 2 ^ m * 2 ^ k + 0) = ap (without (m + k)) (sym z) ∙ above m k a 0 (pow_pos k) in
        let f : without (m + k) r ≡ r = without-past (m + k) r (lt_of_lt_of_le l (pow_mono (omega arith))) in
        rw (s, above m k a r l, b, f) (omega arith)

-- the digits below the one taken out stay
pub stays : (m e a k : ℕ) → m ≤ e → k < 2 ^ m → without e (a * 2 ^ m + k) ≡ without e (a * 2 ^ m) + k
stays m e a k h l = without-cat e m a k l ∙ ap (λ (z : ℕ). without e (a * 2 ^ m) + z) (without-past e k (lt_of_lt_of_le l (pow_mono h)))

-- four numbers from a multiple of four on
pub four-stay : (e y k : ℕ) → 2 ≤ e → y % 4 ≡ 0 → k < 4 → without e (y + k) ≡ without e y + k
four-stay e y k h a l = let q : y ≡ y / 4 * 2 ^ 2 = omega arith in ap (λ (z : ℕ). without e (z + k)) q ∙ stays 2 e (y / 4) k h l ∙ ap (λ (z : ℕ). without e z + k) (sym q)
