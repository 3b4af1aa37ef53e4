-- Digits of branch numbers: put to places, gathered from them, and one taken out.
use lib.Arith.{mod-mul}
use lib.Pow.{pow_mono, pow_pos, shr-shr}
use mathlib.Core.Bool.{Bool, cond, false, true}
use mathlib.Core.Path.{ap, ap₂, sym, ◌∙◌, ◌≡◌}
use native.Mathlib.Nat.{div-add-mod', div-eq_of_lt, div-le_self, mod-eq_of_lt, mul_assoc, mul-le-mul_right, pow-suc}
use native.Mathlib.Numerals.{one-add}
use native.Mathlib.Omega.{arith}
use Prim.Native.Nat.{◌%◌, ◌*◌, ◌+◌, ◌/◌, ◌^◌, ◌<◌, suc, ℕ, ◌≤◌}
use Rattle.trellises.specs.Numbers.{without}
use Rattle.words.proofs.Word.{half}
use Rattle.words.specs.Choice.{gather, pull, put}

-- a number spread over places: its digit at the first place, and what is left for the others
abbrev pub odd : Bool → ℕ → ℕ
odd true v = v % 2
odd false v = 0

abbrev pub rest : Bool → ℕ → ℕ
rest true v = v / 2
rest false v = v

pub put-odd : (a : Bool) (S : ℕ → ℕ) (v : ℕ) → put a S v % 2 ≡ odd a v
put-odd true S v = omega arith
put-odd false S v = omega arith

pub put-half : (a : Bool) (S : ℕ → ℕ) (v : ℕ) → put a S v / 2 ≡ S (rest a v)
put-half true S v = half (S (v / 2)) (v % 2) (omega arith)
put-half false S v = omega arith

pub mod-digit : (v l : ℕ) → v % 2 ^ suc l ≡ v / 2 % 2 ^ l * 2 + v % 2
mod-digit v l = ap (λ (x : ℕ). v % x) (pow-suc 2 l) ∙ mod-mul v (pow_pos l) (omega arith)

pub mod-none : (v l : ℕ) → l ≡ 0 → v % 2 ^ l ≡ 0
mod-none v l e = rw e (omega arith)

-- a digit taken out
pub without-zero : (x : ℕ) → without 0 x ≡ x / 2
without-zero x = omega arith

pub without-suc : (e x : ℕ) → without (suc e) x ≡ without e (x / 2) * 2 + x % 2
without-suc e x =
    let hi : x / 2 / 2 ^ e ≡ x / 2 ^ suc e = shr-shr x 1 e ∙ ap (λ (i : ℕ). x / 2 ^ i) (one-add e) in
    let p : x / 2 ^ suc e / 2 * 2 ^ suc e ≡ x / 2 / 2 ^ e / 2 * 2 ^ e * 2 =
    ap₂ (λ (p z : ℕ). z / 2 * p) (pow-suc 2 e) (sym hi) ∙ sym (mul_assoc (x / 2 / 2 ^ e / 2) (2 ^ e) 2) in
    omega (arith, mod-digit x e)

pub one_more : (b : Bool) (e x : ℕ) → cond b (without (suc e) x) x ≡ cond b (without e (x / 2)) (x / 2) * 2 + x % 2
one_more true e x = without-suc e x
one_more false e x = omega arith

-- what is gathered from a number that is spread, with one row more
pub gathered : (k : ℕ) (P : ℕ → Bool) (S : ℕ → ℕ) (a p : Bool) (v : ℕ) → P 0 ≡ p
    → gather (suc k) P (put a S v) ≡ pull p (odd a v) (gather k (λ j. P (suc j)) (S (rest a v)))
gathered k P S a p v e =
    ap₂ (λ (d u : ℕ). pull (P 0) d (gather k (λ j. P (suc j)) u)) (put-odd a S v) (put-half a S v)
    ∙ ap (λ (b : Bool). pull b (odd a v) (gather k (λ j. P (suc j)) (S (rest a v)))) e

-- a place beyond a word's has no digit to take out
pub without-beyond : (e x : ℕ) → 64 ≤ e → x < 2 ^ 64 → x ≡ without e x
without-beyond e x b l =
    let k : x < 2 ^ e = omega (arith, pow_mono b) in
    rw (div-eq_of_lt k, mod-eq_of_lt k) (omega arith)

-- a number does not grow where a digit is taken out
pub without-at-most : (w x : ℕ) → x / w / 2 * w + x % w ≤ x
without-at-most w x = omega (arith, div-add-mod' x w, mul-le-mul_right w (div-le_self (x / w) 2))
