-- A level times step: it is a fraction rounded once, so it grows with the level; at 0 it is zero, and above 0 it is above zero.
use Prim.Native.Nat.{ℕ, zero, suc, ◌%◌, ◌*◌, ◌^◌, ◌<◌, ◌≤◌}
use lib.Dec.{T, eqb, leb, leb→le, lit≤, ltb, ltb→lt, lt→ltb}
use lib.Ieee.{Float, binary32, fin, fits, inf, le, lt, mul, nan, of_int, round, up, down}
use lib.Ieee.Back.{round_whole}
use lib.Ieee.Exact.{HasValue}
use lib.Ieee.Fits.{and_l, and_r, down_pos, up_pos}
use lib.Ieee.Order.{round_mono}
use lib.Ieee.Positive.{den, den_pos, first_pos, num, positive}
use lib.Ieee.Scale.{finite, round_same}
use lib.Pow.{pow_pos}
use lib.IntN.{pos, negsuc}
use mathlib.Core.Bool.{Bool, true, false, true≢false, ◌&&◌}
use mathlib.Core.Path.{◌≡◌, ap, refl, subst, sym, ◌∙◌}
use native.Mathlib.Nat as N
use native.Mathlib.Nat.{le_of_eq, mul_assoc, mul_comm, mul_left_comm, mul-le-mul_right, mul-one, mul-pos, one-mul, zero-lt-suc, zero-mul}
use native.Mathlib.Omega.{arith}
use Rattle.levels.proofs.FloatOrder.{le_trans}
use Rattle.levels.specs.Choosing.{nought, times}

-- a finite step above zero
pub step-positive : (step : Float) → T (finite step) → T (lt nought step) → T (positive step)
unfolding lt
step-positive nan f h = absurd f
step-positive (inf s) f h = absurd f
step-positive (fin true m e) f h = h
step-positive (fin false m e) f h =
    let over : 0 < m * up e = omega (arith, ltb→lt (0 * down e) (m * up e * 1) h, zero-mul (down e)) in
    lt→ltb 0 m (first_pos m (up e) over)

-- a whole number's value times step
times-value : (x step : Float) (j : ℕ) → HasValue x false j 1 → T (positive step) → mul binary32 x step ≡ round binary32 false (j * num step) (den step)
unfolding mul
times-value nan step j v p = absurd v
times-value (inf s) step j v p = absurd v
times-value (fin true m e) step j v p = absurd (true≢false v.0)
times-value (fin false m e) nan j v p = absurd p
times-value (fin false m e) (inf t) j v p = absurd p
times-value (fin false m e) (fin true n d) j v p = absurd p
times-value (fin false m e) (fin false n d) j v p =
    let value : m * up e ≡ j * down e = sym (mul-one (m * up e)) ∙ v.1 in
    round_same binary32 false (m * up e * (n * up d)) (down e * down d) (j * (n * up d)) (down d) (mul-pos (down_pos e) (down_pos d)) (down_pos d)
    (ap (λ (w : ℕ). w * (n * up d) * down d) value ∙ simp (mul_assoc, mul_comm, mul_left_comm))

-- a level times step is its fraction, rounded once
pub times-is : (j : ℕ) (step : Float) → j ≤ 2 ^ 24 → T (positive step) → times j step ≡ round binary32 false (j * num step) (den step)
times-is j step h p = times-value (of_int binary32 (pos j)) step j (unfold of_int in round_whole binary32 false j h) p

-- it grows with the level
pub times-grows : (i j : ℕ) (step : Float) → i ≤ j → j ≤ 2 ^ 24 → T (positive step) → T (le (times i step) (times j step))
times-grows i j step h k p =
    subst (λ (x : Float). T (le x (times j step))) (sym (times-is i step (omega arith) p))
    (subst (λ (y : Float). T (le (round binary32 false (i * num step) (den step)) y)) (sym (times-is j step k p))
    (round_mono binary32 (i * num step) (den step) (j * num step) (den step) (den_pos step) (den_pos step)
    (mul-le-mul_right (den step) (mul-le-mul_right (num step) h))))

-- zero rounded
nought-rounded : round binary32 false 0 1 ≡ nought
unfolding round
nought-rounded = refl

-- at 0 it is zero
pub times-nought : (step : Float) → T (positive step) → times 0 step ≡ nought
times-nought step p =
    times-is 0 step (lit≤ tt) p
    ∙ round_same binary32 false (0 * num step) (den step) 0 1 (den_pos step) (omega arith) (omega (arith, zero-mul (num step), zero-mul (den step))) ∙ nought-rounded

-- ---- above 0 it is above zero: at least the smallest value of the format

-- 2 ^ -149
abbrev smallest : Float
smallest = fin false 1 (negsuc 148)

-- it is its own rounding
smallest-rounded : round binary32 false 1 (2 ^ 149) ≡ smallest
unfolding round
smallest-rounded = refl

-- and it is not zero
never : T (le smallest nought) → ⊥
unfolding le
never h = h

-- an f32 above zero is at least that
step-reaches : (step : Float) → T (fits binary32 step) → T (positive step) → den step ≤ num step * 2 ^ 149
unfolding fits
step-reaches nan f p = absurd p
step-reaches (inf s) f p = absurd p
step-reaches (fin true m e) f p = absurd p
step-reaches (fin false zero e) f p = absurd p
step-reaches (fin false (suc m) e) f p =
    let a : Bool = eqb (suc m % 2) 1 && ltb (suc m) (2 ^ 24) in
    let b : Bool = leb (down e) (2 ^ 149) in
    let c : Bool = ltb (suc m * up e) (2 ^ 128 * down e) in
    let low : down e ≤ 2 ^ 149 = leb→le (down e) (2 ^ 149) (and_r a b (and_l (a && b) c f)) in
    let one : 1 ≤ suc m * up e = mul-pos (zero-lt-suc m) (up_pos e) in
    N.le_trans low (N.le_trans (le_of_eq (sym (one-mul (2 ^ 149)))) (mul-le-mul_right (2 ^ 149) one))

-- so no level above 0 times step is at most zero
pub times_above : (j : ℕ) (step : Float) → 1 ≤ j → j ≤ 2 ^ 24 → T (fits binary32 step) → T (positive step) → T (le (times j step) nought) → ⊥
times_above j step h k f p z = never (le_trans smallest (times j step) nought low z)
  where
    low : T (le smallest (times j step))
    low =
        subst (λ (x : Float). T (le x (times j step))) smallest-rounded
        (subst (λ (y : Float). T (le (round binary32 false 1 (2 ^ 149)) y)) (sym (times-is j step k p))
        (round_mono binary32 1 (2 ^ 149) (j * num step) (den step) (pow_pos 149) (den_pos step)
        (N.le_trans (le_of_eq (one-mul (den step))) (N.le_trans (step-reaches step f p)
        (N.le_trans (le_of_eq (sym (one-mul (num step * 2 ^ 149)))) (N.le_trans (mul-le-mul_right (num step * 2 ^ 149) h) (le_of_eq (sym (mul_assoc j (num step) (2 ^ 149))))))))))
