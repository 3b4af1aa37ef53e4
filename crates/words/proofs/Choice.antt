-- Counting the places that pass a test, and numbers spread over those places or gathered from them.
use lib.Dec.{T}
use mathlib.Core.Bool.{Bool, false, true}
use mathlib.Core.Path.{ap, refl, sym, ◌∙◌, ◌≡◌}
use native.Mathlib.Nat.{pow-suc}
use native.Mathlib.Omega.{arith}
use Prim.Native.Nat.{◌%◌, ◌*◌, ◌+◌, ◌/◌, ◌<◌, ◌^◌, suc, suc-le-suc, zero, zero-le, ℕ}
use Rattle.words.proofs.Word.{half}
use Rattle.words.specs.Choice.{count, gather, more, pull, put, spread}
use Rattle.words.specs.Word.{bit}

pub gather-lt : (k : ℕ) (P : ℕ → Bool) (u : ℕ) → gather k P u < 2 ^ count k P
gather-lt zero P u = suc-le-suc zero-le
gather-lt (suc k) P u = go (P 0) (gather-lt k (λ j. P (suc j)) (u / 2))
  where
    C : ℕ
    C = count k (λ j. P (suc j))

    go : (b : Bool) → gather k (λ j. P (suc j)) (u / 2) < 2 ^ C → pull b (u % 2) (gather k (λ j. P (suc j)) (u / 2)) < 2 ^ more b C
    go true h = omega (arith, pow-suc 2 C)
    go false h = h

-- it depends on those places alone
pub gather-same : (k : ℕ) (P : ℕ → Bool) (u v : ℕ) → ((j : ℕ) → j < k → T (P j) → bit u j ≡ bit v j) → gather k P u ≡ gather k P v
gather-same zero P u v h = refl
gather-same (suc k) P u v h =
    go (P 0) (h 0 (suc-le-suc zero-le)) (gather-same k (λ j. P (suc j)) (u / 2) (v / 2) (λ j l. h (suc j) (suc-le-suc l)))
  where
    go : (b : Bool) → (T b → u % 2 ≡ v % 2) → {x y : ℕ} → x ≡ y → pull b (u % 2) x ≡ pull b (v % 2) y
    go true e q = omega (arith, e tt)
    go false e q = q

-- and shows them
pub gather-shows : (k : ℕ) (P : ℕ → Bool) (u v : ℕ) → gather k P u ≡ gather k P v → (j : ℕ) → j < k → T (P j) → bit u j ≡ bit v j
gather-shows zero P u v e j l t = absurd (omega arith)
gather-shows (suc k) P u v e zero l t = go (P 0) t _ _ e
  where
    go : (b : Bool) → T b → (x y : ℕ) → pull b (u % 2) x ≡ pull b (v % 2) y → u % 2 ≡ v % 2
    go true t x y q = omega arith
    go false t x y q = absurd t
gather-shows (suc k) P u v e (suc j) l t = gather-shows k (λ j. P (suc j)) (u / 2) (v / 2) (go (P 0) _ _ e) j (omega arith) t
  where
    go : (b : Bool) (x y : ℕ) → pull b (u % 2) x ≡ pull b (v % 2) y → x ≡ y
    go true x y q = omega arith
    go false x y q = q

pub spread-gather : (k : ℕ) (P : ℕ → Bool) (u j : ℕ) → j < k → T (P j) → bit (spread k P (gather k P u)) j ≡ bit u j
spread-gather zero P u j l t = absurd (omega arith)
spread-gather (suc k) P u zero l t = go (P 0) t
  where
    go : (b : Bool) → T b → put b (spread k (λ j. P (suc j))) (pull b (u % 2) (gather k (λ j. P (suc j)) (u / 2))) % 2 ≡ u % 2
    go true t = omega arith
    go false t = absurd t
spread-gather (suc k) P u (suc j) l t =
    ap (λ (x : ℕ). bit x j) (go (P 0)) ∙ spread-gather k (λ j. P (suc j)) (u / 2) j (omega arith) t
  where
    R : ℕ
    R = gather k (λ j. P (suc j)) (u / 2)

    S : ℕ → ℕ
    S = spread k (λ j. P (suc j))

    go : (b : Bool) → put b S (pull b (u % 2) R) / 2 ≡ S R
    go true = half (S ((R * 2 + u % 2) / 2)) ((R * 2 + u % 2) % 2) (omega arith) ∙ ap S (half R (u % 2) (omega arith))
    go false = omega arith

-- it is determined by what stands at the places that pass
pub spread-injective : (k : ℕ) (P : ℕ → Bool) (v w : ℕ) → v < 2 ^ count k P → w < 2 ^ count k P
    → ((j : ℕ) → j < k → T (P j) → bit (spread k P v) j ≡ bit (spread k P w) j) → v ≡ w
spread-injective zero P v w hv hw h = omega arith
spread-injective (suc k) P v w hv hw h = go (P 0) hv hw (h 0 (suc-le-suc zero-le)) (λ j l. h (suc j) (suc-le-suc l))
    (spread-injective k (λ j. P (suc j)))
  where
    C : ℕ
    C = count k (λ j. P (suc j))

    S : ℕ → ℕ
    S = spread k (λ j. P (suc j))

    go : (b : Bool) → v < 2 ^ more b C → w < 2 ^ more b C → (T b → put b S v % 2 ≡ put b S w % 2)
        → ((j : ℕ) → j < k → T (P (suc j)) → bit (put b S v / 2) j ≡ bit (put b S w / 2) j)
        → ((v w : ℕ) → v < 2 ^ C → w < 2 ^ C → ((j : ℕ) → j < k → T (P (suc j)) → bit (S v) j ≡ bit (S w) j) → v ≡ w) → v ≡ w
    go true hv hw h0 hs ih =
        let e : v / 2 ≡ w / 2 = ih (v / 2) (w / 2) (omega (arith, pow-suc 2 C)) (omega (arith, pow-suc 2 C))
        (λ j l t. ap (λ (x : ℕ). bit x j) (halve (S (v / 2)) (v % 2) (omega arith)) ∙ hs j l t ∙ sym (ap (λ (x : ℕ). bit x j) (halve (S (w / 2)) (w % 2) (omega arith)))) in
        omega (arith, h0 tt)
      where
        halve : (a d : ℕ) → d < 2 → a ≡ (a * 2 + d) / 2
        halve a d h = omega arith
    go false hv hw h0 hs ih =
        ih v w hv hw (λ j l t. ap (λ (x : ℕ). bit x j) (halve (S v)) ∙ hs j l t ∙ sym (ap (λ (x : ℕ). bit x j) (halve (S w))))
      where
        halve : (a : ℕ) → a ≡ a * 2 / 2
        halve a = omega arith

pub spread-zero : (k : ℕ) (P : ℕ → Bool) (v j : ℕ) → j < k → (T (P j) → ⊥) → bit (spread k P v) j ≡ 0
spread-zero zero P v j l n = absurd (omega arith)
spread-zero (suc k) P v zero l n = go (P 0) n
  where
    go : (b : Bool) → (T b → ⊥) → put b (spread k (λ j. P (suc j))) v % 2 ≡ 0
    go true n = absurd (n tt)
    go false n = omega arith
spread-zero (suc k) P v (suc j) l n = go (P 0) (λ v. spread-zero k (λ j. P (suc j)) v j (omega arith) n)
  where
    S : ℕ → ℕ
    S = spread k (λ j. P (suc j))

    halve : (a d : ℕ) → d < 2 → (a * 2 + d) / 2 ≡ a
    halve a d h = omega arith

    halve' : (a : ℕ) → a * 2 / 2 ≡ a
    halve' a = omega arith

    go : (b : Bool) → ((v : ℕ) → bit (S v) j ≡ 0) → bit (put b S v / 2) j ≡ 0
    go true ih = ap (λ (x : ℕ). bit x j) (halve (S (v / 2)) (v % 2) (omega arith)) ∙ ih (v / 2)
    go false ih = ap (λ (x : ℕ). bit x j) (halve' (S v)) ∙ ih v

-- no place passes
pub count_none : (k : ℕ) (P : ℕ → Bool) → ((j : ℕ) → j < k → T (P j) → ⊥) → count k P ≡ 0
count_none zero P h = refl
count_none (suc k) P h = go (P 0) (h 0 (suc-le-suc zero-le)) ∙ count_none k (λ j. P (suc j)) (λ j l. h (suc j) (suc-le-suc l))
  where
    go : (b : Bool) → (T b → ⊥) → more b (count k (λ j. P (suc j))) ≡ count k (λ j. P (suc j))
    go true n = absurd (n tt)
    go false n = refl
