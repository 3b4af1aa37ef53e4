-- A forced position: what it adds to a word's metric, and that the best word has the bit to which it is forced.
use lib.Bits.{bit_xor}
use lib.IntN.{◌+ℤ◌, ◌-ℤ◌, +ℤ_assoc, +ℤ_comm, +ℤ_idl, +ℤ-neg_ℤ_cancel, nat_abs, neg_ℤ, neg_ℤ-neg_ℤ, pos, ℤ}
use lib.ListN.{get_or, length, length-set, set}
use lib.Seq.{get_or-set_other, get_or-set_same, set-get_or}
use lib.Signed.{◌≤ℤ◌}
use mathlib.Core.List.{List, [], ◌∷◌}
use mathlib.Core.Logic.{inl, inr, ◌⊎◌}
use mathlib.Core.Path.{ap, refl, subst, sym, ◌∙◌, ◌≡◌}
use native.Mathlib.Nat.{le_of_suc-le-suc}
use native.Mathlib.Omega.{arith}
use Prim.Native.Nat.{◌%◌, ◌/◌, ◌<◌, suc, zero, ℕ, ◌≤◌}
use Rattle.decoding.proofs.BestWord.{best-word}
use Rattle.decoding.proofs.IntegerOrder.{add-le, cancel-le, far_apart}
use Rattle.decoding.proofs.MaskedWords.{rest_of}
use Rattle.decoding.proofs.MetricBounds.{Within, metric-within}
use Rattle.decoding.proofs.TurnedSamples.{signed-zero}
use Rattle.decoding.specs.Backward.{best, counted, word_from}
use Rattle.decoding.specs.declared.Answer.{Answer}
use Rattle.decoding.specs.Decode.{Best}
use Rattle.decoding.specs.Firmness.{BestAmong}
use Rattle.decoding.specs.Forcing.{best_with, forcing}
use Rattle.decoding.specs.Metric.{limit, metric_of}
use Rattle.decoding.specs.Taking.{signed}
use Rattle.decoding.specs.Turning.{turned_by}
use Rattle.plates.proofs.SoundIsPrepared.{sound}
use Rattle.plates.specs.declared.Plate.{Plate}
use Rattle.plates.specs.Prepare.{IsPrepared, IsWord, rows_of}
use Rattle.trellises.specs.SectionOf.{section_of}
use Rattle.words.proofs.Span.{lt-tri}
use Rattle.words.proofs.Word.{bit-lt}
use Rattle.words.specs.Word.{bit}

-- ---- what a position adds

-- the metric of the other positions, and what the position adds
pub metric-set : (ys : List ℤ) (p : ℕ) (g : ℤ) (w : ℕ) → p < length ys → metric_of (set ys p g) w ≡ metric_of (set ys p (pos 0)) w +ℤ signed (bit w p) g
metric-set [] p g w h = absurd (omega arith)
metric-set (y ∷ ys) zero g w h =
    +ℤ_comm (signed (w % 2) g) (metric_of ys (w / 2))
    ∙ ap (λ (m : ℤ). m +ℤ signed (w % 2) g) (sym (ap (λ (z : ℤ). z +ℤ metric_of ys (w / 2)) (signed-zero (w % 2)) ∙ +ℤ_idl (metric_of ys (w / 2))))
metric-set (y ∷ ys) (suc p) g w h =
    ap (λ (m : ℤ). signed (w % 2) y +ℤ m) (metric-set ys p g (w / 2) (le_of_suc-le-suc h))
    ∙ sym (+ℤ_assoc (signed (w % 2) y) (metric_of (set ys p (pos 0)) (w / 2)) (signed (bit (w / 2) p) g))

-- the forced bit gains, and the other loses as much
signed_same : (b : ℕ) (g : ℤ) → signed b (signed b g) ≡ g
signed_same zero g = refl
signed_same (suc b) g = neg_ℤ-neg_ℤ g

signed-other : (b d : ℕ) (g : ℤ) → b < 2 → d < 2 → (d ≡ b → ⊥) → signed d (signed b g) ≡ neg_ℤ g
signed-other zero zero g hb hd n = absurd (n refl)
signed-other zero (suc d) g hb hd n = refl
signed-other (suc b) zero g hb hd n = refl
signed-other (suc b) (suc d) g hb hd n = absurd (n (omega arith))

-- one gain set, all within a bound that it keeps
pub within-set : (most : ℕ) (ys : List ℤ) (p : ℕ) (g : ℤ) → Within most ys → nat_abs g ≤ most → Within most (set ys p g)
within-set most ys p g h k i l = go (lt-tri i p)
  where
    short : i < length ys
    short = omega (arith, l, length-set ys p g)

    other : (i ≡ p → ⊥) → nat_abs (get_or (set ys p g) i (pos 0)) ≤ most
    other n = subst (λ (x : ℤ). nat_abs x ≤ most) (sym (get_or-set_other ys p i g (pos 0) n)) (h i short)

    go : (i < p) ⊎ ((i ≡ p) ⊎ (p < i)) → nat_abs (get_or (set ys p g) i (pos 0)) ≤ most
    go (inl q) = other (λ e. omega arith)
    go (inr (inl e)) =
        subst (λ (j : ℕ). nat_abs (get_or (set ys p g) j (pos 0)) ≤ most) (sym e)
        (subst (λ (x : ℤ). nat_abs x ≤ most) (sym (get_or-set_same ys p g (pos 0) (omega (arith, e, short)))) k)
    go (inr (inr q)) = other (λ e. omega arith)

-- ---- the best word where a position is forced to bit b

module _ (plate : Plate) (given : IsPrepared plate) (ys : List ℤ) (size : length ys ≡ plate.n) (within : Within limit ys) (p : ℕ) (there : p < plate.n)
    (b : ℕ) (two : b < 2) where
  abbrev gains : List ℤ
  gains = set ys p (signed b (pos forcing))

  -- the metric of the other positions
  abbrev others : ℕ → ℤ
  others w = metric_of (set ys p (pos 0)) w

  inside : p < length ys
  inside = omega (arith, size)

  others-small : (w : ℕ) → nat_abs (metric_of (set ys p (pos 0)) w) < forcing
  others-small w =
      omega (arith, metric-within limit (set ys p (pos 0)) (within-set limit ys p (pos 0) within (omega arith)) w, length-set ys p (pos 0), size, (sound given).short)

  abbrev answer : Answer
  answer = record {
    word = bit_xor (word_from (section_of (rows_of plate)) (turned_by (rest_of plate) gains) 0 0) (rest_of plate);
    metric = best (section_of (rows_of plate)) (turned_by (rest_of plate) gains) 0 0;
    counts = counted (section_of (rows_of plate)) (turned_by (rest_of plate) gains) 0;
  }

  winner : Best plate (set ys p (signed b (pos forcing))) answer
  winner = best-word plate given gains (length-set ys p (signed b (pos forcing)) ∙ size) answer refl refl refl

  -- a word with the bit, and one with the other
  forced-with : (w : ℕ) → bit w p ≡ b → metric_of gains w ≡ others w +ℤ pos forcing
  forced-with w e =
      metric-set ys p (signed b (pos forcing)) w inside
      ∙ ap (λ (z : ℤ). others w +ℤ z) (ap (λ (d : ℕ). signed d (signed b (pos forcing))) e ∙ signed_same b (pos forcing))

  forced-without : (w : ℕ) → (bit w p ≡ b → ⊥) → metric_of gains w ≡ others w +ℤ neg_ℤ (pos forcing)
  forced-without w n =
      metric-set ys p (signed b (pos forcing)) w inside
      ∙ ap (λ (z : ℤ). others w +ℤ z) (signed-other b (bit w p) (pos forcing) two (bit-lt p w) n)

  own : (w : ℕ) → bit w p ≡ b → metric_of ys w ≡ others w +ℤ signed b (get_or ys p (pos 0))
  own w e =
      ap (λ (zs : List ℤ). metric_of zs w) (sym (set-get_or ys p (pos 0))) ∙ metric-set ys p (get_or ys p (pos 0)) w inside
      ∙ ap (λ (d : ℕ). others w +ℤ signed d (get_or ys p (pos 0))) e

  -- where some word has the bit, the best has it
  module _ (v : ℕ) (v-in : IsWord plate v) (v-has : bit v p ≡ b) where
    not-other : (bit answer.word p ≡ b → ⊥) → ⊥
    not-other n =
        far_apart (others v) (others answer.word) forcing (others-small v) (others-small answer.word)
        (subst (λ (x : ℤ). x ≤ℤ (others answer.word +ℤ neg_ℤ (pos forcing))) (forced-with v v-has)
        (subst (λ (x : ℤ). metric_of gains v ≤ℤ x) (winner.metric ∙ forced-without answer.word n) (winner.greatest v v-in)))

    won : bit answer.word p ≡ b
    won = go (lt-tri (bit answer.word p) b)
      where
        go : (bit answer.word p < b) ⊎ ((bit answer.word p ≡ b) ⊎ (b < bit answer.word p)) → bit answer.word p ≡ b
        go (inl l) = absurd (not-other (λ e. omega (arith, e, l)))
        go (inr (inl e)) = e
        go (inr (inr l)) = absurd (not-other (λ e. omega (arith, e, l)))

    top : answer.metric ≡ others answer.word +ℤ pos forcing
    top = winner.metric ∙ forced-with answer.word won

    reached : best_with (section_of (rows_of plate)) (rest_of plate) ys p b ≡ others answer.word +ℤ signed b (get_or ys p (pos 0))
    reached = ap (λ (z : ℤ). z +ℤ signed b (get_or ys p (pos 0))) (ap (λ (z : ℤ). z -ℤ pos forcing) top ∙ +ℤ-neg_ℤ_cancel (others answer.word) (pos forcing))

    pub best-among : BestAmong (IsWord plate) ys p b (best_with (section_of (rows_of plate)) (rest_of plate) ys p b)
    best-among = record {
      word = answer.word;
      codeword = winner.codeword;
      has = won;
      metric = own answer.word won ∙ sym reached;
      greatest = λ w g e.
          subst (λ (x : ℤ). x ≤ℤ best_with (section_of (rows_of plate)) (rest_of plate) ys p b) (sym (own w e))
          (subst (λ (x : ℤ). (others w +ℤ signed b (get_or ys p (pos 0))) ≤ℤ x) (sym reached)
          (add-le (signed b (get_or ys p (pos 0))) (others w) (others answer.word)
          (cancel-le (pos forcing) (others w) (others answer.word) (subst (λ (x : ℤ). x ≤ℤ (others answer.word +ℤ pos forcing)) (forced-with w e) (subst (λ (x : ℤ). metric_of gains w ≤ℤ x) top (winner.greatest w g))))));
    }
