-- The recursion from the far end gives the greatest metric of all ways to the end, and the word read off is the earliest that has it.
use lib.IntN.{◌+ℤ◌, ℤ}
use lib.ListN.{length}
use mathlib.Core.List.{List, [], ◌∷◌}
use mathlib.Core.Logic.{inl, inr, ◌⊎◌}
use mathlib.Core.Path.{ap, ap₂, refl, subst, sym, ◌∙◌, ◌≡◌}
use native.Mathlib.Omega.{arith}
use Prim.Native.Nat.{◌%◌, ◌*◌, ◌+◌, ◌/◌, ◌<◌, ◌^◌, suc, ℕ}
use Rattle.decoding.proofs.Leaving.{BestBranch, best-branch, bit-two}
use Rattle.decoding.proofs.StateChoice.{Beats, Under, under-beaten, under-behind}
use Rattle.decoding.specs.Backward.{Chain, best, follow, word_from}
use Rattle.decoding.specs.Metric.{metric_of}
use Rattle.decoding.specs.Taking.{added, signed}
use Rattle.trellises.proofs.Digits.{rest}
use Rattle.trellises.specs.declared.Section.{Section}
use Rattle.trellises.specs.Numbers.{bit_of, branch_count, leads_to, leaves}
use Rattle.words.proofs.Word.{half}

-- ways through the sections from depth t on, from state i: the word w spells the branches taken, one a sample, and nothing more
module _ (sections : ℕ → Section) where
  abbrev pub Way : List ℤ → ℕ → ℕ → ℕ → Type 0
  Way [] t i w = w ≡ 0
  Way (y ∷ ys) t i w =
      (x : ℕ) × (x < branch_count (sections t)) × (leaves (sections t) x ≡ i) × (bit_of (sections t) x ≡ w % 2)
      × Way ys (suc t) (leads_to (sections t) x) (w / 2)

module _ (sections : ℕ → Section) (n : ℕ) (chain : Chain sections n) where
  -- the branch chosen at state i of depth t
  module _ (y : ℤ) (ys : List ℤ) (t i : ℕ) (k : t < n) (h : i < 2 ^ (sections t).live) where
    abbrev pub choice : (z : ℕ) × BestBranch (sections t) (chain.fits t k) i h y (best sections ys (suc t)) z
    choice = best-branch (sections t) (chain.fits t k) i h y (best sections ys (suc t))

    -- the word read off begins with its bit, and goes on from where it leads
    pub word_is : word_from sections (y ∷ ys) t i ≡ word_from sections ys (suc t) (leads_to (sections t) choice.0) * 2 + bit_of (sections t) choice.0
    word_is =
        ap (λ (b : ℕ). word_from sections ys (suc t) (follow (sections t) i b) * 2 + b) choice.1.bit_is
        ∙ ap (λ (s : ℕ). word_from sections ys (suc t) s * 2 + bit_of (sections t) choice.0) (ap (leads_to (sections t)) choice.1.by)

  halves : (w b : ℕ) → b ≡ w % 2 → w / 2 * 2 + b ≡ w
  halves w b e = omega arith

  -- a way by branch x, where the ways on from there are under the best
  module _ (y : ℤ) (ys : List ℤ) (t i w : ℕ) (k : t < n) (h : i < 2 ^ (sections t).live) (x : ℕ)
      (below-x : x < branch_count (sections t)) (leaves-x : leaves (sections t) x ≡ i) (bit-x : bit_of (sections t) x ≡ w % 2)
      (under-x : Under (best sections ys (suc t) (leads_to (sections t) x)) (word_from sections ys (suc t) (leads_to (sections t) x)) (w / 2) (metric_of ys (w / 2))) where
    -- the branch chosen, and the metrics and words from where branches lead
    abbrev z : ℕ
    z = (choice y ys t i k h).0

    abbrev metric-by : ℕ → ℤ
    metric-by q = added (sections t) y (best sections ys (suc t)) q

    abbrev word-by : ℕ → ℕ
    word-by q = word_from sections ys (suc t) (leads_to (sections t) q) * 2 + bit_of (sections t) q

    abbrev scored : ℕ → ℤ
    scored d = signed d y +ℤ metric_of ys (w / 2)

    along : Under (metric-by x) (word-by x) (w / 2 * 2 + bit_of (sections t) x) (scored (bit_of (sections t) x))
    along = under-behind (bit_of (sections t) x) y _ _ (w / 2) (metric_of ys (w / 2)) (bit-two (sections t) (chain.fits t k) i h x) under-x

    won : (x ≡ z) ⊎ Beats (metric-by z) (bit_of (sections t) z) (metric-by x) (bit_of (sections t) x)
        → Under (metric-by z) (word-by z) (w / 2 * 2 + bit_of (sections t) x) (scored (bit_of (sections t) x))
    won (inl e) =
        subst (λ (q : ℕ). Under (metric-by q) (word-by q) (w / 2 * 2 + bit_of (sections t) x) (scored (bit_of (sections t) x))) e along
    won (inr a) =
        under-beaten _ _ _ _ (word_from sections ys (suc t) (leads_to (sections t) x)) (word_from sections ys (suc t) (leads_to (sections t) z)) (w / 2) _ a along

    under-state : Under (best sections (y ∷ ys) t i) (word_from sections (y ∷ ys) t i) w (scored (w % 2))
    under-state =
        subst (λ (B : ℤ). Under B (word_from sections (y ∷ ys) t i) w (scored (w % 2))) (sym (choice y ys t i k h).1.metric)
        (subst (λ (W : ℕ). Under (metric-by z) W w (scored (w % 2))) (sym (word_is y ys t i k h))
        (subst (λ (v : ℕ). Under (metric-by z) (word-by z) v (scored (w % 2))) (halves w (bit_of (sections t) x) bit-x)
        (subst (λ (d : ℕ). Under (metric-by z) (word-by z) (w / 2 * 2 + bit_of (sections t) x) (scored d)) bit-x
        (won ((choice y ys t i k h).1.beats x below-x leaves-x)))))

  -- no way to the end beats the best, and one that ties with the word read off is it or later
  pub none-beats : (ys : List ℤ) (t i w : ℕ) → t + length ys ≡ n → i < 2 ^ (sections t).live → Way sections ys t i w
      → Under (best sections ys t i) (word_from sections ys t i) w (metric_of ys w)
  none-beats [] t i w e h a = inr (refl, inl (sym a))
  none-beats (y ∷ ys) t i w e h (x, p, q, b, rest) =
      let k : t < n = omega arith in
      under-state y ys t i w k h x p q b (none-beats ys (suc t) (leads_to (sections t) x) (w / 2) (omega arith) (chain.leads t k x p) rest)

  -- the word read off goes on from the branch chosen
  module _ (y : ℤ) (ys : List ℤ) (t i : ℕ) (k : t < n) (h : i < 2 ^ (sections t).live) where
    abbrev next : ℕ
    next = leads_to (sections t) (choice y ys t i k h).0

    goes_on : Way sections ys (suc t) next (word_from sections ys (suc t) next) × (metric_of ys (word_from sections ys (suc t) next) ≡ best sections ys (suc t) next)
        → Way sections (y ∷ ys) t i (word_from sections (y ∷ ys) t i) × (metric_of (y ∷ ys) (word_from sections (y ∷ ys) t i) ≡ best sections (y ∷ ys) t i)
    goes_on r =
        let d : ℕ = bit_of (sections t) (choice y ys t i k h).0 in
        let W : ℕ = word_from sections ys (suc t) next in
        let ch = (choice y ys t i k h).1 in
        let two : bit_of (sections t) (choice y ys t i k h).0 < 2 = bit-two (sections t) (chain.fits t k) i h (choice y ys t i k h).0 in
        let low : (W * 2 + d) % 2 ≡ d = omega arith in
        let high : (W * 2 + d) / 2 ≡ W = half W d two in
        subst (λ (v : ℕ). Way sections (y ∷ ys) t i v × (metric_of (y ∷ ys) v ≡ best sections (y ∷ ys) t i)) (sym (word_is y ys t i k h)) (
          ((choice y ys t i k h).0, ch.below, ch.leaves_i, sym low, subst (Way sections ys (suc t) next) (sym high) r.0),
          ap₂ (λ (e v : ℕ). signed e y +ℤ metric_of ys v) low high ∙ ap (λ (m : ℤ). signed d y +ℤ m) r.1 ∙ sym ch.metric,
        )

  -- the word read off is a way, and has the best metric
  pub attains : (ys : List ℤ) (t i : ℕ) → t + length ys ≡ n → i < 2 ^ (sections t).live
      → Way sections ys t i (word_from sections ys t i) × (metric_of ys (word_from sections ys t i) ≡ best sections ys t i)
  attains [] t i e h = (refl, refl)
  attains (y ∷ ys) t i e h =
      let k : t < n = omega arith in
      let z : ℕ = (choice y ys t i k h).0 in
      goes_on y ys t i k h (attains ys (suc t) (leads_to (sections t) z) (omega arith) (chain.leads t k z (choice y ys t i k h).1.below))
