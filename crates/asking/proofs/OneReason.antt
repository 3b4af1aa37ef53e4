-- Every word has exactly one reason against the answer of decoding.
use lib.IntN.{ℤ}
use lib.Signed.{◌<ℤ◌, <ℤ_irrefl}
use mathlib.Core.List.{List}
use mathlib.Core.Logic.{inl, inr, ◌⊎◌}
use mathlib.Core.Path.{ap, refl, subst, sym, ◌∙◌, ◌≡◌}
use native.Mathlib.Omega.{arith}
use Prim.Native.Nat.{◌<◌, ℕ}
use Rattle.asking.specs.Asking.{Explains, Less, Loses, NoCodewordAt}
use Rattle.asking.specs.declared.Reason.{Reason}
use Rattle.asking.specs.declared.Reason.TheVariants.{Chosen, NoCodeword, ScoresLess, TiesAndLoses}
use Rattle.decoding.specs.declared.Answer.{Answer}
use Rattle.decoding.specs.Decode.{Best}
use Rattle.decoding.specs.Metric.{metric_of}
use Rattle.plates.specs.declared.Plate.{Plate}
use Rattle.plates.specs.Prepare.{IsWord}
use Rattle.words.proofs.Span.{lt-tri, zero_one}
use Rattle.words.specs.Word.{Earlier}

-- the first difference of two words is one
place-once : {a w : ℕ} (x y : Earlier a w) → x.place ≡ y.place
place-once {a} {w} x y = go (lt-tri x.place y.place)
  where
    go : (x.place < y.place) ⊎ ((x.place ≡ y.place) ⊎ (y.place < x.place)) → x.place ≡ y.place
    go (inl h) = absurd (zero_one x.zero_here (y.same x.place h ∙ x.one_there))
    go (inr (inl e)) = e
    go (inr (inr h)) = absurd (zero_one y.zero_here (x.same y.place h ∙ y.one_there))

-- no word is earlier than itself
not_itself : (a : ℕ) → Earlier a a → ⊥
not_itself a e = zero_one e.zero_here e.one_there

-- the first position at which no codeword continues a word is one
stop-once : (plate : Plate) (w p q : ℕ) → NoCodewordAt plate w p → NoCodewordAt plate w q → p ≡ q
stop-once plate w p q x y = go (lt-tri p q)
  where
    go : (p < q) ⊎ ((p ≡ q) ⊎ (q < p)) → p ≡ q
    go (inl h) = absurd (x.stops (omega (arith, y.within)) (y.sooner p h))
    go (inr (inl e)) = e
    go (inr (inr h)) = absurd (y.stops (omega (arith, x.within)) (x.sooner q h))

module _ (plate : Plate) (samples : List ℤ) (a : Answer) (best : Best plate samples a) (w : ℕ) where
  -- the answer is a codeword
  chosen-codeword : w ≡ a.word → IsWord plate w
  chosen-codeword e = subst (IsWord plate) (sym e) best.codeword

  not-less : w ≡ a.word → (d : ℤ) → Less plate samples a w d → ⊥
  not-less e d l = <ℤ_irrefl (subst (λ (z : ℤ). z <ℤ a.metric) (ap (metric_of samples) e ∙ sym best.metric) l.less)

  not-loses : w ≡ a.word → (p : ℕ) → Loses plate samples a w p → ⊥
  not-loses e p l = not_itself a.word (subst (Earlier a.word) e l.loses)

  not-both : (d : ℤ) (p : ℕ) → Less plate samples a w d → Loses plate samples a w p → ⊥
  not-both d p x y = <ℤ_irrefl (subst (λ (z : ℤ). z <ℤ a.metric) y.tie x.less)

  -- two reasons that hold are the same, with the same number
  pub reason-once : (r s : Reason) → Explains plate samples a w r → Explains plate samples a w s → r ≡ s
  reason-once Chosen Chosen x y = refl
  reason-once Chosen (NoCodeword q) x y = absurd (y.none (chosen-codeword x))
  reason-once Chosen (ScoresLess d) x y = absurd (not-less x d y)
  reason-once Chosen (TiesAndLoses q) x y = absurd (not-loses x q y)
  reason-once (NoCodeword p) Chosen x y = absurd (x.none (chosen-codeword y))
  reason-once (NoCodeword p) (NoCodeword q) x y = ap NoCodeword (stop-once plate w p q x y)
  reason-once (NoCodeword p) (ScoresLess d) x y = absurd (x.none y.codeword)
  reason-once (NoCodeword p) (TiesAndLoses q) x y = absurd (x.none y.codeword)
  reason-once (ScoresLess c) Chosen x y = absurd (not-less y c x)
  reason-once (ScoresLess c) (NoCodeword q) x y = absurd (y.none x.codeword)
  reason-once (ScoresLess c) (ScoresLess d) x y = ap ScoresLess (x.by ∙ sym y.by)
  reason-once (ScoresLess c) (TiesAndLoses q) x y = absurd (not-both c q x y)
  reason-once (TiesAndLoses p) Chosen x y = absurd (not-loses y p x)
  reason-once (TiesAndLoses p) (NoCodeword q) x y = absurd (y.none x.codeword)
  reason-once (TiesAndLoses p) (ScoresLess d) x y = absurd (not-both d p y x)
  reason-once (TiesAndLoses p) (TiesAndLoses q) x y = ap TiesAndLoses (x.at ∙ place-once x.loses y.loses ∙ sym y.at)
