-- Determined: two replies of `why_not_parts`, with both rooms, that meet its promise are equal; and a reason is given exactly when it holds.
use Rattle.std.proofs.Common.{Result, Ok, Err}
use lib.IntN.{ℤ}
use mathlib.Core.List.{List}
use mathlib.Core.Logic.{◌↔◌}
use mathlib.Core.Path.{ap, refl, subst, sym, ◌∙◌, ◌≡◌}
use Prim.Native.Nat.{ℕ}
use Rattle.asking.proofs.OneReason.{reason-once}
use Rattle.asking.specs.Asking.{Asks, Explains, Reasoned}
use Rattle.asking.specs.declared.Reason.{Reason}
use Rattle.decoding.proofs.DecodeDetermined.{answer-same, single}
use Rattle.decoding.specs.declared.Answer.{Answer}
use Rattle.decoding.specs.Decode.{Best, decode_conditions}
use Rattle.plates.proofs.Refusing.{never_both, refuses-once}
use Rattle.plates.specs.declared.Plate.{Plate}
use Rattle.plates.specs.declared.Refusal.{Refusal}
use Rattle.plates.specs.Refusals.{Passes}

module _ (plate : Plate) (samples : List ℤ) (w : ℕ) (metrics : List ℤ) (decisions : List ℕ) where
  abbrev conditions : List (Refusal → Type 0)
  conditions = decode_conditions plate samples metrics decisions

  -- a reason holds against whichever answer is the best
  against : (reason : Reason) → Reasoned plate samples w reason → (a : Answer) → Best plate samples a → Explains plate samples a w reason
  against reason x a b = subst (λ (c : Answer). Explains plate samples c w reason) (answer-same plate samples metrics decisions x.answer a x.best b) x.explains

  reason-same : (r s : Reason) → Reasoned plate samples w r → Reasoned plate samples w s → r ≡ s
  reason-same r s x y = reason-once plate samples x.answer x.best w r s x.explains (against s y x.answer x.best)

  pub why-not-determined : (r s : Result Reason Refusal) (m n : List ℤ) (d e : List ℕ) → Asks plate samples w metrics decisions m d r → Asks plate samples w metrics decisions n e s
      → (r ≡ s) × (m ≡ n) × (d ≡ e)
  why-not-determined (Ok a) (Ok b) m n d e x y =
      (ap Ok (reason-same a b x.1 y.1), x.2.metrics_zero ∙ sym y.2.metrics_zero, x.2.decisions_zero ∙ sym y.2.decisions_zero)
  why-not-determined (Ok a) (Err q) m n d e x y = absurd (never_both conditions x.0 q y.0)
  why-not-determined (Err p) (Ok b) m n d e x y = absurd (never_both conditions y.0 p x.0)
  why-not-determined (Err p) (Err q) m n d e x y =
      (ap Err (refuses-once conditions (single plate samples metrics decisions) p q x.0 y.0), x.1 ∙ sym y.1, x.2 ∙ sym y.2)

  -- where the call is not refused, each reason is given exactly when it holds against decoding's answer
  pub given-exactly : (r : Result Reason Refusal) (m : List ℤ) (d : List ℕ) → Asks plate samples w metrics decisions m d r → Passes (decode_conditions plate samples metrics decisions)
      → (a : Answer) → Best plate samples a → (reason : Reason) → (r ≡ Ok reason) ↔ Explains plate samples a w reason
  given-exactly r m d x h a b reason = ((λ e. against reason (subst (Asks plate samples w metrics decisions m d) e x).1 a b), λ y. go r refl y)
    where
      go : (s : Result Reason Refusal) → r ≡ s → Explains plate samples a w reason → r ≡ Ok reason
      go (Ok s) e y =
          e ∙ ap Ok (reason-once plate samples a b w s reason (against s (subst (Asks plate samples w metrics decisions m d) e x).1 a b) y)
      go (Err q) e y = absurd (never_both conditions h q (subst (Asks plate samples w metrics decisions m d) e x).0)
