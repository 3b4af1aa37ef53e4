-- The replies of `why_not_parts`, case by case, from what decoding replies.
use Rattle.std.proofs.Common.{Result, Ok, Err}
use lib.IntN.{ℤ}
use mathlib.Core.List.{List}
use mathlib.Core.Path.{refl, subst, ◌≡◌}
use Prim.Native.Nat.{ℕ}
use Rattle.asking.specs.Asking.{Asks, Explains}
use Rattle.asking.specs.Working.{Asked}
use Rattle.asking.specs.declared.Reason.{Reason}
use Rattle.decoding.proofs.SampleLimits.{none_over, samples-are-n}
use Rattle.decoding.specs.declared.Answer.{Answer}
use Rattle.decoding.specs.Decode.{Decodes}
use Rattle.plates.specs.declared.Plate.{Plate}
use Rattle.plates.specs.declared.Refusal.{Refusal}
use Rattle.plates.specs.declared.Refusal.TheVariants.{NotPrepared}
use Rattle.plates.proofs.PreparedStable.{prepared-stable}

module _ (plate : Plate) (samples : List ℤ) (w : ℕ) (metrics : List ℤ) (decisions : List ℕ) where
  module _ (metrics' : List ℤ) (decisions' : List ℕ) (r : Result Answer Refusal) (d : Decodes plate samples metrics decisions metrics' decisions' r) where
    pub asked_of : (a : Answer) → r ≡ Ok a → Asked plate samples a
    asked_of a e =
        let x = subst (Decodes plate samples metrics decisions metrics' decisions') e d in
        let given = prepared-stable (λ n. x.0.0 NotPrepared (n, refl)) in
        record { given = given; size = samples-are-n plate samples x.0.1.0; within = none_over samples x.0.1.1.0; best = x.1 }

    pub explained : (a : Answer) → r ≡ Ok a → (reason : Reason) → Explains plate samples a w reason
        → Asks plate samples w metrics decisions metrics' decisions' (Ok reason)
    explained a e reason y =
        let x = subst (Decodes plate samples metrics decisions metrics' decisions') e d in
        (x.0, record { answer = a; best = x.1; explains = y }, x.2)

    pub refused : (q : Refusal) → r ≡ Err q → Asks plate samples w metrics decisions metrics' decisions' (Err q)
    refused q e = subst (Decodes plate samples metrics decisions metrics' decisions') e d
