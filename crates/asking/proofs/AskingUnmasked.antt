-- With a zero mask the promise of `why_not_parts` is the earlier one, over the codewords.
use lib.IntN.{ℤ}
use mathlib.Core.List.{List}
use mathlib.Core.Logic.{◌↔◌}
use mathlib.Core.Path.{subst, sym, ◌≡◌}
use Prim.Native.Nat.{ℕ}
use Rattle.asking.specs.Asking.{Reasoned, ReasonedIn}
use Rattle.asking.specs.declared.Reason.{Reason}
use Rattle.decoding.proofs.MaskedWords.{words-plain}
use Rattle.plates.specs.declared.Plate.{Plate}
use Rattle.plates.specs.Prepare.{rows_of}
use Rattle.words.specs.Sum.{IsSum}

pub why-not-unmasked : (plate : Plate) → plate.mask ≡ 0 → (samples : List ℤ) (w : ℕ) (reason : Reason)
    → Reasoned plate samples w reason ↔ ReasonedIn (IsSum (rows_of plate)) plate samples w reason
why-not-unmasked plate none samples w reason = (
  subst (λ (C : ℕ → Type 0). ReasonedIn C plate samples w reason) (words-plain plate none),
  subst (λ (C : ℕ → Type 0). ReasonedIn C plate samples w reason) (sym (words-plain plate none)),
)
