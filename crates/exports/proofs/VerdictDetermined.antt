-- Determined: two replies of the call that judges a listing of branches, with all lent cells, that meet its promise are equal.
use mathlib.Core.List.{List}
use mathlib.Core.Path.{ap₂, ◌≡◌}
use Prim.Native.Nat.{ℕ}
use Rattle.exports.proofs.CallsDetermined.{calls-determined}
use Rattle.exports.specs.Calls.{Crossing}
use Rattle.exports.specs.Flat.{plate_of}
use Rattle.exports.specs.Verdicts.{CallsJudge, VerdictCells, VerdictReply, VerdictTo}
use Rattle.judging.proofs.Determined.{judge-determined}
use Rattle.judging.specs.declared.Judgement.{Judgement}

pub judge-call-determined : (words text : List ℕ) (lent a b : VerdictCells) (r s : ℕ) → CallsJudge words text lent r a → CallsJudge words text lent s b
    → ◌≡◌ {A = Crossing VerdictCells} (record { code = r; cells = a }) (record { code = s; cells = b })
judge-call-determined words text lent a b r s = calls-determined one
  where
    one : (x y : VerdictReply) → VerdictTo (plate_of words) text lent x → VerdictTo (plate_of words) text lent y → x ≡ y
    one x y p q =
        let same = judge-determined (plate_of words) text lent.room x.room y.room x.reply y.reply p q in
        ap₂ (λ (u : Judgement) (l : List ℕ). record { reply = u; room = l }) same.0 same.1
