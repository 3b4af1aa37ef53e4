-- Determined: two replies of a call that writes or reads an alist text, with all lent cells, that meet its promise are equal.
use Rattle.std.proofs.Common.{Result}
use Rattle.plates.specs.declared.Refusal.{Refusal}
use Rattle.alists.specs.declared.Matrix.{Matrix}
use lib.ListN.{replicate}
use mathlib.Core.List.{List}
use mathlib.Core.Path.{ap₂, ◌≡◌}
use Prim.Native.Nat.{ℕ}
use Rattle.alists.proofs.Determined.{read-determined, write-determined}
use Rattle.exports.proofs.CallsDetermined.{calls-determined}
use Rattle.exports.specs.Calls.{Crossing}
use Rattle.exports.specs.Crossing.{Writing}
use Rattle.exports.specs.Matrices.{AlistCells, CallsReadAlist, CallsWriteAlist, MatrixCells, MatrixReading, ReadsTo, WritesTo}

pub write-alist-call-determined : (n : ℕ) (rows : List ℕ) (lent a b : AlistCells) (r s : ℕ) → CallsWriteAlist n rows lent r a → CallsWriteAlist n rows lent s b
    → ◌≡◌ {A = Crossing AlistCells} (record { code = r; cells = a }) (record { code = s; cells = b })
write-alist-call-determined n rows lent a b r s = calls-determined one
  where
    one : (x y : Writing) → WritesTo n rows lent x → WritesTo n rows lent y → x ≡ y
    one x y p q =
        let same = write-determined n rows lent.room p q in
        ap₂ (λ (u : Result ℕ Refusal) (l : List ℕ). record { reply = u; room = l }) same.0 same.1

pub read-alist-call-determined : (text : List ℕ) (lent a b : MatrixCells) (r s : ℕ) → CallsReadAlist text lent r a → CallsReadAlist text lent s b
    → ◌≡◌ {A = Crossing MatrixCells} (record { code = r; cells = a }) (record { code = s; cells = b })
read-alist-call-determined text lent a b r s = calls-determined one
  where
    one : (x y : MatrixReading) → ReadsTo text x → ReadsTo text y → x ≡ y
    one x y p q =
        let same = read-determined text (replicate 64 0) p q in
        ap₂ (λ (u : Result Matrix Refusal) (l : List ℕ). record { reply = u; table = l }) same.0 same.1
