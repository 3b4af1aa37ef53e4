-- `listings::pieces::prepend_byte` meets its contract.
use native.Mathlib.Omega.{arith}
use Rattle.listings.proofs.Prepending.{prepend-full, prepend-one}
use Rattle.listings.proofs.pieces.prepend_byte.Goals as goal

pub returns-then-end-eq0 : goal.returns-then-end-eq0
returns-then-end-eq0 c = rw c.if-end-eq0.true (prepend-full _ _ _ (λ h. omega arith))

pub returns-then-end-gt256 : goal.returns-then-end-gt256
returns-then-end-gt256 c = prepend-full _ _ _ (λ h. omega arith)

pub overflow_sub-line : goal.overflow_sub-line
overflow_sub-line c = omega arith

pub bounds-line-end : goal.bounds-line-end
bounds-line-end c = omega arith

pub overflow_sub-result : goal.overflow_sub-result
overflow_sub-result c = omega arith

pub returns : goal.returns
returns c = prepend-one _ _ _ (omega arith) (omega arith)
