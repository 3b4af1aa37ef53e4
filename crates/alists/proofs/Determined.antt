-- Determined: two replies with what they leave that meet the promise of a call are equal.
use Rattle.std.proofs.Common.{Result}
use Rattle.alists.specs.declared.Matrix.{Matrix}
use mathlib.Core.List.{List}
use mathlib.Core.Logic.{inl, inr, ◌⊎◌}
use mathlib.Core.Path.{◌≡◌, ap, sym, ◌∙◌}
use native.Mathlib.Omega.{arith}
use Prim.Native.Nat.{◌<◌, ℕ}
use Rattle.alists.specs.Calls.{Reads, WritesAlist, write_conditions}
use Rattle.alists.specs.Text.{alist_text}
use Rattle.listings.proofs.Determined.{Same, determined}
use Rattle.plates.specs.declared.Refusal.{Refusal}
use Rattle.plates.specs.declared.Refusal.TheVariants.{RowBeyond}
use Rattle.plates.specs.Prepare.{RowOver}
use Rattle.words.proofs.Span.{lt-tri}

-- a text has one reading
pub read-determined : (text table : List ℕ) {r s : Result Matrix Refusal} {a b : List ℕ} → Reads text table r a → Reads text table s b → (r ≡ s) × (a ≡ b)
read-determined text table x y = (x.replies ∙ sym y.replies, x.leaves ∙ sym y.leaves)

-- each condition of writing gives one refusal
once : {refusal : Refusal} {holds : Type 0} (p q : Refusal) → holds × (p ≡ refusal) → holds × (q ≡ refusal) → p ≡ q
once p q x y = x.1 ∙ sym y.1

row-once : (n : ℕ) (rows : List ℕ) (p q : Refusal) → RowOver n rows p → RowOver n rows q → p ≡ q
row-once n rows p q x y = x.is ∙ ap RowBeyond (go (lt-tri x.row y.row)) ∙ sym y.is
  where
    go : (x.row < y.row) ⊎ ((x.row ≡ y.row) ⊎ (y.row < x.row)) → x.row ≡ y.row
    go (inl h) = absurd (omega (arith, y.first x.row h, x.over))
    go (inr (inl e)) = e
    go (inr (inr h)) = absurd (omega (arith, x.first y.row h, y.over))

-- a matrix has one text in a room
pub write-determined : (n : ℕ) (rows room : List ℕ) {r s : Result ℕ Refusal} {a b : List ℕ} → WritesAlist n rows room r a → WritesAlist n rows room s b → Same r s a b
write-determined n rows room = determined (write_conditions n rows room) (once, (once, (row-once n rows, (once, (once, tt))))) (alist_text n rows) room
