-- Theorem: the sheet that is printed of the dual has exactly the words that are even with every codeword of the input's matrix.
use lib.Bits.{xor_zero_r}
use lib.ListN.{get_or, length}
use mathlib.Core.List.{List}
use mathlib.Core.Logic.Iff
use mathlib.Core.Logic.{◌↔◌}
use mathlib.Core.Path.{◌≡◌, subst, sym, ◌∙◌}
use Prim.Native.Nat.{◌<◌, ◌^◌, ℕ}
use Rattle.outlines.proofs.DoubleDual.{check-sum, checks-sums, double-dual}
use Rattle.outlines.proofs.SameWords.{iff-then, prepares, printed-words}
use Rattle.outlines.specs.declared.opening.Which.TheVariants.{Dual, Own}
use Rattle.outlines.specs.Opening.{kind_as}
use Rattle.outlines.specs.Words.{InDual, PrintsSheet, WordOf}
use Rattle.plates.specs.Code.{InCode}
use Rattle.plates.specs.declared.Kind.{Kind}
use Rattle.plates.specs.declared.Kind.TheVariants.{G, H}
use Rattle.plates.specs.Heads.{RowsOf}
use Rattle.plates.specs.Prepare.{rows_of}
use Rattle.sheets.proofs.Ranges.{sheet-in-range}
use Rattle.sheets.specs.Sheet.{Contents, reading, says}
use Rattle.trellises.proofs.AcceptedIsPrepared.{accepted, code_below}
use Rattle.words.proofs.Parity.{parity-comm}
use Rattle.words.proofs.Sums.{in_row}
use Rattle.words.specs.Ends.{firsts, lasts}
use Rattle.words.specs.Parity.{parity}
use native.Mathlib.Omega.{arith}

-- own: the plate rows of the matrix as it stands; other: those of the matrix under the other letter
dual-code : (kind : Kind) (n : ℕ) (rows : List ℕ) → ((j : ℕ) → j < length rows → get_or rows j 0 < 2 ^ n) → (own other : List ℕ)
    → RowsOf (InCode kind n rows) own (firsts own) (lasts own) → RowsOf (InCode (kind_as Dual kind) n rows) other (firsts other) (lasts other)
    → (w : ℕ) → InCode (kind_as Dual kind) n rows w ↔ ((w < 2 ^ n) × ((v : ℕ) → InCode kind n rows v → parity v w ≡ 0))
dual-code G n rows below own other p q w = (
  (λ c. (c.below, λ v s. checks-sums n rows w v c s)),
  λ c. record { below = c.0; even = λ j h. c.1 (get_or rows j 0) (in_row rows j) },
)
dual-code H n rows below own other p q w = (
  (λ s. (code_below G n rows (λ r o. omega (arith, below o.row o.there, o.over)) w s, λ v c. parity-comm v w ∙ checks-sums n rows v w c s)),
  λ c. double-dual n rows below other own q p w c.0 (λ v s. c.1 v ((check-sum n rows below other own q p v).1 s)),
)

pub dual-words : {input text other : List ℕ} (s : PrintsSheet Dual input text) (o : PrintsSheet Own input other) (c : Contents) → reading input ≡ says c
    → (d : Contents) × (reading text ≡ says d) × (c.n ≡ d.n) × ((w : ℕ) → WordOf d w ↔ InDual c w)
dual-words {input} {text} {other} s o c r =
    let found = printed-words s c r in
    let p = (accepted c.n c.kind c.rows c.mask o.prepared (prepares o c r) o.accepted).1.rows in
    let q = (accepted c.n (kind_as Dual c.kind) c.rows 0 s.prepared (prepares s c r) s.accepted).1.rows in
    let code = dual-code c.kind c.n c.rows (sheet-in-range input c r).below (rows_of o.prepared.plate) (rows_of s.prepared.plate) p q in (
      found.0,
      found.1,
      found.2.0,
      λ w. iff-then (Iff.symm (found.2.1 w)) (subst (λ (x : ℕ). InCode (kind_as Dual c.kind) c.n c.rows x ↔ InDual c w) (sym (xor_zero_r w)) (code w)),
    )
