-- The block lines at the front of some lines, one after the other.
use Rattle.std.proofs.Common.{Option, Some, None}
use Rattle.sheets.specs.declared.SampleLine.{SampleLine}
use Rattle.sheets.specs.Made.{sample_line_of}
use Prim.Native.Nat.{ℕ, ◌+◌, ◌≤◌}
use lib.IntN.{ℤ}
use lib.ListN.{length}
use mathlib.Core.Bool.{Bool}
use mathlib.Core.List.{List, [], ◌∷◌}
use mathlib.Core.Path.{◌≡◌, refl, sym, ◌∙◌, ap}
use native.Mathlib.Omega.{arith}
use Rattle.sheets.specs.Text.{lines_from}
use Rattle.sheets.specs.Blocks.{BlockFound, block, no_block, block_front, block_then, blocks_of, block_at, next_line, block_reply}
use Rattle.sheets.specs.Readers.{BlockRead, BlocksRead}
use Rattle.sheets.proofs.Passing.{at-end, line-split, Passing, pass_on, pass-end}

-- one block line more
pub blocks_more : (heard : Bool) (ls : List (List ℕ)) {l : List ℕ} {ms : List (List ℕ)} (vs : List ℤ) → ls ≡ l ∷ ms → block_front heard ls ≡ block vs → blocks_of heard ls ≡ vs ∷ blocks_of heard ms
blocks_more heard ls {l} {ms} vs q e = ap (blocks_of heard) q ∙ ap (λ (b : BlockFound). block_then b (blocks_of heard ms)) (rw q at e)

-- no block line more
pub blocks-none : (heard : Bool) (ls : List (List ℕ)) → block_front heard ls ≡ no_block → blocks_of heard ls ≡ []
blocks-none heard [] e = refl
blocks-none heard (l ∷ ls) e = rw e

-- what a reply says of the line
told_none : (b : BlockFound) (next : ℕ) → None ≡ block_reply next b → b ≡ no_block
told_none (block vs) next q = let z : ◌≡◌ {A = ℕ} 0 1 = cc in absurd (omega arith)
told_none no_block next q = refl

module _ (heard : Bool) {s : List ℕ} {from at k : ℕ} (i : Passing (blocks_of heard) s from at k) where
  -- no block line begins there
  pub block-stop : (r : Option SampleLine) → BlockRead heard s at r → r ≡ None → BlocksRead heard s from (record { count = k; next = at })
  block-stop r d e = pass-end i (blocks-none heard (lines_from s at) (told_none (block_at heard s at) (next_line s at) (sym e ∙ d.reply)))

  -- the end of the input
  pub block_last : length s ≤ at → BlocksRead heard s from (record { count = k; next = at })
  block_last h = pass-end i (rw (at-end s at (omega arith)))

  -- one block line more
  pub block_on : (r : Option SampleLine) → BlockRead heard s at r → (j next : ℕ) → r ≡ Some (sample_line_of j next) → Passing (blocks_of heard) s from next (k + 1)
  block_on r d j next e = by (block_at heard s at) refl
    where
      by : (b : BlockFound) → block_at heard s at ≡ b → Passing (blocks_of heard) s from next (k + 1)
      by (block vs) g =
          let p = d.place j next e in
          pass_on i next p vs (blocks_more heard (lines_from s at) vs (line-split p) g)
      by no_block g =
          let q : None ≡ Some (sample_line_of j next) = sym (rw g at d.reply) ∙ e in
          let z : ◌≡◌ {A = ℕ} 0 1 = cc in
          absurd (omega arith)
