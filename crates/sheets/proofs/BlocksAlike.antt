-- A block or heard line is one both where blocks are found (specs/Blocks) and where lines are read (specs/Lines), and no row comes after it.
use Rattle.std.proofs.Common.{Result, Ok, Err}
use Prim.Native.Nat.{ℕ}
use lib.IntN.{ℤ}
use mathlib.Core.Bool.{Bool, true, false}
use mathlib.Core.List.{List, [], ◌∷◌}
use mathlib.Core.Logic.{inl, inr}
use mathlib.Core.Path.{◌≡◌, refl, sym, ◌∙◌, ap, subst}
use native.Mathlib.Omega.{arith}
use Rattle.sheets.specs.Text.{fields}
use Rattle.sheets.specs.Words.{word_of}
use Rattle.sheets.specs.Blocks.{BlockFound, block, no_block, samples_of, samples_found, heard_rest, block_by, block_line, heard_line}
use Rattle.sheets.specs.Lines.{block_is, heard_fields, line_by, line_of, front}
use Rattle.sheets.specs.Faults.{after, first_word}
use Rattle.sheets.specs.declared.Order.{Order}
use Rattle.sheets.specs.declared.word.Word.{Word}
use Rattle.sheets.specs.declared.word.Word.TheVariants.{Cover, Mask, Row, Block, Heard, End, Other}
use Rattle.sheets.specs.declared.line.Came.{Came}
use Rattle.sheets.specs.declared.line.Came.TheVariants.{Nothing, Blocks, Heards}
use Rattle.sheets.specs.declared.line.Fault.{Fault}
use Rattle.sheets.specs.declared.line.Fault.TheVariants as F
use Rattle.sheets.specs.declared.line.Line.{Line}
use Rattle.sheets.specs.declared.line.Line.TheVariants as L
use Rattle.sheets.proofs.LineFaults.{LineJudged, Received, line-judged, not-both, part_of}

-- what has come after a block line, or after a heard line
abbrev pub past : Bool → Came
past false = Blocks
past true = Heards

-- the word of such a line
abbrev pub word_for : Bool → Word
word_for false = Block
word_for true = Heard

pub part-past : (heard : Bool) → after (word_for heard) ≡ part_of (past heard)
part-past false = refl
part-past true = refl

-- the lines that are sought go by what has come, or by the first of them
abbrev pub Sought : Came → Bool → List (List ℕ) → Type 0
Sought Nothing heard fs = heard ≡ heard_line fs
Sought Blocks heard fs = heard ≡ false
Sought Heards heard fs = heard ≡ true

pub past-sought : (heard : Bool) (fs : List (List ℕ)) → Sought (past heard) heard fs
past-sought false fs = refl
past-sought true fs = refl

-- a block or heard line is one by both definitions
abbrev pub Alike : Bool → Word → List ℤ → BlockFound → Result Line Fault → Type 0
Alike heard word vs (block us) x = (us ≡ vs) × (x ≡ Ok L.Block) × (word ≡ word_for heard)
Alike heard word vs no_block x = x ≡ Ok L.Block → ⊥

-- a word that is neither
abbrev is_other : Word → ℕ
is_other Cover = 1
is_other Mask = 1
is_other Row = 1
is_other Block = 0
is_other Heard = 0
is_other End = 1
is_other Other = 1

pub never-block : (fault : Fault) → Err fault ≡ Ok L.Block → ⊥
never-block fault e = let z : ◌≡◌ {A = ℕ} 0 1 = cc in omega arith

samples-alike : (heard : Bool) (vs : List ℤ) (r : Result ℕ ℕ) → Alike heard (word_for heard) vs (samples_found r vs) (block_is r)
samples-alike heard vs (Ok k) = (refl, refl, refl)
samples-alike heard vs (Err f) = never-block (F.Value f)

heard-alike : (vs : List ℤ) (fs : List (List ℕ)) → Alike true Heard vs (samples_found (heard_rest fs) vs) (heard_fields fs)
heard-alike vs [] = never-block (F.Count 2)
heard-alike vs (f ∷ fs) = samples-alike true vs (heard_rest (f ∷ fs))

module _ (n : ℕ) (order : Order) where
  -- no row comes after a block or heard line
  no-row-by : (heard : Bool) (word : Word) (fs : List (List ℕ)) (w : ℕ) → line_by n order (past heard) word fs ≡ Ok (L.Row w) → word ≡ Row → ⊥
  no-row-by false word fs w e q = let z : Err F.Turn ≡ Ok (L.Row w) = rw q at e in let y : ◌≡◌ {A = ℕ} 0 1 = cc in omega arith
  no-row-by true word fs w e q = let z : Err F.Turn ≡ Ok (L.Row w) = rw q at e in let y : ◌≡◌ {A = ℕ} 0 1 = cc in omega arith

  pub no_row : (heard : Bool) (ls : List (List ℕ)) (w : ℕ) → front n order (past heard) ls ≡ Ok (L.Row w) → ⊥
  no_row heard [] w e = let z : ◌≡◌ {A = ℕ} 0 1 = cc in omega arith
  no_row heard (l ∷ []) w e = let z : ◌≡◌ {A = ℕ} 0 1 = cc in omega arith
  no_row heard (l ∷ m ∷ ms) w e = by (fields l) e (subst (LineJudged n (part_of (past heard)) (fields l)) e (line-judged n order (past heard) (fields l))).1
    where
      by : (fs : List (List ℕ)) → line_of n order (past heard) fs ≡ Ok (L.Row w) → first_word fs ≡ Row → ⊥
      by [] g q = let z : ◌≡◌ {A = ℕ} 0 1 = cc in omega arith
      by (v ∷ fs) g q = no-row-by heard (word_of v) fs w g q

  -- a line of another word is no block
  other_word : (came : Came) (w : List ℕ) (fs : List (List ℕ)) (word : Word) → word_of w ≡ word → is_other word ≡ 1 → line_by n order came word fs ≡ Ok L.Block → ⊥
  other_word came w fs word e o g =
      let f : line_of n order came (w ∷ fs) ≡ Ok L.Block = rw e g in
      by (subst (LineJudged n (part_of came) (w ∷ fs)) f (line-judged n order came (w ∷ fs))).1
    where
      by : Received (word_of w) → ⊥
      by (inl b) = let z : is_other word ≡ 0 = ap is_other (sym e ∙ b) in omega arith
      by (inr b) = let z : is_other word ≡ 0 = ap is_other (sym e ∙ b) in omega arith

  -- by the word, which decides where nothing has come
  by_word : (came : Came) (heard : Bool) (w : List ℕ) (fs : List (List ℕ)) (vs : List ℤ) (word : Word) → word_of w ≡ word → Sought came heard (w ∷ fs)
      → Alike heard word vs (samples_found (block_by heard word fs) vs) (line_by n order came word fs)
  by_word came heard w fs vs Cover e k = other_word came w fs Cover e refl
  by_word came heard w fs vs Mask e k = other_word came w fs Mask e refl
  by_word came heard w fs vs Row e k = other_word came w fs Row e refl
  by_word Nothing false w fs vs Block e k = samples-alike false vs (samples_of 2 0 fs)
  by_word Nothing true w fs vs Block e k = absurd (not-both (rw e at (sym k)) refl)
  by_word Blocks false w fs vs Block e k = samples-alike false vs (samples_of 2 0 fs)
  by_word Blocks true w fs vs Block e k = absurd (not-both refl k)
  by_word Heards false w fs vs Block e k = absurd (not-both refl (sym k))
  by_word Heards true w fs vs Block e k = never-block F.Turn
  by_word Nothing false w fs vs Heard e k = absurd (not-both refl (rw e at (sym k)))
  by_word Nothing true w fs vs Heard e k = heard-alike vs fs
  by_word Blocks false w fs vs Heard e k = never-block F.Turn
  by_word Blocks true w fs vs Heard e k = absurd (not-both refl k)
  by_word Heards false w fs vs Heard e k = absurd (not-both refl (sym k))
  by_word Heards true w fs vs Heard e k = heard-alike vs fs
  by_word came heard w fs vs End e k = other_word came w fs End e refl
  by_word came heard w fs vs Other e k = other_word came w fs Other e refl

  -- by its word
  pub alike : (came : Came) (heard : Bool) (fs : List (List ℕ)) (vs : List ℤ) → Sought came heard fs
      → Alike heard (first_word fs) vs (samples_found (block_line heard fs) vs) (line_of n order came fs)
  alike came heard [] vs k = never-block F.Turn
  alike came heard (w ∷ fs) vs k = by_word came heard w fs vs (word_of w) refl k
