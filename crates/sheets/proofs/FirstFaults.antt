-- The refusal of a bad line is the first fault of the sheet's lines: the lowest line, then the lowest number, then the lowest field.
use Rattle.plates.specs.declared.Refusal.{Refusal}
use Rattle.std.proofs.Common.{Result, Ok, Err}
use Prim.Native.Nat.{ℕ, zero, suc, ◌+◌}
use lib.ListN.{length, drop}
use mathlib.Core.Bool.{Bool, true, false}
use mathlib.Core.List.{List, [], ◌∷◌}
use mathlib.Core.Logic.{inl, inr}
use mathlib.Core.Path.{◌≡◌, refl, sym, ◌∙◌, ap, subst}
use native.Mathlib.Omega.{arith}
use Rattle.plates.specs.Refusals.{field, number, place}
use Rattle.sheets.specs.Text.{fields}
use Rattle.sheets.specs.Blocks.{BlockFound, block, no_block, samples_found, block_line, listed_in, block_then, blocks_of, heard_front}
use Rattle.sheets.specs.Lines.{field_of, number_of, line_of, front, row_then, rows_of, after_end, came_after, end_by, ending_of}
use Rattle.sheets.specs.Sheet.{refusal_of, line_verdict}
use Rattle.sheets.specs.Faults.{BeforeAt, Part, on_rows, on_nothing, after, first_word, WrongHere, WrongAt, FirstFault}
use Rattle.sheets.specs.declared.Order.{Order}
use Rattle.sheets.specs.declared.line.Came.{Came}
use Rattle.sheets.specs.declared.line.Came.TheVariants.{Nothing, Blocks, Heards}
use Rattle.sheets.specs.declared.line.Fault.{Fault}
use Rattle.sheets.specs.declared.line.Fault.TheVariants as F
use Rattle.sheets.specs.declared.line.Line.{Line}
use Rattle.sheets.specs.declared.line.Line.TheVariants as L
use Rattle.sheets.specs.declared.body.Ending.{Ending}
use Rattle.sheets.proofs.LineFaults.{LineJudged, Right, Told, line-judged, part_of, turn-told}
use Rattle.sheets.proofs.BlocksAlike.{Alike, Sought, alike, never-block, no_row, part-past, past, past-sought}
use Rattle.sheets.proofs.Replies.{number-of-line}

module _ (n : ℕ) where
  -- what a verdict says of some lines, of which the first is line `line` of the sheet
  abbrev pub LinesJudged : Part → List (List ℕ) → ℕ → Result (Unit {0}) Refusal → Type 0
  LinesJudged part ls line (Ok _) = (k m b : ℕ) → WrongAt n part ls k m b → ⊥
  LinesJudged part ls line (Err q) = (k : ℕ) × (place q ≡ line + k) × FirstFault n part ls (suc k) (number q) (field q)

  -- ---- the first of the lines is bad

  -- by its first fault
  pub first-here : (part : Part) (l m : List ℕ) (ms : List (List ℕ)) (line : ℕ) (fault : Fault)
      → Told n part (fields l) (number_of fault) (field_of fault) → LinesJudged part (l ∷ m ∷ ms) line (Err (refusal_of line fault))
  first-here part l m ms line fault t =
      let e = number-of-line line fault in
      (0, omega (arith, e.1), rw (e.0, e.2) (record { is = t.is; first = go }))
    where
      go : (k i b : ℕ) → WrongAt n part (l ∷ m ∷ ms) k i b → BeforeAt 1 (number_of fault) (field_of fault) k i b
      go zero i b w = absurd w
      go (suc zero) i b w = inr (refl, t.first i b w)
      go (suc (suc k)) i b w = inl (omega arith)

  -- it is missing or not ended
  pub open-here : (part : Part) (ls : List (List ℕ)) (line : ℕ) → WrongHere n part ls 10 0 → ((m b : ℕ) → WrongHere n part ls m b → (m ≡ 10) × (b ≡ 0))
      → LinesJudged part ls line (Err (refusal_of line F.Missing))
  open-here part ls line h only = (0, omega arith, record { is = h; first = go })
    where
      go : (k i b : ℕ) → WrongAt n part ls k i b → BeforeAt 1 10 0 k i b
      go zero i b w = absurd w
      go (suc zero) i b w = inr (refl, inr (sym (only i b w).0, omega arith))
      go (suc (suc k)) i b w = inl (omega arith)

  -- ---- the first of the lines is right

  -- the verdict on the lines after it is the verdict on all
  pub on : (part next : Part) (l m : List ℕ) (ms : List (List ℕ)) (line : ℕ) (v : Result (Unit {0}) Refusal) → Right n part (fields l) → after (first_word (fields l)) ≡ next
      → LinesJudged next (m ∷ ms) (line + 1) v → LinesJudged part (l ∷ m ∷ ms) line v
  on part next l m ms line (Ok _) right e h = go
    where
      go : (k i b : ℕ) → WrongAt n part (l ∷ m ∷ ms) k i b → ⊥
      go zero i b w = w
      go (suc zero) i b w = right i b w
      go (suc (suc k)) i b w = h (suc k) i b (subst (λ (p : Part). WrongAt n p (m ∷ ms) (suc k) i b) e w)
  on part next l m ms line (Err q) right e h =
      (suc h.0, omega (arith, h.1), record { is = subst (λ (p : Part). WrongAt n p (m ∷ ms) (suc h.0) (number q) (field q)) (sym e) h.2.is; first = go })
    where
      later : (k i b : ℕ) → BeforeAt (suc h.0) (number q) (field q) (suc k) i b → BeforeAt (suc (suc h.0)) (number q) (field q) (suc (suc k)) i b
      later k i b (inl x) = inl (omega arith)
      later k i b (inr x) = inr (omega (arith, x.0), x.1)

      go : (k i b : ℕ) → WrongAt n part (l ∷ m ∷ ms) k i b → BeforeAt (suc (suc h.0)) (number q) (field q) k i b
      go zero i b w = absurd w
      go (suc zero) i b w = absurd (right i b w)
      go (suc (suc k)) i b w = later k i b (h.2.first (suc k) i b (subst (λ (p : Part). WrongAt n p (m ∷ ms) (suc k) i b) e w))

  -- ---- after end

  -- nothing, or 10, or 17
  nothing-judged : (line : ℕ) (m : List ℕ) (ms : List (List ℕ)) → LinesJudged on_nothing (m ∷ ms) (line + 1) (line_verdict line (after_end (m ∷ ms)))
  nothing-judged line [] [] = go
    where
      go : (k i b : ℕ) → WrongAt n on_nothing ([] ∷ []) k i b → ⊥
      go zero i b w = w
      go (suc zero) i b w = w
      go (suc (suc zero)) i b w = w
      go (suc (suc (suc k))) i b w = w
  nothing-judged line (x ∷ xs) [] = open-here on_nothing ((x ∷ xs) ∷ []) (line + 1) (refl, refl) (λ m b w. w)
  nothing-judged line l (m ∷ ms) = first-here on_nothing l m ms (line + 1) F.Turn (turn-told n on_nothing (fields l) (first_word (fields l)) refl refl)

  -- ---- the line that is to be end

  module _ (order : Order) where
    -- a line that is missing or not ended, before end has come
    missing : (came : Came) (ls : List (List ℕ)) (line : ℕ) → ((m b : ℕ) → WrongHere n (part_of came) ls m b ≡ ((m ≡ 10) × (b ≡ 0)))
        → LinesJudged (part_of came) ls line (Err (refusal_of line F.Missing))
    missing came ls line e = open-here (part_of came) ls line (rw (e 10 0) (refl, refl)) (λ m b w. rw (e m b) at w)

    -- neither a row nor a block: end, or the first fault
    ending-judged : (came : Came) (ls : List (List ℕ)) (line : ℕ) → ((w : ℕ) → front n order came ls ≡ Ok (L.Row w) → ⊥) → (front n order came ls ≡ Ok L.Block → ⊥)
        → LinesJudged (part_of came) ls line (line_verdict line (ending_of n order came ls))
    ending-judged Nothing [] line r b = missing Nothing [] line (λ i j. refl)
    ending-judged Blocks [] line r b = missing Blocks [] line (λ i j. refl)
    ending-judged Heards [] line r b = missing Heards [] line (λ i j. refl)
    ending-judged Nothing (l ∷ []) line r b = missing Nothing (l ∷ []) line (λ i j. refl)
    ending-judged Blocks (l ∷ []) line r b = missing Blocks (l ∷ []) line (λ i j. refl)
    ending-judged Heards (l ∷ []) line r b = missing Heards (l ∷ []) line (λ i j. refl)
    ending-judged came (l ∷ m ∷ ms) line r b = by (line_of n order came (fields l)) refl (line-judged n order came (fields l))
      where
        by : (x : Result Line Fault) → line_of n order came (fields l) ≡ x → LineJudged n (part_of came) (fields l) x
            → LinesJudged (part_of came) (l ∷ m ∷ ms) line (line_verdict line (end_by x (m ∷ ms)))
        by (Ok (L.Row w)) e h = absurd (r w e)
        by (Ok L.Block) e h = absurd (b e)
        by (Ok L.End) e h = on (part_of came) on_nothing l m ms line (line_verdict line (after_end (m ∷ ms))) h.0 (ap after h.1) (nothing-judged line m ms)
        by (Err fault) e h = first-here (part_of came) l m ms line fault h

    -- ---- blocks and heard lines

    -- what has come after so many more
    abbrev came_then : Came → Bool → ℕ → Came
    came_then came heard zero = came
    came_then came heard (suc k) = past heard

    -- how the lines end after them
    abbrev blocks_end : Came → Bool → List (List ℕ) → Ending
    blocks_end came heard ls = ending_of n order (came_then came heard (length (blocks_of heard ls))) (drop (length (blocks_of heard ls)) ls)

    -- no more comes
    none-judged : (came : Came) (ls : List (List ℕ)) (line : ℕ) → ((w : ℕ) → front n order came ls ≡ Ok (L.Row w) → ⊥) → (front n order came ls ≡ Ok L.Block → ⊥)
        → LinesJudged (part_of came) ls line (line_verdict (0 + line) (ending_of n order came ls))
    none-judged came ls line r b = let z : 0 + line ≡ line = omega arith in rw z (ending-judged came ls line r b)

    -- the first of some lines is sought
    abbrev SoughtFirst : Came → Bool → List (List ℕ) → Type 0
    SoughtFirst came heard [] = Unit {0}
    SoughtFirst came heard (l ∷ ls) = Sought came heard (fields l)

    past_first : (heard : Bool) (ls : List (List ℕ)) → SoughtFirst (past heard) heard ls
    past_first heard [] = tt
    past_first heard (l ∷ ls) = past-sought heard (fields l)

    -- one more leaves what comes after it
    then-past : (heard : Bool) (k : ℕ) → came_then (past heard) heard k ≡ past heard
    then-past heard zero = refl
    then-past heard (suc k) = refl

    -- blocks, and the line after them
    blocks-judged : (came : Came) (heard : Bool) (ls : List (List ℕ)) (line : ℕ) → SoughtFirst came heard ls → ((w : ℕ) → front n order came ls ≡ Ok (L.Row w) → ⊥)
        → LinesJudged (part_of came) ls line (line_verdict (length (blocks_of heard ls) + line) (blocks_end came heard ls))
    blocks-judged came heard [] line k r = none-judged came [] line r (never-block F.Missing)
    blocks-judged came heard (l ∷ []) line k r = none-judged came (l ∷ []) line r (never-block F.Missing)
    blocks-judged came heard (l ∷ m ∷ ms) line k r =
        by (blocks-judged (past heard) heard (m ∷ ms) (line + 1) (past_first heard (m ∷ ms)) (no_row n order heard (m ∷ ms)))
        (samples_found (block_line heard (fields l)) (listed_in heard (fields l))) (alike n order came heard (fields l) (listed_in heard (fields l)) k)
      where
        by : LinesJudged (part_of (past heard)) (m ∷ ms) (line + 1) (line_verdict (length (blocks_of heard (m ∷ ms)) + (line + 1)) (blocks_end (past heard) heard (m ∷ ms)))
            → (found : BlockFound) → Alike heard (first_word (fields l)) (listed_in heard (fields l)) found (line_of n order came (fields l))
            → LinesJudged (part_of came) (l ∷ m ∷ ms) line
            (line_verdict (length (block_then found (blocks_of heard (m ∷ ms))) + line)
            (ending_of n order (came_then came heard (length (block_then found (blocks_of heard (m ∷ ms))))) (drop (length (block_then found (blocks_of heard (m ∷ ms)))) (l ∷ m ∷ ms))))
        by h (block us) a =
            let j : LineJudged n (part_of came) (fields l) (Ok L.Block) = subst (LineJudged n (part_of came) (fields l)) a.1 (line-judged n order came (fields l)) in
            let b = length (blocks_of heard (m ∷ ms)) in
            let e : suc b + line ≡ b + (line + 1) = omega arith in
            let g : LinesJudged (part_of (past heard)) (m ∷ ms) (line + 1) (line_verdict (b + (line + 1)) (ending_of n order (past heard) (drop b (m ∷ ms)))) =
            rw (then-past heard b) at h in
            rw e
            (on (part_of came) (part_of (past heard)) l m ms line (line_verdict (b + (line + 1)) (ending_of n order (past heard) (drop b (m ∷ ms)))) j.0
            (ap after a.2 ∙ part-past heard) g)
        by h no_block a = none-judged came (l ∷ m ∷ ms) line r a

    -- ---- rows

    first-sought : (ls : List (List ℕ)) → SoughtFirst Nothing (heard_front ls) ls
    first-sought [] = tt
    first-sought (l ∷ ls) = refl

    then-after : (heard : Bool) (k : ℕ) → came_then Nothing heard k ≡ came_after heard k
    then-after heard zero = refl
    then-after false (suc k) = refl
    then-after true (suc k) = refl

    -- how the lines end after the blocks or heard lines at their front
    abbrev front_end : List (List ℕ) → Ending
    front_end ls = ending_of n order (came_after (heard_front ls) (length (blocks_of (heard_front ls) ls))) (drop (length (blocks_of (heard_front ls) ls)) ls)

    -- no row comes
    no_rows : (ls : List (List ℕ)) (line : ℕ) → ((w : ℕ) → front n order Nothing ls ≡ Ok (L.Row w) → ⊥)
        → LinesJudged on_rows ls line (line_verdict (0 + (length (blocks_of (heard_front ls) ls) + line)) (front_end ls))
    no_rows ls line r =
        let t = heard_front ls in
        let b = length (blocks_of t ls) in
        let z : 0 + (b + line) ≡ b + line = omega arith in
        rw (z, ← (then-after t b)) (blocks-judged Nothing t ls line (first-sought ls) r)

    -- the lines after the cover
    pub rows-judged : (ls : List (List ℕ)) (line : ℕ) → let left = drop (length (rows_of n order ls)) ls in
        LinesJudged on_rows ls line (line_verdict (length (rows_of n order ls) + (length (blocks_of (heard_front left) left) + line)) (front_end left))
    rows-judged [] line = no_rows [] line (λ w e. (let z : ◌≡◌ {A = ℕ} 0 1 = cc in absurd (omega arith)))
    rows-judged (l ∷ []) line = no_rows (l ∷ []) line (λ w e. (let z : ◌≡◌ {A = ℕ} 0 1 = cc in absurd (omega arith)))
    rows-judged (l ∷ m ∷ ms) line = by (rows-judged (m ∷ ms) (line + 1)) (line_of n order Nothing (fields l)) refl (line-judged n order Nothing (fields l))
      where
        by : (let left = drop (length (rows_of n order (m ∷ ms))) (m ∷ ms) in
            LinesJudged on_rows (m ∷ ms) (line + 1) (line_verdict (length (rows_of n order (m ∷ ms)) + (length (blocks_of (heard_front left) left) + (line + 1))) (front_end left)))
            → (x : Result Line Fault) → line_of n order Nothing (fields l) ≡ x → LineJudged n on_rows (fields l) x
            → let left = drop (length (row_then x (rows_of n order (m ∷ ms)))) (l ∷ m ∷ ms) in
            LinesJudged on_rows (l ∷ m ∷ ms) line (line_verdict (length (row_then x (rows_of n order (m ∷ ms))) + (length (blocks_of (heard_front left) left) + line)) (front_end left))
        by h (Ok (L.Row w)) e j =
            let k = length (rows_of n order (m ∷ ms)) in
            let left = drop k (m ∷ ms) in
            let b = length (blocks_of (heard_front left) left) in
            let s : suc k + (b + line) ≡ k + (b + (line + 1)) = omega arith in
            rw s (on on_rows on_rows l m ms line (line_verdict (k + (b + (line + 1))) (front_end left)) j.0 (ap after j.1) h)
        by h (Ok L.Block) e j = no_rows (l ∷ m ∷ ms) line (λ w g. (let z : ◌≡◌ {A = ℕ} 0 1 = cc in absurd (omega arith)))
        by h (Ok L.End) e j = no_rows (l ∷ m ∷ ms) line (λ w g. (let z : ◌≡◌ {A = ℕ} 0 1 = cc in absurd (omega arith)))
        by h (Err f) e j = no_rows (l ∷ m ∷ ms) line (λ w g. (let z : ◌≡◌ {A = ℕ} 0 1 = cc in absurd (omega arith)))
