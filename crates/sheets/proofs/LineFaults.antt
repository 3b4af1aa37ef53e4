-- The fault of one line after the cover and the mask: it is the first of all that is wrong with the line, and where there is none nothing is.
use Rattle.std.proofs.Common.{Some, None, Result, Ok, Err}
use Prim.Native.Nat.{ℕ, suc, ◌+◌, ◌<◌, ◌≤◌}
use borrow.Author.Tests.{le-ltb, lt-ltb, ne_eqb}
use lib.Dec.{eqb}
use lib.ListN.{length, get_or}
use mathlib.Core.Bool.{Bool, true, false, cond, ◌&&◌}
use mathlib.Core.List.{List, [], ◌∷◌}
use mathlib.Core.Logic.{inl, inr, ◌⊎◌}
use mathlib.Core.Path.{◌≡◌, refl, sym, ◌∙◌, ap}
use native.Mathlib.Decide.{dec_lt}
use native.Mathlib.Omega.{arith}
use Rattle.sheets.specs.declared.line.Fault.{Fault}
use Rattle.sheets.specs.Words.{word_of}
use Rattle.sheets.specs.Numbers.{counter_of, is_number, sample_of}
use Rattle.sheets.specs.Rows.{bits_only, word_from}
use Rattle.sheets.specs.Turning.{in_order}
use Rattle.sheets.specs.Blocks.{is_sample, samples_of}
use Rattle.sheets.specs.Lines.{field_of, row_is, row_rest, row_made, block_is, heard_fields, end_rest, line_by, line_of}
use Rattle.sheets.specs.Lines as lines
use Rattle.sheets.specs.Faults.{Part, on_mask, on_rows, on_blocks, on_heard, in_turn, due, first_off, good_field, form_number, field_at, first_word}
use Rattle.sheets.specs.Faults.{Wrong, out_of_turn, miscounted, malformed, Before}
use Rattle.sheets.specs.declared.Order.{Order}
use Rattle.sheets.specs.declared.word.Word.{Word}
use Rattle.sheets.specs.declared.word.Word.TheVariants.{Cover, Mask, Row, Block, Heard, End, Other}
use Rattle.sheets.specs.declared.line.Came.{Came}
use Rattle.sheets.specs.declared.line.Came.TheVariants.{Nothing, Blocks, Heards}
use Rattle.sheets.specs.declared.line.Line.{Line}
use Rattle.sheets.specs.declared.line.Line.TheVariants as L

-- no test has both answers
pub not-both : {b : Bool} → b ≡ true → b ≡ false → ⊥
not-both t f = let z : ◌≡◌ {A = ℕ} 1 0 = ap (λ (b : Bool). cond b 1 0) (sym t ∙ f) in omega arith

-- the first of all that is wrong with a line
pub record Told (n : ℕ) (part : Part) (fs : List (List ℕ)) (number at : ℕ) : Type 0 where
  pub is : Wrong n part fs number at
  pub first : (m b : ℕ) → Wrong n part fs m b → Before number at m b

-- nothing is wrong with it
abbrev pub Right : ℕ → Part → List (List ℕ) → Type 0
Right n part fs = (m b : ℕ) → Wrong n part fs m b → ⊥

-- the fields before this one are of their form
pub record GoodBefore (n : ℕ) (word : Word) (fs : List (List ℕ)) (at : ℕ) : Type 0 where
  pub good : (b : ℕ) → 1 ≤ b → b < at → good_field n word b (field_at fs b) ≡ true

module _ {n : ℕ} {word : Word} {fs : List (List ℕ)} where
  -- there is none before the first
  pub none_before : GoodBefore n word fs 1
  none_before = record { good = λ b l k. absurd (omega arith) }

  -- one field more
  pub good-on : {at : ℕ} → GoodBefore n word fs at → good_field n word at (field_at fs at) ≡ true → GoodBefore n word fs (suc at)
  good-on {at} before here = record { good = λ b l k. by b l k (dec_lt b at) }
    where
      by : (b : ℕ) → 1 ≤ b → b < suc at → Dec (b < at) → good_field n word b (field_at fs b) ≡ true
      by b l k (yes h) = before.good b l h
      by b l k (no h) = let e : b ≡ at = omega arith in rw e here

-- the number of a field that is not of its form
form-low : (word : Word) → 19 ≤ form_number word
form-low Cover = omega arith
form-low Mask = omega arith
form-low Row = omega arith
form-low Block = omega arith
form-low Heard = omega arith
form-low End = omega arith
form-low Other = omega arith

-- ---- in the order of the numbers

module _ (n : ℕ) (part : Part) (fs : List (List ℕ)) (word : Word) (e : first_word fs ≡ word) where
  -- 17: nothing comes before it
  pub turn-told : in_turn part word ≡ false → Told n part fs 17 1
  turn-told t = record { is = out_of_turn (rw e t) refl refl; first = go }
    where
      go : (m b : ℕ) → Wrong n part fs m b → Before 17 1 m b
      go m b (out_of_turn h i j) = inr (sym i, omega arith)
      go m b (miscounted h i j) = inl (omega arith)
      go m b (malformed x y h i) = inl (omega (arith, form-low (first_word fs)))

  module _ (t : in_turn part word ≡ true) where
    -- where the word is in its turn, 17 is not among the faults
    in-turn : in_turn part (first_word fs) ≡ false → ⊥
    in-turn = not-both (rw e t)

    -- 18: only 17 comes before it
    count-told : (at : ℕ) → (length fs ≡ due word (length fs) → ⊥) → at ≡ first_off (length fs) (due word (length fs)) → Told n part fs 18 at
    count-told at c d = record { is = miscounted (rw e c) refl (rw e d); first = go }
      where
        go : (m b : ℕ) → Wrong n part fs m b → Before 18 at m b
        go m b (out_of_turn h i j) = absurd (in-turn h)
        go m b (miscounted h i j) = let f : b ≡ first_off (length fs) (due word (length fs)) = rw e at j in inr (sym i, omega (arith, f ∙ sym d))
        go m b (malformed x y h i) = inl (omega (arith, form-low (first_word fs)))

    -- too few fields
    pub few-told : length fs < due word (length fs) → Told n part fs 18 (suc (length fs))
    few-told h = count-told (suc (length fs)) (λ c. omega arith) (rw (lt-ltb (length fs) (due word (length fs)) h))

    -- too many
    pub many-told : due word (length fs) < length fs → Told n part fs 18 (suc (due word (length fs)))
    many-told h = count-told (suc (due word (length fs))) (λ c. omega arith) (rw (le-ltb (length fs) (due word (length fs)) (omega arith)))

    module _ (d : length fs ≡ due word (length fs)) where
      -- where the number of fields is right, 18 is not among the faults
      counted : (length fs ≡ due (first_word fs) (length fs) → ⊥) → ⊥
      counted c = c (rw e d)

      -- the first field that is not of its form
      pub form-told : (at : ℕ) → 1 ≤ at → at ≤ length fs → good_field n word at (field_at fs at) ≡ false → GoodBefore n word fs at
          → Told n part fs (form_number word) at
      form-told at low high bad before = record { is = malformed low high (rw e bad) (rw e refl); first = go }
        where
          least : (b : ℕ) → 1 ≤ b → good_field n word b (field_at fs b) ≡ false → Dec (b < at) → at ≤ b
          least b l h (yes k) = absurd (not-both (before.good b l k) h)
          least b l h (no k) = omega arith

          go : (m b : ℕ) → Wrong n part fs m b → Before (form_number word) at m b
          go m b (out_of_turn h i j) = absurd (in-turn h)
          go m b (miscounted h i j) = absurd (counted h)
          go m b (malformed x y h i) = inr (sym (rw e at i), least b x (rw e at h) (dec_lt b at))

      -- nothing is wrong
      pub all_right : GoodBefore n word fs (suc (length fs)) → Right n part fs
      all_right before m b (out_of_turn h i j) = in-turn h
      all_right before m b (miscounted h i j) = counted h
      all_right before m b (malformed x y h i) = not-both (before.good b x (omega arith)) (rw e at h)

-- ---- a line after the cover

-- the part of the sheet by what has come
abbrev pub part_of : Came → Part
part_of Nothing = on_rows
part_of Blocks = on_blocks
part_of Heards = on_heard

-- a cover, a mask and another word are always out of their turn, and end is always in its turn
pub record Whatever (part : Part) : Type 0 where
  pub cover : in_turn part Cover ≡ false
  pub mask : in_turn part Mask ≡ false
  pub other : in_turn part Other ≡ false
  pub end : in_turn part End ≡ true

whatever-came : (came : Came) → Whatever (part_of came)
whatever-came Nothing = record { cover = refl; mask = refl; other = refl; end = refl }
whatever-came Blocks = record { cover = refl; mask = refl; other = refl; end = refl }
whatever-came Heards = record { cover = refl; mask = refl; other = refl; end = refl }

-- the word of a line that is a block or heard line
abbrev pub Received : Word → Type 0
Received word = (word ≡ Block) ⊎ (word ≡ Heard)

-- what a line that was read says of all that may be wrong with it, and its word
abbrev pub LineJudged : ℕ → Part → List (List ℕ) → Result Line Fault → Type 0
LineJudged n part fs (Ok (L.Row w)) = Right n part fs × (first_word fs ≡ Row)
LineJudged n part fs (Ok L.Block) = Right n part fs × Received (first_word fs)
LineJudged n part fs (Ok L.End) = Right n part fs × (first_word fs ≡ End)
LineJudged n part fs (Err fault) = Told n part fs (lines.number_of fault) (field_of fault)

-- the two words after which a row's field stands, and the parts of the sheet that begin with their lines
abbrev pub bits_word : Bool → Word
bits_word false = Row
bits_word true = Mask

abbrev pub bits_part : Bool → Part
bits_part false = on_rows
bits_part true = on_mask

-- what the field after such a word says of all that may be wrong with the line: it has a word or a fault
abbrev pub BitsJudged : ℕ → Bool → List (List ℕ) → Result ℕ Fault → Type 0
BitsJudged n mask fs (Ok w) = Right n (bits_part mask) fs × (first_word fs ≡ bits_word mask)
BitsJudged n mask fs (Err fault) = Told n (bits_part mask) fs (lines.number_of fault) (field_of fault)

-- a line in its turn, with the number of fields that it should have, and samples from field `lead` on
module _ (n : ℕ) (part : Part) (gs : List (List ℕ)) (word : Word) (e : first_word gs ≡ word) (t : in_turn part word ≡ true) (d : length gs ≡ due word (length gs))
    (v : form_number word ≡ 19) (received : Received (first_word gs)) (lead : ℕ) (low : 1 ≤ lead) where
  -- k samples and the fields before them being of their form
  samples-judged : (k : ℕ) (fs : List (List ℕ)) → suc (length gs) ≡ length fs + (k + lead)
      → ((i : ℕ) → good_field n word (i + (k + lead)) (field_at gs (i + (k + lead))) ≡ is_sample (sample_of (get_or fs i [])))
      → GoodBefore n word gs (k + lead) → LineJudged n part gs (block_is (samples_of lead k fs))
  samples-judged k [] s field before = let z : k + lead ≡ suc (length gs) = omega arith in (all_right n part gs word e t d (rw z at before), received)
  samples-judged k (f ∷ fs) s field before = by (λ g. samples-judged (k + 1) fs (omega arith) next (more g)) (is_sample (sample_of f)) refl
    where
      here : good_field n word (k + lead) (field_at gs (k + lead)) ≡ is_sample (sample_of f)
      here = let z : 0 + (k + lead) ≡ k + lead = omega arith in rw z at (field 0)

      next : (i : ℕ) → good_field n word (i + (k + 1 + lead)) (field_at gs (i + (k + 1 + lead))) ≡ is_sample (sample_of (get_or fs i []))
      next i = let z : suc i + (k + lead) ≡ i + (k + 1 + lead) = omega arith in rw z at (field (suc i))

      more : is_sample (sample_of f) ≡ true → GoodBefore n word gs (k + 1 + lead)
      more g = let z : suc (k + lead) ≡ k + 1 + lead = omega arith in rw z at (good-on before (here ∙ g))

      by : (is_sample (sample_of f) ≡ true → LineJudged n part gs (block_is (samples_of lead (k + 1) fs))) → (u : Bool) → is_sample (sample_of f) ≡ u
          → LineJudged n part gs (block_is (cond u (samples_of lead (k + 1) fs) (Err (k + lead))))
      by on true g = on g
      by on false g = rw (sym v) (form-told n part gs word e t d (k + lead) (omega arith) (omega arith) (here ∙ g) before)

module _ (n : ℕ) (order : Order) (w : List ℕ) where
  -- one field after row, or after mask
  pub bits-judged : (mask : Bool) → word_of w ≡ bits_word mask → (fs : List (List ℕ)) → BitsJudged n mask (w ∷ fs) (row_rest n order fs)
  bits-judged false e [] = few-told n on_rows (w ∷ []) Row e refl (omega arith)
  bits-judged true e [] = few-told n on_mask (w ∷ []) Mask e refl (omega arith)
  bits-judged false e (f ∷ g ∷ fs) = many-told n on_rows (w ∷ f ∷ g ∷ fs) Row e refl (omega arith)
  bits-judged true e (f ∷ g ∷ fs) = many-told n on_mask (w ∷ f ∷ g ∷ fs) Mask e refl (omega arith)
  bits-judged mask e (f ∷ []) = by mask e (eqb (length f) n && bits_only f) refl
    where
      by : (m : Bool) → word_of w ≡ bits_word m → (t : Bool) → (eqb (length f) n && bits_only f) ≡ t
          → BitsJudged n m (w ∷ f ∷ []) (row_is (cond t (Some (word_from (in_order order f))) None))
      by false q true h = (all_right n on_rows (w ∷ f ∷ []) Row q refl refl (good-on (good-on none_before refl) h), q)
      by true q true h = (all_right n on_mask (w ∷ f ∷ []) Mask q refl refl (good-on (good-on none_before refl) h), q)
      by false q false h = form-told n on_rows (w ∷ f ∷ []) Row q refl refl 2 (omega arith) (omega arith) h (good-on none_before refl)
      by true q false h = form-told n on_mask (w ∷ f ∷ []) Mask q refl refl 2 (omega arith) (omega arith) h (good-on none_before refl)

  row-judged : word_of w ≡ Row → (fs : List (List ℕ)) → LineJudged n on_rows (w ∷ fs) (row_made (row_rest n order fs))
  row-judged e fs = as_row (row_rest n order fs) (bits-judged false e fs)
    where
      as_row : (x : Result ℕ Fault) → BitsJudged n false (w ∷ fs) x → LineJudged n on_rows (w ∷ fs) (row_made x)
      as_row (Ok u) h = h
      as_row (Err fault) h = h

  -- any number of samples after block
  block-judged : (part : Part) → in_turn part Block ≡ true → word_of w ≡ Block → (fs : List (List ℕ)) → LineJudged n part (w ∷ fs) (block_is (samples_of 2 0 fs))
  block-judged part turn e fs =
      samples-judged n part (w ∷ fs) Block e turn refl refl (inl e) 2 (omega arith) 0 fs (omega arith) field (good-on none_before refl)
    where
      field : (i : ℕ) → good_field n Block (i + (0 + 2)) (field_at (w ∷ fs) (i + (0 + 2))) ≡ is_sample (sample_of (get_or fs i []))
      field i = let z : i + (0 + 2) ≡ suc (suc i) = omega arith in rw (z, ne_eqb (suc (suc i)) 1 (λ q. omega arith))

  -- a counter and any number of samples after heard
  heard-judged : (part : Part) → in_turn part Heard ≡ true → word_of w ≡ Heard → (fs : List (List ℕ)) → LineJudged n part (w ∷ fs) (heard_fields fs)
  heard-judged part turn e [] = few-told n part (w ∷ []) Heard e turn (omega arith)
  heard-judged part turn e (f ∷ fs) = by (is_number (counter_of f)) refl
    where
      counted : suc (suc (length fs)) ≡ due Heard (suc (suc (length fs)))
      counted = rw (le-ltb (suc (suc (length fs))) 2 (omega arith))

      field : (i : ℕ) → good_field n Heard (i + (0 + 3)) (field_at (w ∷ f ∷ fs) (i + (0 + 3))) ≡ is_sample (sample_of (get_or fs i []))
      field i =
          let z : i + (0 + 3) ≡ suc (suc (suc i)) = omega arith in
          rw (z, ne_eqb (suc (suc (suc i))) 1 (λ q. omega arith), ne_eqb (suc (suc (suc i))) 2 (λ q. omega arith))

      by : (t : Bool) → is_number (counter_of f) ≡ t → LineJudged n part (w ∷ f ∷ fs) (block_is (cond t (samples_of 3 0 fs) (Err 2)))
      by true g =
          samples-judged n part (w ∷ f ∷ fs) Heard e turn counted refl (inr e) 3 (omega arith) 0 fs (omega arith) field (good-on (good-on none_before refl) g)
      by false g = form-told n part (w ∷ f ∷ fs) Heard e turn counted 2 (omega arith) (omega arith) g (good-on none_before refl)

  -- nothing after end
  end-judged : (part : Part) → in_turn part End ≡ true → word_of w ≡ End → (fs : List (List ℕ)) → LineJudged n part (w ∷ fs) (end_rest fs)
  end-judged part turn e [] = (all_right n part (w ∷ []) End e turn refl (good-on none_before refl), e)
  end-judged part turn e (f ∷ fs) = many-told n part (w ∷ f ∷ fs) End e turn (omega arith)

  -- the word decides
  by_word : (came : Came) (word : Word) → word_of w ≡ word → (fs : List (List ℕ)) → LineJudged n (part_of came) (w ∷ fs) (line_by n order came word fs)
  by_word came Cover e fs = turn-told n (part_of came) (w ∷ fs) Cover e (whatever-came came).cover
  by_word came Mask e fs = turn-told n (part_of came) (w ∷ fs) Mask e (whatever-came came).mask
  by_word Nothing Row e fs = row-judged e fs
  by_word Blocks Row e fs = turn-told n on_blocks (w ∷ fs) Row e refl
  by_word Heards Row e fs = turn-told n on_heard (w ∷ fs) Row e refl
  by_word Nothing Block e fs = block-judged on_rows refl e fs
  by_word Blocks Block e fs = block-judged on_blocks refl e fs
  by_word Heards Block e fs = turn-told n on_heard (w ∷ fs) Block e refl
  by_word Nothing Heard e fs = heard-judged on_rows refl e fs
  by_word Blocks Heard e fs = turn-told n on_blocks (w ∷ fs) Heard e refl
  by_word Heards Heard e fs = heard-judged on_heard refl e fs
  by_word came End e fs = end-judged (part_of came) (whatever-came came).end e fs
  by_word came Other e fs = turn-told n (part_of came) (w ∷ fs) Other e (whatever-came came).other

-- each line after the cover
pub line-judged : (n : ℕ) (order : Order) (came : Came) (fs : List (List ℕ)) → LineJudged n (part_of came) fs (line_of n order came fs)
line-judged n order came [] = turn-told n (part_of came) [] Other refl (whatever-came came).other
line-judged n order came (w ∷ fs) = by_word n order w came (word_of w) refl fs
