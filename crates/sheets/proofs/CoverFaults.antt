-- The fault of the cover and of the mask: it is the first of all that is wrong with the line, and where there is none nothing is.
use Rattle.std.proofs.Common.{Option, Some, None, Result, Ok, Err}
use Rattle.plates.specs.declared.Kind.{Kind}
use Prim.Native.Nat.{ℕ}
use mathlib.Core.Bool.{true}
use mathlib.Core.List.{List, [], ◌∷◌}
use mathlib.Core.Path.{◌≡◌, refl, ap}
use native.Mathlib.Omega.{arith}
use Rattle.sheets.specs.declared.cover.Cover as D
use Rattle.sheets.specs.declared.line.Fault.{Fault}
use Rattle.sheets.specs.Words.{word_of}
use Rattle.sheets.specs.Numbers.{is_number, number_of}
use Rattle.sheets.specs.Covers.{kind_of, order_of, cover_is, cover_fields, cover_rest, cover_by, cover_of}
use Rattle.sheets.specs.Lines.{field_of, row_rest}
use Rattle.sheets.specs.Lines as lines
use Rattle.sheets.specs.Masks.{mask_is, mask_by, mask_of}
use Rattle.sheets.specs.Faults.{on_cover, on_mask, is_kind, is_order, first_word}
use Rattle.sheets.specs.declared.Order.{Order}
use Rattle.sheets.specs.declared.word.Word.{Word}
use Rattle.sheets.specs.declared.word.Word.TheVariants.{Cover, Mask, Row, Block, Heard, End, Other}
use Rattle.sheets.proofs.LineFaults.{BitsJudged, GoodBefore, Right, Told, all_right, few-told, form-told, good-on, many-told, none_before, turn-told}
use Rattle.sheets.proofs.LineFaults.{bits-judged}

-- ---- the cover

-- what a cover that was read says of all that may be wrong with it, and its word
abbrev pub CoverJudged : ℕ → List (List ℕ) → Result D.Cover Fault → Type 0
CoverJudged n fs (Ok cover) = Right n on_cover fs × (first_word fs ≡ Cover)
CoverJudged n fs (Err fault) = Told n on_cover fs (lines.number_of fault) (field_of fault)

module _ (n : ℕ) (w : List ℕ) (e : word_of w ≡ Cover) where
  -- three fields after the word
  fields-judged : (f g h : List ℕ) → CoverJudged n (w ∷ f ∷ g ∷ h ∷ []) (cover_fields f g h)
  unfolding cover_fields
  fields-judged f g h = by (number_of 3 f) refl (kind_of g) refl (order_of h) refl
    where
      first : GoodBefore n Cover (w ∷ f ∷ g ∷ h ∷ []) 2
      first = good-on none_before refl

      by : (i : Option ℕ) → number_of 3 f ≡ i → (k : Option Kind) → kind_of g ≡ k → (o : Option Order) → order_of h ≡ o
          → CoverJudged n (w ∷ f ∷ g ∷ h ∷ []) (cover_is i k o)
      by None p k q o r = form-told n on_cover (w ∷ f ∷ g ∷ h ∷ []) Cover e refl refl 2 (omega arith) (omega arith) (ap is_number p) first
      by (Some i) p None q o r =
          form-told n on_cover (w ∷ f ∷ g ∷ h ∷ []) Cover e refl refl 3 (omega arith) (omega arith) (ap is_kind q) (good-on first (ap is_number p))
      by (Some i) p (Some k) q None r =
          form-told n on_cover (w ∷ f ∷ g ∷ h ∷ []) Cover e refl refl 4 (omega arith) (omega arith) (ap is_order r)
          (good-on (good-on first (ap is_number p)) (ap is_kind q))
      by (Some i) p (Some k) q (Some o) r =
          (all_right n on_cover (w ∷ f ∷ g ∷ h ∷ []) Cover e refl refl (good-on (good-on (good-on first (ap is_number p)) (ap is_kind q)) (ap is_order r)), e)

  -- exactly three
  rest-judged : (fs : List (List ℕ)) → CoverJudged n (w ∷ fs) (cover_rest fs)
  rest-judged [] = few-told n on_cover (w ∷ []) Cover e refl (omega arith)
  rest-judged (f ∷ []) = few-told n on_cover (w ∷ f ∷ []) Cover e refl (omega arith)
  rest-judged (f ∷ g ∷ []) = few-told n on_cover (w ∷ f ∷ g ∷ []) Cover e refl (omega arith)
  rest-judged (f ∷ g ∷ h ∷ []) = fields-judged f g h
  rest-judged (f ∷ g ∷ h ∷ i ∷ fs) = many-told n on_cover (w ∷ f ∷ g ∷ h ∷ i ∷ fs) Cover e refl (omega arith)

-- the cover
pub cover-judged : (n : ℕ) (fs : List (List ℕ)) → CoverJudged n fs (cover_of fs)
cover-judged n [] = turn-told n on_cover [] Other refl refl
cover-judged n (w ∷ fs) = by (word_of w) refl
  where
    by : (word : Word) → word_of w ≡ word → CoverJudged n (w ∷ fs) (cover_by word fs)
    by Cover e = rest-judged n w e fs
    by Mask e = turn-told n on_cover (w ∷ fs) Mask e refl
    by Row e = turn-told n on_cover (w ∷ fs) Row e refl
    by Block e = turn-told n on_cover (w ∷ fs) Block e refl
    by Heard e = turn-told n on_cover (w ∷ fs) Heard e refl
    by End e = turn-told n on_cover (w ∷ fs) End e refl
    by Other e = turn-told n on_cover (w ∷ fs) Other e refl

-- ---- the mask

-- what the line after the cover says of all that may be wrong with it, where its word is mask
abbrev pub MaskJudged : ℕ → List (List ℕ) → Result (Option ℕ) Fault → Type 0
MaskJudged n fs (Ok (Some w)) = Right n on_mask fs × (first_word fs ≡ Mask)
MaskJudged n fs (Ok None) = first_word fs ≡ Mask → ⊥
MaskJudged n fs (Err fault) = Told n on_mask fs (lines.number_of fault) (field_of fault)

-- the field after mask is judged as a row's
field-judged : (n : ℕ) (fs : List (List ℕ)) (x : Result ℕ Fault) → BitsJudged n true fs x → MaskJudged n fs (mask_is x)
field-judged n fs (Ok w) h = h
field-judged n fs (Err fault) h = h

-- the line after the cover
pub mask-judged : (n : ℕ) (order : Order) (fs : List (List ℕ)) → MaskJudged n fs (mask_of n order fs)
mask-judged n order [] = λ e. (let z : ◌≡◌ {A = ℕ} 0 1 = cc in omega arith)
mask-judged n order (w ∷ fs) = by (word_of w) refl
  where
    by : (word : Word) → word_of w ≡ word → MaskJudged n (w ∷ fs) (mask_by n order word fs)
    by Cover e = λ q. (let z : ◌≡◌ {A = ℕ} 0 1 = cc in omega arith)
    by Mask e = field-judged n (w ∷ fs) (row_rest n order fs) (bits-judged n order w true e fs)
    by Row e = λ q. (let z : ◌≡◌ {A = ℕ} 0 1 = cc in omega arith)
    by Block e = λ q. (let z : ◌≡◌ {A = ℕ} 0 1 = cc in omega arith)
    by Heard e = λ q. (let z : ◌≡◌ {A = ℕ} 0 1 = cc in omega arith)
    by End e = λ q. (let z : ◌≡◌ {A = ℕ} 0 1 = cc in omega arith)
    by Other e = λ q. (let z : ◌≡◌ {A = ℕ} 0 1 = cc in omega arith)
