-- A2, what is wrong with a line: 10 is split into 17 to 20, and its place is line and field, both from 1. The faults of a line stand in
-- sheets/specs/Faults (`Wrong`, `Open`, `WrongAt`), each by itself and apart from the reader; which of several is told is `FirstFault`, and why an input
-- is refused `RefusedFor`. A sheet's refusals with their conditions in the paper's order: SheetRefusals.
use Rattle.std.proofs.Common.{Err}
use lib.ListN.{length}
use mathlib.Core.Bool.{false}
use mathlib.Core.List.{List, [], ◌∷◌}
use mathlib.Core.Logic.{inl, inr, ◌↔◌, ◌⊎◌}
use mathlib.Core.Path.{ap, refl, sym, ◌≡◌}
use native.Mathlib.Omega.{arith}
use Prim.Native.Nat.{◌<◌, ℕ, ◌≤◌}
use Rattle.plates.specs.Code.{InCode}
use Rattle.plates.specs.declared.Kind.{Kind}
use Rattle.plates.specs.declared.Prepared.{Prepared}
use Rattle.plates.specs.declared.Refusal.{Refusal}
use Rattle.plates.specs.declared.Refusal.TheVariants.{FieldCount, FieldValue, FirstField, RowField, SheetLine, TooWide}
use Rattle.plates.specs.Prepare.{Prepares, Wide, prepare_conditions}
use Rattle.plates.specs.Refusals.{Refuses, field, number, place}
use Rattle.sheets.proofs.SheetFaults.{no-fault, refused-for}
use Rattle.sheets.specs.declared.word.Word.{Word}
use Rattle.sheets.specs.declared.word.Word.TheVariants.{Block, Cover, End, Heard, Mask, Other, Row}
use Rattle.sheets.specs.Faults.{FirstFault, Open, Part, RefusedFor, WrongAt, Wrong, due, field_at, first_off, first_word, form_number, good_field, in_turn}
use Rattle.sheets.specs.Faults.{malformed, miscounted, on_blocks, on_cover, on_heard, on_mask, on_nothing, on_rows, out_of_turn}
use Rattle.sheets.specs.Sheet.{Contents, contents, reading, refused, says}
use Rattle.sheets.specs.Text.{lines}
use Rattle.trellises.specs.Dual.{TooWideAt}
use Rattle.demands.proofs.Demand1.{prepare-refuses-exactly}

-- ---- the place becomes line and field

pub line-and-field : (line at : ℕ)
    → ((number (FirstField line) ≡ 17) × (place (FirstField line) ≡ line) × (field (FirstField line) ≡ 1))
    × ((number (FieldCount line at) ≡ 18) × (place (FieldCount line at) ≡ line) × (field (FieldCount line at) ≡ at))
    × ((number (FieldValue line at) ≡ 19) × (place (FieldValue line at) ≡ line) × (field (FieldValue line at) ≡ at))
    × ((number (RowField line at) ≡ 20) × (place (RowField line at) ≡ line) × (field (RowField line at) ≡ at))
    × ((number (SheetLine line) ≡ 10) × (place (SheetLine line) ≡ line) × (field (SheetLine line) ≡ 0))
line-and-field line at = ((refl, refl, refl), (refl, refl, refl), (refl, refl, refl), (refl, refl, refl), (refl, refl, refl))

-- ---- 17 to 20, of an ended line by its fields

-- the form of a field is 19 or 20
form-is : (w : Word) → (form_number w ≡ 19) ⊎ (form_number w ≡ 20)
form-is Cover = inl refl
form-is Mask = inr refl
form-is Row = inr refl
form-is Block = inl refl
form-is Heard = inl refl
form-is End = inl refl
form-is Other = inl refl

form-not : (w : Word) (i : ℕ) → i < 19 → i ≡ form_number w → ⊥
form-not w i h e = go (form-is w)
  where
    go : (form_number w ≡ 19) ⊎ (form_number w ≡ 20) → ⊥
    go (inl x) = omega (arith, h, e, x)
    go (inr x) = omega (arith, h, e, x)

module _ (n : ℕ) (part : Part) (fs : List (List ℕ)) (at : ℕ) where
  -- 17: the first field is unknown or out of its turn
  pub seventeen-exactly : Wrong n part fs 17 at ↔ ((in_turn part (first_word fs) ≡ false) × (at ≡ 1))
  seventeen-exactly = (go, λ x. out_of_turn x.0 refl x.1)
    where
      go : Wrong n part fs 17 at → (in_turn part (first_word fs) ≡ false) × (at ≡ 1)
      go (out_of_turn h i e) = (h, e)
      go (miscounted h i e) = absurd (omega (arith, i))
      go (malformed a b h i) = absurd (form-not (first_word fs) 17 (omega arith) i)

  -- 18: the wrong number of fields, at the first missing or extra
  pub eighteen-exactly : Wrong n part fs 18 at
      ↔ ((length fs ≡ due (first_word fs) (length fs) → ⊥) × (at ≡ first_off (length fs) (due (first_word fs) (length fs))))
  eighteen-exactly = (go, λ x. miscounted x.0 refl x.1)
    where
      go : Wrong n part fs 18 at → (length fs ≡ due (first_word fs) (length fs) → ⊥) × (at ≡ first_off (length fs) (due (first_word fs) (length fs)))
      go (out_of_turn h i e) = absurd (omega (arith, i))
      go (miscounted h i e) = (h, e)
      go (malformed a b h i) = absurd (form-not (first_word fs) 18 (omega arith) i)

  -- 19: a bad number, letter or order; 20: a row, or mask, of wrong length or character. Which of both is by the line's word
  pub form-exactly : Wrong n part fs (form_number (first_word fs)) at ↔ ((1 ≤ at) × (at ≤ length fs) × (good_field n (first_word fs) at (field_at fs at) ≡ false))
  form-exactly = (go, λ x. malformed x.0 x.1 x.2 refl)
    where
      go : Wrong n part fs (form_number (first_word fs)) at → (1 ≤ at) × (at ≤ length fs) × (good_field n (first_word fs) at (field_at fs at) ≡ false)
      go (out_of_turn h i e) = absurd (form-not (first_word fs) 17 (omega arith) (sym i))
      go (miscounted h i e) = absurd (form-not (first_word fs) 18 (omega arith) (sym i))
      go (malformed a b h i) = (a, b, h)

-- an unknown word is in no part in its turn
pub unknown-is-seventeen : (part : Part) → in_turn part Other ≡ false
unknown-is-seventeen on_cover = refl
unknown-is-seventeen on_mask = refl
unknown-is-seventeen on_rows = refl
unknown-is-seventeen on_blocks = refl
unknown-is-seventeen on_heard = refl
unknown-is-seventeen on_nothing = refl

-- 10 stays, field 0, for a line that is missing or not ended
pub ten-is-open : (part : Part) (text : List ℕ) (i at : ℕ) → Open part text i at → (i ≡ 10) × (at ≡ 0)
ten-is-open on_cover text i at o = o
ten-is-open on_mask text i at o = o
ten-is-open on_rows text i at o = o
ten-is-open on_blocks text i at o = o
ten-is-open on_heard text i at o = o
ten-is-open on_nothing [] i at o = absurd o
ten-is-open on_nothing (x ∷ xs) i at o = o

-- a block keeps 6 for its sample count: no number of fields of a block line is wrong
pub block-keeps-six : (k : ℕ) → due Block k ≡ k
block-keeps-six k = refl

-- ---- which is told

-- an input is refused with its first fault, the lowest line first, then 10, 17 to 20, then the lowest field, in its place among the other refusals
pub told-first : (s : List ℕ) (q : Refusal) → reading s ≡ refused q → RefusedFor s (contents s).n q
told-first = refused-for

-- the lowest line, then the lowest number, then the lowest field
pub lowest-first : (n : ℕ) (part : Part) (ls : List (List ℕ)) (line i at : ℕ) → FirstFault n part ls line i at
    → (line' i' at' : ℕ) → WrongAt n part ls line' i' at' → (line < line') ⊎ ((line ≡ line') × ((i < i') ⊎ ((i ≡ i') × (at ≤ at'))))
lowest-first n part ls line i at f = f.first

-- a sheet that is read has no fault
pub read-has-none : (s : List ℕ) (c : Contents) → reading s ≡ says c → (line i at : ℕ) → WrongAt (contents s).n on_cover (lines s) line i at → ⊥
read-has-none = no-fault

-- ---- a too-wide plate names the first depth over 12

pub wide-names-depth : (n : ℕ) (kind : Kind) (rows : List ℕ) (mask : ℕ) (r : Prepared) → Prepares n kind rows mask r → (d : ℕ)
    → r.verdict ≡ Err (TooWide d) → TooWideAt (InCode kind n rows) n d
wide-names-depth n kind rows mask r p d e = go ((prepare-refuses-exactly n kind rows mask r p (TooWide d)).0 e)
  where
    told : Wide (InCode kind n rows) n (TooWide d) → TooWideAt (InCode kind n rows) n d
    told w = let i : d ≡ w.depth = ap place w.is in record {
      rows = w.rows;
      plate = w.plate;
      first = rw i (record { within = w.within; over = w.over; earlier = w.first });
    }

    go : Refuses (prepare_conditions n kind rows mask) (TooWide d) → TooWideAt (InCode kind n rows) n d
    go (inl a) = absurd (omega (arith, ap number a.1))
    go (inr (a, inl b)) = absurd (omega (arith, ap number b.1))
    go (inr (a, inr (b, inl c))) = absurd (omega (arith, ap number c.is))
    go (inr (a, inr (b, inr (c, inl m)))) = absurd (omega (arith, ap number m.1))
    go (inr (a, inr (b, inr (c, inr (m, inl w))))) = told w
    go (inr (a, inr (b, inr (c, inr (m, inr (w, none)))))) = absurd none

pub four-has-depth : (d : ℕ) → (number (TooWide d) ≡ 4) × (place (TooWide d) ≡ d)
four-has-depth d = (refl, refl)
