-- What is handed over of a text, by what writing it replied.
use Rattle.std.proofs.Common.{Result, Ok, Err}
use Rattle.std.specs.Prelude.{Option, Some}
use Rattle.programs.proofs.LinesPrinted.{one-more}
use lib.ListN.{drop, length, length-replicate, replicate, take}
use lib.Seq.{take-append_seam}
use mathlib.Core.List.{List, [], ◌∷◌}
use mathlib.Core.Logic.{inl, inr}
use mathlib.Core.Path.{◌≡◌, ap, refl, subst, sym, ◌∙◌}
use native.Mathlib.Omega.{arith}
use Prim.Native.Nat.{ℕ}
use Rattle.listings.specs.Lines.{refused_line}
use Rattle.listings.specs.Writing.{WritesAs, WritesLine, line_room}
use Rattle.outlines.proofs.Enough.{plate-sheet-length}
use Rattle.outlines.proofs.Replying.{opened-prepared}
use Rattle.outlines.specs.declared.opening.Which.TheVariants as O
use Rattle.outlines.specs.declared.opening.Which.TheVariants.{Own}
use Rattle.outlines.specs.Outline.{WritesBy, WritesPlateSheet}
use Rattle.outlines.specs.SheetText.{sheet_of}
use Rattle.plates.specs.declared.Refusal.{Refusal}
use Rattle.plates.specs.Refusals.{Refuses}
use Rattle.programs.specs.declared.endings.Ending.{Ending}
use Rattle.programs.specs.declared.endings.Ending.TheVariants.{Listed, Refused, Unwritten}
use Rattle.programs.specs.declared.writer.Sent.{Sent}
use Rattle.programs.specs.declared.writer.Text.{Text}
use Rattle.programs.specs.declared.writer.Text.TheVariants.{Dual, Sheet}
use Rattle.programs.specs.Printing.{Hands}
use Rattle.programs.specs.Verbs.{IsRefused, IsText, RefusedAs, RefusedEnding, Says, SaysAs, WritesText, which_of}

-- ---- the line of a refusal

-- its numbers by other names
pub refused-made : {n p f n' p' f' : ℕ} {room room' : List ℕ} {r : Result ℕ Refusal} → n ≡ n' → p ≡ p' → f ≡ f' → WritesLine (refused_line n p f) room r room'
    → WritesLine (refused_line n' p' f') room r room'
refused-made e g h w = rw (← e, ← g, ← h) w

-- a line that was written stands at the start of the room
pub line-there : {line room room' : List ℕ} {w : Result ℕ Refusal} {size : ℕ} → WritesLine line room w room' → w ≡ Ok size → take size room' ≡ line
line-there {line} {room} {room'} {w} {size} x e = by (subst (WritesAs (line_room line room ∷ []) line room room') e x.reply)
  where
    by : WritesAs (line_room line room ∷ []) line room room' (Ok size) → take size room' ≡ line
    by y = rw (y.1, y.2) (take-append_seam line (drop (length line) room))

-- one line was taken
pub one_line : {before after : Sent} {h : Option Sent} → before.lines ≡ 0 → Hands before h → h ≡ Some after → after.lines ≡ 1
one_line z h t = let o = one-more h t in omega (arith, o.is, z)

pub refusal-taken : {q : Refusal} {before after : Sent} {h : Option Sent} → before.lines ≡ 0 → Hands before h → h ≡ Some after → RefusedEnding q (Refused q after)
refusal-taken z h t = record { is = (refl, one_line z h t) }

pub refusal-untaken : {q : Refusal} → RefusedEnding q Unwritten
refusal-untaken = record { is = tt }

-- ---- a text

pub text-taken : {what : Text} {input text : List ℕ} {before after : Sent} {h : Option Sent} → IsText what input text → before.lines ≡ 0 → Hands before h
    → h ≡ Some after → Says what input (Listed after)
text-taken {text = text} x z h t = record { is = (one_line z h t, (text, x)) }

pub text-untaken : {what : Text} {input : List ℕ} → Says what input Unwritten
text-untaken = record { is = tt }

-- the call that the kind of text names
pub sheet-text : {what : Text} {input room room' : List ℕ} {w : Result ℕ Refusal} → what ≡ Sheet → WritesPlateSheet Own input room w room'
    → WritesText what input room w room'
sheet-text {input = input} {room} {room'} {w} e x =
    record { is = subst (λ (t : Text). WritesPlateSheet (which_of t) input room w room') (sym e) x }

pub dual-text : {what : Text} {input room room' : List ℕ} {w : Result ℕ Refusal} → what ≡ Dual → WritesPlateSheet O.Dual input room w room'
    → WritesText what input room w room'
dual-text {input = input} {room} {room'} {w} e x =
    record { is = subst (λ (t : Text). WritesPlateSheet (which_of t) input room w room') (sym e) x }

-- the room before writing
abbrev zeros : List ℕ
zeros = replicate 8192 0

module _ {what : Text} {input room' : List ℕ} {w : Result ℕ Refusal} (t : WritesText what input zeros w room') where
  -- it was written
  pub text-there : {size : ℕ} → w ≡ Ok size → IsText what input (take size room')
  text-there {size} e = by t.is.prepared.verdict refl t.is.is
    where
      by : (v : Result (Unit {0}) Refusal) → t.is.prepared.verdict ≡ v → WritesBy v (sheet_of t.is.prepared.plate) zeros w room' → IsText what input (take size room')
      by (Err q) f y = let g : ◌≡◌ {A = Result ℕ Refusal} (Err q) (Ok size) = sym y.0 ∙ e in let z : ◌≡◌ {A = ℕ} 0 1 = cc in absurd (omega arith)
      by (Ok _) f y = record { is = record { prepared = t.is.prepared; opened = t.is.opened; accepted = f; is = line-there y e } }

  -- the input was refused, since the room is enough
  refused-there : {q : Refusal} → w ≡ Err q → IsRefused what input q
  refused-there {q} e = by t.is.prepared.verdict refl t.is.is
    where
      short : t.is.prepared.verdict ≡ Ok tt → Refuses (line_room (sheet_of t.is.prepared.plate) zeros ∷ []) q → IsRefused what input q
      short f (inl h) =
          absurd (omega (
            arith,
            h.0,
            length-replicate {A = ℕ} 8192 0,
            plate-sheet-length t.is.prepared.plate (opened-prepared t.is.opened f),
          ))
      short f (inr h) = absurd h.1

      by : (v : Result (Unit {0}) Refusal) → t.is.prepared.verdict ≡ v → WritesBy v (sheet_of t.is.prepared.plate) zeros w room' → IsRefused what input q
      by (Err p) f y =
          let g : Err p ≡ Err q = sym y.0 ∙ e in
          let k : p ≡ q = cc in
          record { prepared = t.is.prepared; opened = t.is.opened; refused = f ∙ ap Err k }
      by (Ok _) f y =
          let text = sheet_of t.is.prepared.plate in
          short f (subst (WritesAs (line_room text zeros ∷ []) text zeros room') e y.reply).0

  pub refused-said : {q : Refusal} {r : Ending} → w ≡ Err q → RefusedEnding q r → Says what input r
  refused-said {q} {r} e z = record { is = by r z.is }
    where
      by : (r : Ending) → RefusedAs q r → SaysAs what input r
      by (Listed sent) y = absurd y
      by (Refused p sent) y = (y.1, subst (IsRefused what input) (sym y.0) (refused-there e))
      by Unwritten y = tt
