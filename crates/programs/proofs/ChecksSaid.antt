-- What is handed over of a text of parity checks, by what writing it replied.
use Rattle.std.proofs.Common.{Result, Ok, Err}
use Rattle.std.specs.Prelude.{Option, Some}
use lib.ListN.{length, length-replicate, replicate, take}
use mathlib.Core.List.{List}
use mathlib.Core.Path.{◌≡◌, subst, sym}
use native.Mathlib.Omega.{arith}
use Prim.Native.Nat.{ℕ}
use Rattle.outlines.proofs.AlistsInRoom.{alist-lacks, alist-prints, from-alist-lacks, from-alist-prints}
use Rattle.outlines.specs.AlistText.{WritesAlistOf, WritesFromAlist}
use Rattle.plates.specs.declared.Refusal.{Refusal}
use Rattle.programs.proofs.TextsSaid.{one_line}
use Rattle.programs.specs.Checks.{IsChecks, IsChecksAs, LacksChecks, LacksChecksAs, SaysChecks, SaysChecksAs, WritesChecks, WritesChecksAs}
use Rattle.programs.specs.declared.endings.Ending.{Ending}
use Rattle.programs.specs.declared.endings.Ending.TheVariants.{Listed, Refused, Unwritten}
use Rattle.programs.specs.declared.writer.Checks.{Checks}
use Rattle.programs.specs.declared.writer.Checks.TheVariants.{Alist, FromAlist}
use Rattle.programs.specs.declared.writer.Sent.{Sent}
use Rattle.programs.specs.Printing.{Hands}
use Rattle.programs.specs.Verbs.{RefusedAs, RefusedEnding}

pub checks-taken : {what : Checks} {input text : List ℕ} {before after : Sent} {h : Option Sent} → IsChecks what input text → before.lines ≡ 0 → Hands before h
    → h ≡ Some after → SaysChecks what input (Listed after)
checks-taken {text = text} x z h t = record { is = (one_line z h t, (text, x)) }

pub checks-untaken : {what : Checks} {input : List ℕ} → SaysChecks what input Unwritten
checks-untaken = record { is = tt }

-- the call that the kind of text names: its promise is that of the text
module _ {what : Checks} {input room room' : List ℕ} {w : Result ℕ Refusal} where
  named : (kind : Checks) → what ≡ kind → WritesChecksAs kind input room w room' → WritesChecks what input room w room'
  named kind e x = record { is = subst (λ (t : Checks). WritesChecksAs t input room w room') (sym e) x }

  pub alist-text : what ≡ Alist → WritesAlistOf input room w room' → WritesChecks what input room w room'
  alist-text e x = named Alist e x

  pub from-alist-text : what ≡ FromAlist → WritesFromAlist input room w room' → WritesChecks what input room w room'
  from-alist-text e x = named FromAlist e x

-- the room before writing
abbrev zeros : List ℕ
zeros = replicate 32768 0

long : length zeros ≡ 32768
long = length-replicate {A = ℕ} 32768 0

module _ {what : Checks} {input room' : List ℕ} {w : Result ℕ Refusal} (t : WritesChecks what input zeros w room') where
  -- it was written
  pub checks-there : {size : ℕ} → w ≡ Ok size → IsChecks what input (take size room')
  checks-there {size} e = record { is = by what t.is }
    where
      by : (kind : Checks) → WritesChecksAs kind input zeros w room' → IsChecksAs kind input (take size room')
      by Alist x = alist-prints (subst (λ (r : Result ℕ Refusal). WritesAlistOf input zeros r room') e x)
      by FromAlist x = from-alist-prints (subst (λ (r : Result ℕ Refusal). WritesFromAlist input zeros r room') e x)

  -- the input was refused, since the room is enough
  checks-lacking : {q : Refusal} → w ≡ Err q → LacksChecks what input q
  checks-lacking {q} e = record { is = by what t.is }
    where
      by : (kind : Checks) → WritesChecksAs kind input zeros w room' → LacksChecksAs kind input q
      by Alist x = alist-lacks (omega (arith, long)) (subst (λ (r : Result ℕ Refusal). WritesAlistOf input zeros r room') e x)
      by FromAlist x = from-alist-lacks (omega (arith, long)) (subst (λ (r : Result ℕ Refusal). WritesFromAlist input zeros r room') e x)

  pub checks-refused : {q : Refusal} {r : Ending} → w ≡ Err q → RefusedEnding q r → SaysChecks what input r
  checks-refused {q} {r} e z = record { is = by r z.is }
    where
      by : (r : Ending) → RefusedAs q r → SaysChecksAs what input r
      by (Listed sent) y = absurd y
      by (Refused p sent) y = (y.1, subst (LacksChecks what input) (sym y.0) (checks-lacking e))
      by Unwritten y = tt
