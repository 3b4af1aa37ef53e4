-- The line after the cover as a mask, and the lines after it, by what was read of them.
use Rattle.sheets.specs.declared.Sheet.{Sheet}
use Rattle.std.proofs.Common.{Option, Some, None, Result, Ok, Err}
use Prim.Native.Nat.{ℕ, ◌+◌, ◌-◌, ◌≤◌}
use lib.ListN.{length, take, drop}
use lib.Seq.{length-take-le}
use mathlib.Core.List.{List}
use mathlib.Core.Path.{◌≡◌, refl, sym, ◌∙◌, ap}
use native.Mathlib.Omega.{arith}
use Rattle.plates.specs.declared.Refusal.{Refusal}
use Rattle.sheets.specs.Text.{tab, line_feed, fields, fields_from, lines_from}
use Rattle.sheets.specs.Words.{word_of}
use Rattle.sheets.specs.Masks.{mask_by, mask_of, mask_front}
use Rattle.sheets.specs.Sheet.{refusal_of}
use Rattle.sheets.specs.Readers.{BodyBy, BodyRead, Ended, LinesRead, Until}
use Rattle.sheets.specs.declared.Order.{Order}
use Rattle.sheets.specs.declared.word.Word.{Word}
use Rattle.sheets.specs.declared.word.Word.TheVariants as W
use Rattle.sheets.specs.declared.line.Fault.{Fault}
use Rattle.sheets.specs.declared.cover.Cover.{Cover}
use Rattle.sheets.proofs.Endings.{line-closed}
use Rattle.sheets.proofs.Parts.{after-some, from_last, from_more, parts-front}
use Rattle.sheets.proofs.Passing.{line-length, line-split}

-- another word makes no mask line
pub no-mask-word : (n : ℕ) (order : Order) (w : Word) (fs : List (List ℕ)) → (w ≡ W.Mask → ⊥)
    → Ok None ≡ mask_by n order w fs
no-mask-word n order W.Cover fs h = refl
no-mask-word n order W.Mask fs h = absurd (h refl)
no-mask-word n order W.Row fs h = refl
no-mask-word n order W.Block fs h = refl
no-mask-word n order W.Heard fs h = refl
no-mask-word n order W.End fs h = refl
no-mask-word n order W.Other fs h = refl

-- the first field, and those after it
module _ {line : List ℕ} {a : ℕ} (u : Until tab line 0 a) where
  pub word_fits : a ≡ length (take a line)
  word_fits = sym (length-take-le a line u.high)

  pub mask-by-word : (n : ℕ) (order : Order) {w : Word} {r : Result (Option ℕ) Fault} → w ≡ word_of (take a line) → r ≡ mask_by n order w (fields_from line (a + 1))
      → r ≡ mask_of n order (fields line)
  mask-by-word n order e g = rw (parts-front tab line a u, ← e) g

module _ {s : List ℕ} {at end : ℕ} (h : at ≤ length s) (u : Until line_feed s at end) (n : ℕ) (order : Order) where
  -- no line
  pub no_line : end ≡ length s → Ok None ≡ mask_front n order (lines_from s at)
  no_line e = rw (from_last line_feed s at end h u e)

  -- a line
  pub line-there : (end ≡ length s → ⊥) → {r : Result (Option ℕ) Fault} → r ≡ mask_of n order (fields (take (end - at) (drop at s))) → r ≡ mask_front n order (lines_from s at)
  line-there m g = rw (from_more line_feed s at end h u, after-some line_feed s end u.high m) g

  -- a mask is a line, and the next begins after it
  pub mask-ended : {found : Result (Option ℕ) Fault} {w : ℕ} → found ≡ mask_front n order (lines_from s at) → found ≡ Ok (Some w) → Ended s at (end + 1)
  mask-ended {found} {w} e g = line-closed s at end u (λ q. never (no_line q ∙ sym e ∙ g))
    where
      never : ◌≡◌ {A = Result (Option ℕ) Fault} (Ok None) (Ok (Some w)) → ⊥
      never z = let y : ◌≡◌ {A = ℕ} 0 1 = cc in omega arith

  pub next-inside : {found : Result (Option ℕ) Fault} {w : ℕ} → found ≡ mask_front n order (lines_from s at) → found ≡ Ok (Some w) → end + 1 ≤ length s
  next-inside e g = (mask-ended e g).high

-- ---- the lines after the cover

module _ {s : List ℕ} {from : ℕ} {cover : Cover} {found : Result (Option ℕ) Fault} (e : found ≡ mask_front cover.n cover.order (lines_from s from))
    {table : List ℕ} {r : Result Sheet Refusal} {table' : List ℕ} where
  by-found : BodyBy found from cover (lines_from s from) table r table' → BodyRead s from cover table r table'
  by-found b = record { by = rw (← e) b }

  -- a mask, and what follows it
  pub with-mask : {next w : ℕ} → Ended s from next → found ≡ Ok (Some w) → LinesRead next 3 cover w (lines_from s next) table r table'
      → BodyRead s from cover table r table'
  with-mask {next} d g b =
      let p : from + (length (take (next - 1 - from) (drop from s)) + 1 + 0) ≡ next = omega (arith, line-length d, d.low) in
      by-found (rw (g, line-split d, p) b)

  -- none
  pub without-mask : found ≡ Ok None → LinesRead from 2 cover 0 (lines_from s from) table r table' → BodyRead s from cover table r table'
  without-mask g b = by-found (rw g b)

-- a bad one
pub bad-mask : {s : List ℕ} {from : ℕ} {cover : Cover} {found : Result (Option ℕ) Fault} {fault : Fault} {q : Refusal} {table : List ℕ}
    → found ≡ mask_front cover.n cover.order (lines_from s from) → found ≡ Err fault → q ≡ refusal_of 2 fault
    → BodyRead s from cover table (Err q) table
bad-mask e g b = by-found e (rw g (ap Err b, refl))
