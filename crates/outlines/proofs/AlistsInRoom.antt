-- What the replies of `write_alist` and `write_from_alist` tell in a room that is long enough for every text: the text, or why there is none.
use Rattle.std.proofs.Common.{Result, Ok, Err}
use lib.ListN.{drop, length, take}
use lib.Seq.{take-append_seam}
use lib.Dec.{ltb}
use mathlib.Core.Bool.{Bool, cond, false, true}
use mathlib.Core.List.{List, [], ◌∷◌}
use mathlib.Core.Logic.{inl, inr, ◌⊎◌}
use mathlib.Core.Path.{◌≡◌, ap, refl, sym, ◌∙◌}
use native.Mathlib.Decide.{dec_lt}
use native.Mathlib.Omega.{arith}
use Prim.Native.Nat.{◌<◌, ℕ, ◌≤◌}
use Rattle.alists.proofs.OnlyAccepted.{only-accepted}
use Rattle.alists.specs.Accepted.{Sized}
use Rattle.alists.specs.Calls.{no_rows, write_conditions}
use Rattle.alists.specs.Reading as A
use Rattle.listings.specs.Writing.{Writes, line_room}
use Rattle.outlines.proofs.ChecksFit.{ChecksFit, checks-fit}
use Rattle.outlines.proofs.Enough.{alist-length}
use Rattle.outlines.proofs.Fitting.{sheet-length}
use Rattle.outlines.specs.AlistText.{Given, checks_in, checks_sheet, given, given_by, matrix_in, not_given}
use Rattle.outlines.specs.AlistText.{LacksAlist, LacksAlistAs, LacksChecksBy, PrintsAlist, PrintsFromAlist}
use Rattle.outlines.specs.AlistText.{WritesAlistAs, WritesAlistOf, WritesChecks, WritesChecksBy, WritesFromAlist, WritesGiven}
use Rattle.plates.specs.declared.Kind.TheVariants.{H}
use Rattle.plates.specs.declared.Refusal.{Refusal}
use Rattle.plates.specs.declared.Refusal.TheVariants as R
use Rattle.plates.specs.Refusals.{Passes, Refuses}
use Rattle.sheets.specs.Sheet.{Contents, Reading, reading, refused, says}

-- ---- replies

refused-same : {p q : Refusal} → ◌≡◌ {A = Result ℕ Refusal} (Err q) (Err p) → q ≡ p
refused-same e = cc

not-both : {A : Type 0} {q : Refusal} {size : ℕ} → ◌≡◌ {A = Result ℕ Refusal} (Ok size) (Err q) → A
not-both e = let z : ◌≡◌ {A = ℕ} 0 1 = cc in absurd (omega arith)

-- a text that was written stands at the start of the room
pub written-there : {cs : List (Refusal → Type 0)} {line room room' : List ℕ} {size : ℕ} → Writes cs line room (Ok size) room' → take size room' ≡ line
written-there {line = line} {room} x = rw (x.reply.1, x.reply.2) (take-append_seam line (drop (length line) room))

-- ---- write_alist

length-good : (n : ℕ) → 1 ≤ n → n ≤ 64 → (n ≡ 0) ⊎ (64 < n) → ⊥
length-good n h k (inl e) = omega (arith, h, e)
length-good n h k (inr o) = omega (arith, k, o)

-- checks that fit are refused for having no rows alone
only-without-rows : (n : ℕ) (checks room : List ℕ) (q : Refusal) → ChecksFit n checks → 32768 ≤ length room → Refuses (write_conditions n checks room) q
    → no_rows checks q
only-without-rows n checks room q f h (inl x) = absurd (length-good n f.least f.most x.0)
only-without-rows n checks room q f h (inr (a, inl x)) = absurd (omega (arith, x.0, f.few))
only-without-rows n checks room q f h (inr (a, inr (b, inl x))) = absurd (omega (arith, f.below x.row x.there, x.over))
only-without-rows n checks room q f h (inr (a, inr (b, inr (c, inl x)))) = x
only-without-rows n checks room q f h (inr (a, inr (b, inr (c, inr (d, inl x))))) =
    absurd (omega (arith, x.0, h, alist-length n checks f.most f.few))
only-without-rows n checks room q f h (inr (a, inr (b, inr (c, inr (d, inr x))))) = absurd x.1

pub alist-lacks : {input room room' : List ℕ} {q : Refusal} → 32768 ≤ length room → WritesAlistOf input room (Err q) room' → LacksAlist input q
alist-lacks {input} {room} {room'} {q} h x = record { is = by (reading input) refl x.is }
  where
    on : (c : Contents) → reading input ≡ says c → (y : WritesChecks c.n c.kind c.rows room (Err q) room') (v : Result (Unit {0}) Refusal)
        → y.dual.verdict ≡ v → WritesChecksBy v c.n (checks_in c y.dual) room (Err q) room' → LacksChecksBy v (checks_in c y.dual) q
    on c f y (Err p) g z = refused-same z.0
    on c f y (Ok _) g z =
        only-without-rows c.n (checks_in c y.dual) room q (checks-fit input c y.dual f y.prepares g) h z.reply.0

    by : (found : Reading) → reading input ≡ found → WritesAlistAs found room (Err q) room' → LacksAlistAs found q
    by (refused p) f y = refused-same y.0
    by (says c) f y = record { dual = y.dual; prepares = y.prepares; is = on c f y y.dual.verdict refl y.is }

-- what is written has rows
some-rows : (n : ℕ) (checks room : List ℕ) → Passes (write_conditions n checks room) → 1 ≤ length checks
some-rows n checks room p = go (dec_lt 0 (length checks))
  where
    go : Dec (0 < length checks) → 1 ≤ length checks
    go (yes h) = omega (arith, h)
    go (no h) = absurd (p.1.1.1.0 (R.AlistFault 0) (omega (arith, h), refl))

pub alist-prints : {input room room' : List ℕ} {size : ℕ} → WritesAlistOf input room (Ok size) room' → PrintsAlist input (take size room')
alist-prints {input} {room} {room'} {size} x = by (reading input) refl x.is
  where
    on : (c : Contents) → reading input ≡ says c → (y : WritesChecks c.n c.kind c.rows room (Ok size) room') (v : Result (Unit {0}) Refusal)
        → y.dual.verdict ≡ v → WritesChecksBy v c.n (checks_in c y.dual) room (Ok size) room' → PrintsAlist input (take size room')
    on c f y (Err p) g z = not-both z.0
    on c f y (Ok _) g z = record {
      sheet = c;
      reads = f;
      dual = y.dual;
      prepares = y.prepares;
      accepted = g;
      some = some-rows c.n (checks_in c y.dual) room z.reply.0;
      is = written-there z;
    }

    by : (found : Reading) → reading input ≡ found → WritesAlistAs found room (Ok size) room' → PrintsAlist input (take size room')
    by (refused p) f y = not-both y.0
    by (says c) f y = on c f y y.dual.verdict refl y.is

-- ---- write_from_alist

no-given : {A : Type 0} {n : ℕ} {rows : List ℕ} {q : Refusal} → not_given q ≡ given n rows → A
no-given e = let z : ◌≡◌ {A = ℕ} 0 1 = cc in absurd (omega arith)

-- a matrix that is given was read
given-read : (input : List ℕ) (n : ℕ) (rows : List ℕ) → matrix_in input ≡ given n rows → A.reading input ≡ A.matrix n rows
unfolding matrix_in
given-read input n rows = go (ltb 32768 (length input)) (A.reading input)
  where
    go : (long : Bool) (found : A.Reading) → cond long (not_given R.InputTooLong) (given_by found) ≡ given n rows → found ≡ A.matrix n rows
    go true found e = no-given e
    go false (A.matrix k words) e = cc
    go false (A.fault_in l) e = no-given e

given-sized : (input : List ℕ) (n : ℕ) (rows : List ℕ) → matrix_in input ≡ given n rows → Sized n rows
given-sized input n rows e = (only-accepted input n rows (given-read input n rows e)).sized

pub from-alist-lacks : {input room room' : List ℕ} {q : Refusal} → 8192 ≤ length room → WritesFromAlist input room (Err q) room'
    → matrix_in input ≡ not_given q
from-alist-lacks {input} {room} {room'} {q} h x = by (matrix_in input) refl x.is
  where
    short : (n : ℕ) (rows : List ℕ) → Sized n rows → Refuses (line_room (checks_sheet n rows) room ∷ []) q → ⊥
    short n rows z (inl y) = omega (arith, y.0, h, sheet-length H n 0 rows z.most z.few)
    short n rows z (inr y) = y.1

    by : (found : Given) → matrix_in input ≡ found → WritesGiven found room (Err q) room' → matrix_in input ≡ not_given q
    by (not_given p) f y = f ∙ ap not_given (sym (refused-same y.0))
    by (given n rows) f y = absurd (short n rows (given-sized input n rows f) y.reply.0)

pub from-alist-prints : {input room room' : List ℕ} {size : ℕ} → WritesFromAlist input room (Ok size) room' → PrintsFromAlist input (take size room')
from-alist-prints {input} {room} {room'} {size} x = by (matrix_in input) refl x.is
  where
    by : (found : Given) → matrix_in input ≡ found → WritesGiven found room (Ok size) room' → PrintsFromAlist input (take size room')
    by (not_given p) f y = not-both y.0
    by (given n rows) f y = record { n = n; rows = rows; reads = f; is = written-there y }
