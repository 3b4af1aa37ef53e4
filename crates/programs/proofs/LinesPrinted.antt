-- Lines handed over in turn.
use Rattle.std.proofs.Common.{Ok, Result}
use lib.IntN.{ℤ}
use lib.ListN.{drop, get_or, length, length-append, take}
use lib.Seq.{ext_get_or, get_or-append_seam, length-take-le, split_at}
use mathlib.Core.List.{List, [], ◌∷◌, ◌++◌, append_assoc}
use mathlib.Core.Path.{◌≡◌, ap, refl, subst, sym, ◌∙◌}
use native.Mathlib.Omega.{arith}
use Prim.Native.Nat.{◌+◌, ◌-◌, ◌<◌, ◌^◌, suc, ℕ}
use Rattle.plates.specs.declared.Refusal.{Refusal}
use Rattle.programs.specs.declared.listing.Turn.{Turn}
use Rattle.programs.specs.declared.listing.Turn.TheVariants.{Line, Whole}
use Rattle.programs.specs.declared.writer.Sent.{Sent}
use Rattle.programs.specs.Printing.{AllLines, Before, Given, Hands, InPlace, IsLine, OneMore, Prints, PrintsAs}
use Rattle.reports.proofs.LinesInTurn.{lines-in-turn, turns-before, turns-determined}
use Rattle.reports.specs.declared.Report.{Report}
use Rattle.reports.specs.declared.Step.{Step}
use Rattle.reports.specs.Report.{Reports}
use Rattle.reports.specs.Steps.{Lent, Opens, Steps, lends}
use Rattle.reports.specs.Turns.{Enough, Turns}
use Rattle.std.specs.Prelude.{IfSome, None, Option, Some}

-- one line more at the end
snoc : (input : List ℕ) (lines : List (List ℕ)) (line : List ℕ) (first now last : Report) → Turns input first lines now → Turns input now (line ∷ []) last
    → Turns input first (lines ++ line ∷ []) last
snoc input [] line first now last t u = subst (λ (z : Report). Turns input z (line ∷ []) last) t u
snoc input (l ∷ lines) line first now last t u = record {
  lent = t.lent;
  enough = t.enough;
  step = t.step;
  left = t.left;
  steps = t.steps;
  size = t.size;
  outcome = t.outcome;
  bytes = t.bytes;
  next = snoc input lines line t.step.next now last t.next u;
}

-- ---- one list of lines

-- the line that an input gives after so many others is one line only, whatever the rooms
pub one_line : (input : List ℕ) (count : ℕ) (a b : List ℕ) → IsLine input count a → IsLine input count b → a ≡ b
one_line input count a b x y =
    let n : length x.lines ≡ length y.lines = x.counted ∙ sym y.counted in
    let m : length (x.lines ++ a ∷ []) ≡ length (y.lines ++ b ∷ []) =
    omega (arith, n, length-append x.lines (a ∷ []), length-append y.lines (b ∷ [])) in
    let e = turns-determined input x.given.first y.given.first x.given.opens y.given.opens (x.lines ++ a ∷ []) (y.lines ++ b ∷ []) x.next
    y.next m
    x.given.turns y.given.turns in
    sym (get_or-append_seam x.lines a [] [])
    ∙ ap (λ (ls : List (List ℕ)). get_or ls (length x.lines) []) e
    ∙ ap (λ (j : ℕ). get_or (y.lines ++ b ∷ []) j []) n
    ∙ get_or-append_seam y.lines b [] []

-- lines that were given in turn stand each in its place
given-in-place : (input : List ℕ) (lines : List (List ℕ)) (report : Report) → Given input lines report → InPlace input lines
given-in-place input lines report g = record { each = at }
  where
    at : (j : ℕ) → j < length lines → IsLine input j (get_or lines j [])
    at j h =
        let split : take j lines ++ get_or lines j [] ∷ drop (suc j) lines ≡ (take j lines ++ get_or lines j [] ∷ []) ++ drop (suc j) lines =
        sym (append_assoc (take j lines) (get_or lines j [] ∷ []) (drop (suc j) lines)) in
        let t = subst (λ (ls : List (List ℕ)). Turns input g.first ls report) (split_at lines j [] h ∙ split) g.turns in
        let r = turns-before input g.first (take j lines ++ get_or lines j [] ∷ []) (drop (suc j) lines) report t in
        record {
          lines = take j lines;
          counted = length-take-le j lines (omega (arith, h));
          next = r.0;
          given = record { first = g.first; opens = g.opens; turns = r.1 };
        }

-- and two lists of as many lines in their places are one
pub in-place-same : (input : List ℕ) (a b : List (List ℕ)) → length a ≡ length b → InPlace input a → InPlace input b → a ≡ b
in-place-same input a b n x y = ext_get_or [] a b n (λ j h. one_line input j (get_or a j []) (get_or b j []) (x.each j h) (y.each j (omega (arith, h, n))))

all_lines : (input : List ℕ) (lines : List (List ℕ)) (report : Report) → Given input lines report → {count : ℕ} → length lines ≡ count → Reports input lines
    → AllLines input input count
all_lines input lines report g n r = record {
  lines = lines;
  counted = n;
  reports = r;
  in_place = given-in-place input lines report g;
  only = λ handed m x. in-place-same input handed lines (m ∙ sym n) x (given-in-place input lines report g);
}

-- ---- one call of `next_line`

module _ {report : Report} {input : List ℕ} {lent left : Lent} {step : Step} {count : ℕ} (rooms : Enough lent) (b : Before input count report)
    (s : Steps report input lent step left) where
  given-more : {size : ℕ} → step.outcome ≡ Ok (Some size) → Given input (b.lines ++ take size left.room ∷ []) step.next
  given-more {size} e = record {
    first = b.given.first;
    opens = b.given.opens;
    turns = snoc input b.lines (take size left.room) b.given.first report step.next b.given.turns (record {
      lent = lent;
      enough = rooms;
      step = step;
      left = left;
      steps = s;
      size = size;
      outcome = e;
      bytes = refl;
      next = refl;
    });
  }

  -- the line that it gave is the next
  pub is-line : {size : ℕ} → step.outcome ≡ Ok (Some size) → IsLine input count (take size left.room)
  is-line e = record { lines = b.lines; counted = b.counted; next = step.next; given = given-more e }

  -- and its report stands after one line more
  pub one-line-more : {size : ℕ} → step.outcome ≡ Ok (Some size) → Before input (count + 1) step.next
  one-line-more {size} e = record {
    lines = b.lines ++ take size left.room ∷ [];
    counted = omega (arith, length-append b.lines (take size left.room ∷ []), b.counted);
    given = given-more e;
  }

  -- where nothing was left, all were handed over
  pub none_left : (sent : Sent) → sent.lines ≡ count → step.outcome ≡ Ok None
      → Prints input sent (Some Whole)
  none_left sent k e = record {
    is = all_lines input b.lines report b.given (b.counted ∙ sym k)
        (lines-in-turn input b.given.first b.given.opens b.lines report b.given.turns lent left step rooms s e);
  }

-- what a step came to, by what its reply holds
pub outcome-of : {r : Result (Option ℕ) Refusal} {a b : Option ℕ} → r ≡ Ok a → a ≡ b → r ≡ Ok b
outcome-of e f = e ∙ ap (λ (x : Option ℕ). Ok x) f

-- a turn that ends without its line says nothing
pub cut_short : {input : List ℕ} {sent : Sent} → Prints input sent None
cut_short = record { is = tt }

-- ---- the writer

pub one-more : {sent after : Sent} {r : Option Sent} → Hands sent r → r ≡ Some after → OneMore sent after
one-more {sent} h e = subst (λ (o : Option Sent). IfSome o (OneMore sent)) e h.one_more

-- a line that was handed over
pub handed-over : {input : List ℕ} {sent after : Sent} {r : Option Sent} {next : Report} → Before input (sent.lines + 1) next → Hands sent r → r ≡ Some after
    → Prints input sent (Some (Line after next))
handed-over {input} {next = next} b h e =
    let o = one-more h e in
    record { is = (o, subst (λ (k : ℕ). Before input k next) (sym o.is) b) }
