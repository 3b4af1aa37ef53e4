-- What is handed over by the verb same, by what `write_same` replied, and the exit status.
use Rattle.std.proofs.Common.{Result, Ok, Err}
use Rattle.std.specs.Prelude.{Option, Some}
use lib.IntN.{pos, ℤ}
use lib.ListN.{take}
use mathlib.Core.Bool.{Bool, false, true}
use mathlib.Core.List.{List}
use mathlib.Core.Logic.{inl, inr, ◌⊎◌}
use mathlib.Core.Path.{◌≡◌, ap, refl, subst, sym, ◌∙◌}
use mir.Syntax.{w32}
use mir.Val.{of_z, to_z}
use native.Mathlib.Omega.{arith}
use Prim.Native.Nat.{ℕ}
use Rattle.listings.specs.Writing.{WritesLine}
use Rattle.outlines.specs.Comparing.{ComparesPlate, FirstBy, PrintsTold, SecondBy, WritesSame, replied_as, told_line}
use Rattle.outlines.specs.declared.Compared.{Compared}
use Rattle.outlines.specs.declared.Compared.TheVariants as C
use Rattle.outlines.specs.declared.Uncompared.{Uncompared}
use Rattle.outlines.specs.declared.Uncompared.TheVariants as U
use Rattle.outlines.specs.declared.comparing.Told.{Told}
use Rattle.outlines.specs.declared.comparing.Told.TheVariants as T
use Rattle.plates.specs.declared.Refusal.{Refusal}
use Rattle.plates.specs.declared.Refusal.TheVariants as R
use Rattle.programs.specs.declared.comparing.Outcome.{Outcome}
use Rattle.programs.specs.declared.comparing.Outcome.TheVariants as O
use Rattle.programs.specs.declared.endings.Ending.{Ending}
use Rattle.programs.specs.declared.endings.Ending.TheVariants as E
use Rattle.programs.specs.declared.writer.Sent.{Sent}
use Rattle.outlines.specs.declared.opening.Which.TheVariants.{Own}
use Rattle.programs.specs.Ending.{IsStatus, status_of}
use Rattle.programs.specs.Printing.{Hands}
use Rattle.programs.specs.Same.{IsAccepted, IsTold, PlateRefused, SaysSame, is_same, outcome_status}
use Rattle.programs.specs.Verbs.{RefusedEnding}
use Rattle.programs.proofs.TextsSaid.{line-there, one_line}

-- ---- what the reply says of the line

abbrev Reply : Type 0
Reply = Result Compared Uncompared

-- a reply by what it holds
pub reply-of : {r : Reply} {c d : Compared} → r ≡ Ok c → c ≡ d → r ≡ Ok d
reply-of e f = e ∙ ap (λ (x : Compared). Ok x) f

pub none-of : {r : Reply} {c d : Uncompared} → r ≡ Err c → c ≡ d → r ≡ Err d
none-of e f = e ∙ ap (λ (x : Uncompared). Err x) f

-- the replies by number
tag : Reply → ℕ
tag (Ok (C.Same size)) = 0
tag (Ok (C.Different size)) = 1
tag (Err (U.First q)) = 2
tag (Err (U.Second q)) = 3
tag (Err (U.Room q)) = 4

apart : {A : Type 0} (r s : Reply) → (tag r ≡ tag s → ⊥) → r ≡ s → A
apart r s h e = absurd (h (ap tag e))

-- a line that says same
yes-line : (t : Told) (w : Result ℕ Refusal) {size : ℕ} → replied_as t w ≡ Ok (C.Same size) → (true ≡ is_same t) × (w ≡ Ok size)
unfolding tag
yes-line t (Err q) {size} e = apart (Err (U.Room q)) (Ok (C.Same size)) (λ z. omega (arith, z)) e
yes-line T.Same (Ok s) {size} e = (refl, same_size e)
  where
    same_size : ◌≡◌ {A = Reply} (Ok (C.Same s)) (Ok (C.Same size)) → ◌≡◌ {A = Result ℕ Refusal} (Ok s) (Ok size)
    same_size f = cc
yes-line T.Mirrored (Ok s) {size} e = apart (Ok (C.Different s)) (Ok (C.Same size)) (λ z. omega (arith, z)) e
yes-line T.Lengths (Ok s) {size} e = apart (Ok (C.Different s)) (Ok (C.Same size)) (λ z. omega (arith, z)) e
yes-line (T.First v) (Ok s) {size} e = apart (Ok (C.Different s)) (Ok (C.Same size)) (λ z. omega (arith, z)) e
yes-line (T.Second v) (Ok s) {size} e = apart (Ok (C.Different s)) (Ok (C.Same size)) (λ z. omega (arith, z)) e

same_size : {s size : ℕ} → ◌≡◌ {A = Reply} (Ok (C.Different s)) (Ok (C.Different size)) → ◌≡◌ {A = Result ℕ Refusal} (Ok s) (Ok size)
same_size f = cc

-- and one that does not
no_line : (t : Told) (w : Result ℕ Refusal) {size : ℕ} → replied_as t w ≡ Ok (C.Different size) → (false ≡ is_same t) × (w ≡ Ok size)
unfolding tag
no_line t (Err q) {size} e = apart (Err (U.Room q)) (Ok (C.Different size)) (λ z. omega (arith, z)) e
no_line T.Same (Ok s) {size} e = apart (Ok (C.Same s)) (Ok (C.Different size)) (λ z. omega (arith, z)) e
no_line T.Mirrored (Ok s) e = (refl, same_size e)
no_line T.Lengths (Ok s) e = (refl, same_size e)
no_line (T.First v) (Ok s) e = (refl, same_size e)
no_line (T.Second v) (Ok s) e = (refl, same_size e)

-- neither is an input's refusal
no-input : (t : Told) (w : Result ℕ Refusal) {q : Refusal} → (replied_as t w ≡ Err (U.First q)) ⊎ (replied_as t w ≡ Err (U.Second q)) → ⊥
unfolding tag
no-input t w h = by t w (number h)
  where
    number : {r : Reply} {q : Refusal} → (r ≡ Err (U.First q)) ⊎ (r ≡ Err (U.Second q)) → (tag r ≡ 2) ⊎ (tag r ≡ 3)
    number (inl e) = inl (ap tag e)
    number (inr e) = inr (ap tag e)

    by : (t : Told) (w : Result ℕ Refusal) → (tag (replied_as t w) ≡ 2) ⊎ (tag (replied_as t w) ≡ 3) → ⊥
    by t (Err q) (inl e) = omega (arith, e)
    by t (Err q) (inr e) = omega (arith, e)
    by T.Same (Ok s) (inl e) = omega (arith, e)
    by T.Same (Ok s) (inr e) = omega (arith, e)
    by T.Mirrored (Ok s) (inl e) = omega (arith, e)
    by T.Mirrored (Ok s) (inr e) = omega (arith, e)
    by T.Lengths (Ok s) (inl e) = omega (arith, e)
    by T.Lengths (Ok s) (inr e) = omega (arith, e)
    by (T.First v) (Ok s) (inl e) = omega (arith, e)
    by (T.First v) (Ok s) (inr e) = omega (arith, e)
    by (T.Second v) (Ok s) (inl e) = omega (arith, e)
    by (T.Second v) (Ok s) (inr e) = omega (arith, e)

-- ---- a reply: a refusal, or a line

-- what is told of two inputs that are not refused, and its line written or not
record Line (first second room : List ℕ) (r : Reply) (room' : List ℕ) : Type 0 where
  n : ℕ
  told : Told
  written : Result ℕ Refusal
  prints : PrintsTold first second (told_line n told) told
  puts : WritesLine (told_line n told) room written room'
  is : r ≡ replied_as told written

module _ {first second room room' : List ℕ} {r : Reply} (w : WritesSame first second room r room') where
  abbrev Replies : Type 0
  Replies =
      ((q : Refusal) × PlateRefused Own first q × (r ≡ Err (U.First q)))
      ⊎ (((q : Refusal) × IsAccepted first × PlateRefused Own second q × (r ≡ Err (U.Second q))) ⊎ Line first second room r room')

  replies-second : w.prepared.verdict ≡ Ok tt → (x : ComparesPlate w.prepared.plate second room r room') (v : Result (Unit {0}) Refusal) → x.prepared.verdict ≡ v
      → SecondBy v w.prepared.plate x.prepared.plate room r room' → Replies
  replies-second e x (Err q) f y = inr (inl (
    q,
    record { prepared = w.prepared; opened = w.opened; accepted = e },
    record { prepared = x.prepared; opened = x.opened; refused = f },
    y.0,
  ))
  replies-second e x (Ok _) f y = inr (inr (record {
    n = w.prepared.plate.n;
    told = y.told;
    written = y.written;
    prints = record {
      one = w.prepared;
      other = x.prepared;
      opened_one = w.opened;
      opened_other = x.opened;
      accepted_one = e;
      accepted_other = f;
      tells = y.tells;
      is = refl;
    };
    puts = y.puts;
    is = y.is;
  }))

  replies-first : (v : Result (Unit {0}) Refusal) → w.prepared.verdict ≡ v → FirstBy v w.prepared.plate second room r room' → Replies
  replies-first (Err q) e x = inl (q, record { prepared = w.prepared; opened = w.opened; refused = e }, x.0)
  replies-first (Ok _) e x = replies-second e x x.prepared.verdict refl x.is

  replies : Replies
  replies = replies-first w.prepared.verdict refl w.is

  -- a line that says same, and one that does not
  line-told : (same : Bool) (size : ℕ) → ((t : Told) (x : Result ℕ Refusal) → replied_as t x ≡ r → (same ≡ is_same t) × (x ≡ Ok size))
      → ((q : Refusal) → r ≡ Err (U.First q) → ⊥) → ((q : Refusal) → r ≡ Err (U.Second q) → ⊥) → IsTold same first second (take size room')
  line-told same size line no-first no_second = by replies
    where
      by : Replies → IsTold same first second (take size room')
      by (inl x) = absurd (no-first x.0 x.2)
      by (inr (inl x)) = absurd (no_second x.0 x.3)
      by (inr (inr x)) =
          let y = line x.told x.written (sym x.is) in
          record {
            told = x.told;
            prints = subst (λ (text : List ℕ). PrintsTold first second text x.told) (sym (line-there x.puts y.1)) x.prints;
            is = y.0;
          }

  pub same-there : {size : ℕ} → r ≡ Ok (C.Same size) → IsTold true first second (take size room')
  unfolding tag
  same-there {size} e =
      line-told true size (λ t x f. yes-line t x (f ∙ e)) (λ q f. apart (Ok (C.Same size)) (Err (U.First q)) (λ z. omega (arith, z)) (sym e ∙ f))
      (λ q f. apart (Ok (C.Same size)) (Err (U.Second q)) (λ z. omega (arith, z)) (sym e ∙ f))

  pub other-there : {size : ℕ} → r ≡ Ok (C.Different size) → IsTold false first second (take size room')
  unfolding tag
  other-there {size} e =
      line-told false size (λ t x f. no_line t x (f ∙ e)) (λ q f. apart (Ok (C.Different size)) (Err (U.First q)) (λ z. omega (arith, z)) (sym e ∙ f))
      (λ q f. apart (Ok (C.Different size)) (Err (U.Second q)) (λ z. omega (arith, z)) (sym e ∙ f))

  -- the first input's refusal, and the second's
  pub first_said : {q : Refusal} {ending : Ending} → r ≡ Err (U.First q) → RefusedEnding q ending → SaysSame first second (O.First ending)
  unfolding tag
  first_said {q} {ending} e z = record { is = by replies }
    where
      same : {p : Refusal} → ◌≡◌ {A = Reply} (Err (U.First p)) (Err (U.First q)) → p ≡ q
      same f = cc

      by : Replies → (p : Refusal) × PlateRefused Own first p × RefusedEnding p ending
      by (inl x) = (q, subst (PlateRefused Own first) (same (sym x.2 ∙ e)) x.1, z)
      by (inr (inl x)) = apart (Err (U.Second x.0)) (Err (U.First q)) (λ y. omega (arith, y)) (sym x.3 ∙ e)
      by (inr (inr x)) = absurd (no-input x.told x.written (inl (sym x.is ∙ e)))

  pub second-said : {q : Refusal} {ending : Ending} → r ≡ Err (U.Second q) → RefusedEnding q ending → SaysSame first second (O.Second ending)
  unfolding tag
  second-said {q} {ending} e z = record { is = by replies }
    where
      same : {p : Refusal} → ◌≡◌ {A = Reply} (Err (U.Second p)) (Err (U.Second q)) → p ≡ q
      same f = cc

      by : Replies → (p : Refusal) × IsAccepted first × PlateRefused Own second p × RefusedEnding p ending
      by (inl x) = apart (Err (U.First x.0)) (Err (U.Second q)) (λ y. omega (arith, y)) (sym x.2 ∙ e)
      by (inr (inl x)) = (q, x.1, subst (PlateRefused Own second) (same (sym x.3 ∙ e)) x.2, z)
      by (inr (inr x)) = absurd (no-input x.told x.written (inr (sym x.is ∙ e)))

module _ {same : Bool} {first second text : List ℕ} {before after : Sent} {h : Option Sent} (x : IsTold same first second text)
    (z : before.lines ≡ 0) (g : Hands before h) (t : h ≡ Some after) where
  pub same-taken : same ≡ true → SaysSame first second (O.Same after)
  same-taken e = record { is = (one_line z g t, (text, subst (λ (b : Bool). IsTold b first second text) e x)) }

  pub other-taken : same ≡ false → SaysSame first second (O.Different after)
  other-taken e = record { is = (one_line z g t, (text, subst (λ (b : Bool). IsTold b first second text) e x)) }

-- ---- the exit status

back-ended : (e : Ending) → to_z w32 (of_z w32 (status_of e)) ≡ status_of e
back-ended (E.Listed sent) = refl
back-ended (E.Refused q sent) = refl
back-ended E.Unwritten = refl

pub closed-unwritten : {o : Outcome} {r : ℤ} → o ≡ O.Unwritten → r ≡ pos 2 → to_z w32 (of_z w32 r) ≡ outcome_status o
closed-unwritten e f = rw (e, f) refl

-- it is one of those that a run may have: 1 is also that of a refusal
pub outcome-status : (o : Outcome) {r : ℤ} → r ≡ outcome_status o → IsStatus (to_z w32 (of_z w32 r))
outcome-status o e = subst (λ (z : ℤ). IsStatus (to_z w32 (of_z w32 z))) (sym e) (by o)
  where
    by : (o : Outcome) → IsStatus (to_z w32 (of_z w32 (outcome_status o)))
    by (O.Same sent) = record { ending = E.Listed sent; is = refl }
    by (O.Different sent) = record { ending = E.Refused R.LineRoom sent; is = refl }
    by (O.First ending) = record { ending = ending; is = back-ended ending }
    by (O.Second ending) = record { ending = ending; is = back-ended ending }
    by O.Unwritten = record { ending = E.Unwritten; is = refl }
