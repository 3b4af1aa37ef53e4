-- In rooms that are enough, a step gives the line that comes next.
use Rattle.std.proofs.Common.{◌≡◌, ℕ, ◌≤◌, Bool, true, false, cond, List, [], ◌∷◌, ◌++◌, length, take, drop, ℤ, sym, refl, ap, ◌∙◌, subst, ap₂, inl, inr, arith, Result, Ok, Err, Some}
use lib.Seq.{take-append_seam}
use Rattle.plates.proofs.Refusing.{never_both}
use Rattle.plates.specs.declared.Plate.{Plate}
use Rattle.plates.specs.declared.Refusal.{Refusal}
use Rattle.plates.specs.Prepare.{IsPrepared, not_prepared}
use Rattle.plates.proofs.SoundIsPrepared.{sound}
use Rattle.plates.specs.Refusals.{Passes, Refuses, field, number, place}
use Rattle.decoding.proofs.PlateSizes.{decision-need-small, plate-sizes-fit}
use Rattle.decoding.specs.declared.Answer.{Answer}
use Rattle.decoding.specs.Decode.{Decodes, decode_conditions, metric_need}
use Rattle.listings.proofs.Fits256.{refused-fits-256, word-fits-256}
use Rattle.listings.specs.Writing.{Writes, WritesAs, line_room}
use Rattle.reports.specs.declared.Report.{Report}
use Rattle.reports.specs.declared.Step.{Step}
use Rattle.reports.specs.Remaining.{BlockLeaves, rooms, untouched, working_of, zeroed}
use Rattle.reports.specs.Printed.{printed_as}
use Rattle.reports.specs.Report.{BlockAnswer, block_conditions, line_of_answer, line_of_refusal}
use Rattle.reports.specs.Steps.{DecodedStep, FoundStep, Lent, RefusedStep, RoomStep, WritesStep, after_line, enough, is_silent, of_block, short, step_by}
use Rattle.reports.specs.Turns.{Enough}

-- a line stands at the start of the room, with the bytes after it as they were, and this report comes after it
pub record Given (line : List ℕ) (after : Report) (step : Step) (room room' : List ℕ) : Type 0 where
  pub short : length line ≤ 256
  pub outcome : step.outcome ≡ Ok (Some (length line))
  pub next : step.next ≡ after
  pub bytes : line ≡ take (length line) room'
  pub room_is : room' ≡ line ++ drop (length line) room

-- ---- a line that is written

module _ (cs : List (Refusal → Type 0)) (line room room' : List ℕ) (before after : Report) (step : Step) (l : length line ≤ 256) (pass : Passes cs) where
  by_written : (w : Result ℕ Refusal) → WritesAs cs line room room' w → step ≡ step_by w before after → Given line after step room room'
  by_written (Err q) x e = absurd (never_both cs pass q x.0)
  by_written (Ok size) x e = record {
    short = l;
    outcome = ap (λ (s : Step). s.outcome) e ∙ ap (λ x. Ok (Some x)) x.1;
    next = ap (λ (s : Step). s.next) e;
    bytes = sym (ap (take (length line)) x.2 ∙ take-append_seam line (drop (length line) room));
    room_is = x.2;
  }

  -- no condition refuses it
  pub line-given : WritesStep (Writes cs line room) before after step room' → Given line after step room room'
  line-given x = by_written x.written x.writes.reply x.is

-- a line of at most 256 bytes fits a room of so many
pub fits : (line room : List ℕ) → length line ≤ 256 → 256 ≤ length room → Passes (line_room line room ∷ [])
fits line room l r = ((λ p x. omega (arith, x.0)), tt)

-- also where it takes a prepared plate
pub plate-fits : (plate : Plate) → IsPrepared plate → (line room : List ℕ) → length line ≤ 256 → 256 ≤ length room → Passes (not_prepared plate ∷ line_room line room ∷ [])
plate-fits plate prepared line room l r = ((λ p x. x.0 prepared), fits line room l r)

-- ---- the line of a block

-- the line that is given for a line of this counter: a repeat has no bytes
abbrev pub line_here : Report → ℕ → Result Answer Refusal → List ℕ
line_here before counter (Ok a) = cond (is_silent before counter) [] (line_of_answer before.order before.plate a)
line_here before counter (Err q) = line_of_refusal q

pub record BlockGiven (counter : ℕ) (samples : List ℤ) (before : Report) (next : ℕ) (step : Step) (lent left : Lent) : Type 0 where
  pub reply : Result Answer Refusal
  pub answer : BlockAnswer before.plate samples reply
  pub given : Given (line_here before counter reply) (after_line next before counter samples reply) step lent.room left.room
  pub leaves : BlockLeaves before.plate samples (working_of lent) (working_of left)

module _ (counter : ℕ) (samples : List ℤ) (before : Report) (next : ℕ) (step : Step) (lent left : Lent) (prepared : IsPrepared before.plate) (enough-room : Enough lent) where
  abbrev Gives : Type 0
  Gives = BlockGiven counter samples before next step lent left

  abbrev after : Result Answer Refusal → Report
  after d = after_line next before counter samples d

  metric-need-small : metric_need before.plate ≤ 8192
  metric-need-small = omega (arith, (plate-sizes-fit before.plate prepared).half_small)

  -- a refusal that is printed
  printed : (q : Refusal) → of_block q ≡ true → Refuses (block_conditions before.plate samples) q → working_of left ≡ working_of lent
      → RefusedStep (of_block q) q before (after (Err q)) lent.room step left.room → Gives
  printed q e r same x = record {
    reply = Err q;
    answer = r;
    given = line-given _ (line_of_refusal q) lent.room left.room before (after (Err q)) step (refused-fits-256 (number q) (place q) (field q))
        (fits (line_of_refusal q) lent.room (refused-fits-256 (number q) (place q) (field q)) enough-room.room)
        (subst (λ (b : Bool). RefusedStep b q before (after (Err q)) lent.room step left.room) e x);
    leaves = untouched q r same;
  }

  by-refusal : (q : Refusal) → working_of left ≡ working_of lent → Refuses (decode_conditions before.plate samples lent.metrics lent.decisions) q
      → RefusedStep (of_block q) q before (after (Err q)) lent.room step left.room → Gives
  by-refusal q same (inl n) x = absurd (n.0 prepared)
  by-refusal q same (inr (n, inl c)) x = printed q (ap of_block c.1) (inl c) same x
  by-refusal q same (inr (n, inr (c, inl o))) x = printed q (ap of_block o.is) (inr (c, inl o)) same x
  by-refusal q same (inr (n, inr (c, inr (o, inl m)))) x = absurd (omega (arith, m.0, metric-need-small, enough-room.metrics))
  by-refusal q same (inr (n, inr (c, inr (o, inr (m, inl d))))) x = absurd (omega (arith, d.0, decision-need-small before.plate prepared, enough-room.decisions))
  by-refusal q same (inr (n, inr (c, inr (o, inr (m, inr z))))) x = absurd z.1

  -- an answer: its line, or none for a repeat
  by_answer : (a : Answer) (silent : Bool) → FoundStep silent a before (after (Ok a)) lent.room step left.room
      → Given (cond silent [] (line_of_answer before.order before.plate a)) (after (Ok a)) step lent.room left.room
  by_answer a true x = record {
    short = omega arith;
    outcome = ap (λ (s : Step). s.outcome) x.0;
    next = ap (λ (s : Step). s.next) x.0;
    bytes = refl;
    room_is = x.1;
  }
  by_answer a false x =
      let l = word-fits-256 before.plate.n (printed_as before.order before.plate.n a.word) a.metric a.counts.additions a.counts.comparisons (sound prepared).short in
      line-given _ (line_of_answer before.order before.plate a) lent.room left.room before (after (Ok a)) step l
      (plate-fits before.plate prepared (line_of_answer before.order before.plate a) lent.room l enough-room.room) x

  by-decoded : (d : Result Answer Refusal) → Decodes before.plate samples lent.metrics lent.decisions left.metrics left.decisions d
      → DecodedStep counter d before (after d) lent.room step left.room → Gives
  by-decoded (Err q) p x = by-refusal q (ap₂ rooms p.1 p.2) p.0 x
  by-decoded (Ok a) p x = record {
    reply = Ok a;
    answer = ((p.0.1.0, (p.0.1.1.0, tt)), p.1);
    given = by_answer a (is_silent before counter) x;
    leaves = zeroed (p.0.1.0, (p.0.1.1.0, tt)) p.2;
  }

  -- a block gives its line
  pub block-given : RoomStep counter samples before next lent step left → Gives
  block-given (short h x) = absurd (omega (arith, h, enough-room.room))
  block-given (enough h x) = by-decoded x.decoded x.decodes x.line
