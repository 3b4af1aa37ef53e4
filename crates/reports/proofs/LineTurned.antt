-- In rooms that are enough, a step gives the next of the lines that are left of a report, or nothing where none is left.
use Rattle.plates.specs.declared.Refusal.{Refusal}
use Rattle.decoding.specs.declared.Answer.{Answer}
use Rattle.std.proofs.Common.{Option, ◌≡◌, ℕ, suc, ◌≤◌, Bool, true, false, List, [], ◌∷◌, length, ℤ, sym, refl, ap, ◌∙◌, subst, ap₂, arith, Result, Ok, Err, None}
use Rattle.plates.specs.declared.Plate.{Plate}
use Rattle.plates.specs.Prepare.{IsPrepared}
use Rattle.plates.specs.Refusals.{field, number, place}
use Rattle.plates.proofs.SoundIsPrepared.{sound}
use Rattle.listings.specs.declared.Tally.{Tally}
use Rattle.listings.proofs.Fits256.{end-fits-256, plate-fits-256, refused-fits-256, tally-fits-256}
use Rattle.listings.proofs.OfPlate.{entries_fit}
use Rattle.listings.specs.Lines.{line_of_end, tally_line}
use Rattle.listings.specs.Writing.{WritesEnd, entries_of}
use Rattle.sheets.proofs.Following.{block-first, block_none, counters-first, counters-none, counters_from}
use Rattle.sheets.specs.Text.{lines_from}
use Rattle.sheets.specs.Turning.{by_position, in_order}
use Rattle.sheets.specs.declared.Order.{Order}
use Rattle.sheets.specs.Blocks.{BlockFound, block, block_at, blocks_of, counter_at, next_line, no_block}
use Rattle.reports.specs.declared.Report.{Report}
use Rattle.reports.specs.declared.Stage.{Stage}
use Rattle.reports.specs.declared.Stage.TheVariants as S
use Rattle.reports.specs.declared.Step.{Step}
use Rattle.reports.specs.declared.tally.Kept.{Kept}
use Rattle.reports.specs.Tally.{Heard, heards_of, plus, raised_by, reference_of, share, tally_from}
use Rattle.reports.specs.Remaining.{BlocksLeave, HasRoom, Leaves, Left, Ready, ReadyAt, Rooms, blocks_at, counters_at, lines_left, rooms, working_of}
use Rattle.reports.specs.Report.{BlockAnswer, BlocksReport, HeardsReport, LinesReport, closing, heard_lines, line_of_heard, line_of_plate, line_of_profile, line_of_refusal, refused_block, word_of_block}
use Rattle.reports.specs.Steps.{BlocksStep, Closes, Lent, LineStep, Steps, StepsAt, Untouched, after_line, closed, kept_after, to, to_blocks, to_end, to_nothing, to_profile}
use Rattle.reports.specs.Turns.{Enough}
use Rattle.reports.proofs.LineComes.{BlocksCome, Comes}
use Rattle.reports.proofs.LinesGiven.{Given, block-given, fits, line-given, line_here, plate-fits}
use Rattle.reports.proofs.TallyLaws.{plus_assoc, plus_none, raised-plus, room-left, room-stays, share-small}

-- a step gives the next of the lines that are left, or nothing where none is left
pub data Turned (input : List ℕ) (report : Report) (lent : Lent) (step : Step) (left : Lent) : Type 0 where
  nothing : step.outcome ≡ Ok None → Left input report [] → lines_left input report ≡ 0 → Turned input report lent step left
  gives : (line : List ℕ) (after : Report) → Given line after step lent.room left.room → Ready input after
      → ((lines : List (List ℕ)) → Left input after lines → Left input report (line ∷ lines)) → lines_left input report ≡ suc (lines_left input after)
      → ((w : Rooms) → Leaves input after (working_of left) w → Leaves input report (working_of lent) w) → Comes input report line after
      → Turned input report lent step left

module _ (input : List ℕ) (plate : Plate) (order : Order) (at : ℕ) (heard : Bool) (blocks : ℕ) (kept-before : Kept) (lent left : Lent) (step : Step) (enough : Enough lent) where
  abbrev In : Stage → Report
  In stage = record { stage = stage; plate = plate; order = order; at = at; heard = heard; blocks = blocks; kept = kept-before }

  abbrev Turns-at : Stage → Type 0
  Turns-at stage = Turned input (In stage) lent step left

  -- a step that only writes keeps the working rooms
  kept : Untouched lent.metrics left.metrics lent.decisions left.decisions → working_of left ≡ working_of lent
  kept u = ap₂ rooms u.metrics_same u.decisions_same

  still : Untouched lent.metrics left.metrics lent.decisions left.decisions → (w : Rooms) → BlocksLeave plate (blocks_at input (In S.BlockLines)) (working_of left) w
      → BlocksLeave plate (blocks_at input (In S.BlockLines)) (working_of lent) w
  still u w l = subst (λ (v : Rooms). BlocksLeave plate (blocks_at input (In S.BlockLines)) v w) (kept u) l

  end-turned : LineStep (WritesEnd blocks lent.room) (In S.EndLine) (to_nothing (In S.EndLine)) lent step left → Turns-at S.EndLine
  end-turned x =
      gives (line_of_end blocks) (to_nothing (In S.EndLine))
      (line-given _ (line_of_end blocks) lent.room left.room _ _ step (end-fits-256 blocks) (fits (line_of_end blocks) lent.room (end-fits-256 blocks) enough.room) x.line)
      tt (λ lines l. ap (λ (ls : List (List ℕ)). line_of_end blocks ∷ ls) l) refl (λ w l. l ∙ kept x.working) (refl, refl)

module _ (input : List ℕ) (plate : Plate) (order : Order) (at blocks : ℕ) (kept-before : Kept) (lent left : Lent) (step : Step) (enough : Enough lent) where
  abbrev Of : Bool → Report
  Of heard = record { stage = S.BlockLines; plate = plate; order = order; at = at; heard = heard; blocks = blocks; kept = kept-before }

  -- the lines of blocks or heard lines, one more
  line-more : (heard : Bool) (counter next : ℕ) (samples : List ℤ) (reply : Result Answer Refusal) → BlockAnswer plate samples reply → (counters : List ℕ) (bs : List (List ℤ)) (k : ℕ)
      → plate.n ≤ 64 → HasRoom kept-before.tally (suc k) → (lines : List (List ℕ))
      → LinesReport heard order plate blocks (kept_after heard kept-before counter samples reply) counters bs lines
      → LinesReport heard order plate blocks kept-before (counter ∷ counters) (samples ∷ bs) (line_here (Of heard) counter reply ∷ lines)
  line-more false counter next samples (Err q) x counters bs k few r lines l = (refused_block q x refl, l)
  line-more false counter next samples (Ok a) x counters bs k few r lines l = (word_of_block a x.0 x.1 refl, l)
  line-more true counter next samples reply x counters bs k few r lines l =
      record { replies = reply ∷ l.replies; answered = (x, l.answered); are = both (line_is reply) (l.are ∙ ap (λ (t : Tally). heard_lines order plate reference hs (closing t blocks)) sum) }
    where
      reference : Option ℕ
      reference = reference_of kept-before.reference counter reply

      hs : List Heard
      hs = heards_of counters bs l.replies

      added : Tally
      added = share kept-before.reference counter samples reply

      line_is : (d : Result Answer Refusal) → line_here (Of true) counter d ≡ line_of_heard order plate kept-before.reference counter d
      line_is (Ok a) = refl
      line_is (Err q) = refl

      both : {a b : List ℕ} {ks ls : List (List ℕ)} → a ≡ b → ks ≡ ls → ◌≡◌ {A = List (List ℕ)} (a ∷ ks) (b ∷ ls)
      both e f = ap₂ (λ (y : List ℕ) (ys : List (List ℕ)). y ∷ ys) e f

      sum : plus (raised_by kept-before.tally added) (tally_from reference hs) ≡ plus kept-before.tally (plus added (tally_from reference hs))
      sum =
          ap (λ (t : Tally). plus t (tally_from reference hs))
          (raised-plus kept-before.tally added k r (share-small plate few kept-before.reference counter samples reply x))
          ∙ plus_assoc kept-before.tally added (tally_from reference hs)

  -- and room for those that are left
  room-more : (heard : Bool) (counter : ℕ) (samples : List ℤ) (reply : Result Answer Refusal) → BlockAnswer plate samples reply → (k : ℕ) → plate.n ≤ 64
      → HasRoom kept-before.tally (suc k) → HasRoom (kept_after heard kept-before counter samples reply).tally k
  room-more false counter samples reply x k few r = room-stays kept-before.tally k r
  room-more true counter samples reply x k few r =
      let added = share kept-before.reference counter samples reply in
      let small = share-small plate few kept-before.reference counter samples reply x in
      subst (λ (t : Tally). HasRoom t k) (sym (raised-plus kept-before.tally added k r small)) (room-left kept-before.tally added k r small)

  -- after the last
  close-turned : (heard : Bool) → block_at heard input at ≡ no_block → LineStep (Closes heard (Of heard) lent.room) (Of heard) (closed heard (Of heard)) lent step left
      → Turned input (Of heard) lent step left
  close-turned false e x =
      let n = ap (by_position order) (block_none false input at e) in
      gives (line_of_end blocks) (to_nothing (Of false))
      (line-given _ (line_of_end blocks) lent.room left.room _ _ step (end-fits-256 blocks) (fits (line_of_end blocks) lent.room (end-fits-256 blocks) enough.room) x.line)
      tt
      (λ lines l. subst (λ (b : List (List ℤ)). BlocksReport order plate blocks b (line_of_end blocks ∷ lines)) (sym n) (ap (λ (ls : List (List ℕ)). line_of_end blocks ∷ ls) l))
      (omega (arith, ap length n))
      (λ w l. subst (λ (b : List (List ℤ)). BlocksLeave plate b (working_of lent) w) (sym n) (l ∙ ap₂ rooms x.working.metrics_same x.working.decisions_same))
      (subst (λ (f : BlockFound). BlocksCome f (counter_at input at) (next_line input at) (Of false) (line_of_end blocks) (to_nothing (Of false))) (sym e)
      (refl, refl))
  close-turned true e x =
      let n = ap (by_position order) (block_none true input at e) in
      let t = kept-before.tally in
      gives (tally_line t) (to_end (Of true))
      (line-given _ (tally_line t) lent.room left.room _ _ step (tally-fits-256 t) (fits (tally_line t) lent.room (tally-fits-256 t) enough.room) x.line)
      tt
      (λ lines l. subst (λ (b : List (List ℤ)). HeardsReport order plate blocks kept-before (counters_at input (Of true)) b (tally_line t ∷ lines)) (sym n)
      (record {
        replies = [];
        answered = tt;
        are = ap (λ (ls : List (List ℕ)). tally_line t ∷ ls) l ∙ ap (λ (u : Tally). closing u blocks) (sym (plus_none t))
            ∙ ap (λ (cs : List ℕ). heard_lines order plate kept-before.reference (heards_of cs [] [])
            (closing (plus t (tally_from kept-before.reference (heards_of cs [] []))) blocks)) (sym (counters-none true input at e));
      }))
      (omega (arith, ap length n))
      (λ w l. subst (λ (b : List (List ℤ)). BlocksLeave plate b (working_of lent) w) (sym n) (l ∙ ap₂ rooms x.working.metrics_same x.working.decisions_same))
      (subst (λ (f : BlockFound). BlocksCome f (counter_at input at) (next_line input at) (Of true) (tally_line t) (to_end (Of true))) (sym e) (refl, refl))

  blocks-turned : (heard : Bool) → IsPrepared plate → HasRoom kept-before.tally (length (blocks_at input (Of heard))) → (found : BlockFound) → block_at heard input at ≡ found
      → BlocksStep found (counter_at input at) (next_line input at) (Of heard) lent step left → Turned input (Of heard) lent step left
  blocks-turned heard prepared room (block listed) e x =
      let next = next_line input at in
      let counter = counter_at input at in
      let samples = in_order order listed in
      let g = block-given counter samples (Of heard) next step lent left prepared enough x in
      let f = ap (by_position order) (block-first heard input at listed e) in
      let c = counters-first heard input at listed e in
      let rest = by_position order (blocks_of heard (lines_from input next)) in
      let r : HasRoom kept-before.tally (suc (length rest)) = subst (λ (bs : List (List ℤ)). HasRoom kept-before.tally (length bs)) f room in
      gives (line_here (Of heard) counter g.reply) (after_line next (Of heard) counter samples g.reply) g.given
      (prepared, room-more heard counter samples g.reply g.answer (length rest) (sound prepared).short r)
      (λ lines l. subst (λ (bs : List (List ℤ)). LinesReport heard order plate blocks kept-before (counters_at input (Of heard)) bs (line_here (Of heard) counter g.reply ∷ lines)) (sym f)
      (subst (λ (cs : List ℕ). LinesReport heard order plate blocks kept-before cs (samples ∷ rest) (line_here (Of heard) counter g.reply ∷ lines)) (sym c)
      (line-more heard counter next samples g.reply g.answer (counters_from heard input next) rest (length rest) (sound prepared).short r lines l)))
      (omega (arith, ap length f))
      (λ w l. subst (λ (b : List (List ℤ)). BlocksLeave plate b (working_of lent) w) (sym f) (working_of left, g.leaves, l))
      (subst (λ (b : BlockFound). BlocksCome b counter next (Of heard) (line_here (Of heard) counter g.reply)
      (after_line next (Of heard) counter samples g.reply)) (sym e)
      (record { reply = g.reply; answer = g.answer; line_is = refl; after_is = refl }))
  blocks-turned heard prepared room no_block e x = close-turned heard e x

module _ (input : List ℕ) (report : Report) (lent left : Lent) (step : Step) (enough : Enough lent) where
  abbrev At : Stage → Report
  At stage = to stage report.at report

  turned : (stage : Stage) → ReadyAt stage input (At stage) → StepsAt stage input (At stage) lent step left → Turned input (At stage) lent step left
  turned (S.Refused q) ready x =
      gives (line_of_refusal q) (to_nothing (At (S.Refused q)))
      (line-given _ (line_of_refusal q) lent.room left.room _ _ step (refused-fits-256 (number q) (place q) (field q))
      (fits (line_of_refusal q) lent.room (refused-fits-256 (number q) (place q) (field q)) enough.room) x.line)
      tt (λ lines l. ap (λ (ls : List (List ℕ)). line_of_refusal q ∷ ls) l) refl
      (λ w l. l ∙ kept input report.plate report.order report.at report.heard report.blocks report.kept lent left step enough x.working)
      (refl, refl)
  turned S.PlateLine ready x =
      let plate = report.plate in
      gives (line_of_plate plate) (to_profile (At S.PlateLine))
      (line-given _ (line_of_plate plate) lent.room left.room _ _ step (plate-fits-256 plate.n plate.k (entries_of plate))
      (plate-fits plate ready.0 (line_of_plate plate) lent.room (plate-fits-256 plate.n plate.k (entries_of plate)) enough.room) x.line)
      ready (λ lines l. (refl, l)) (omega arith)
      (λ w l. still input plate report.order report.at report.heard report.blocks report.kept lent left step enough x.working w l)
      (refl, refl)
  turned S.ProfileLine ready x =
      let plate = report.plate in
      gives (line_of_profile plate) (to_blocks report.at (At S.ProfileLine))
      (line-given _ (line_of_profile plate) lent.room left.room _ _ step (entries_fit plate ready.0)
      (plate-fits plate ready.0 (line_of_profile plate) lent.room (entries_fit plate ready.0) enough.room) x.line)
      ready (λ lines l. (refl, l)) (omega arith)
      (λ w l. still input plate report.order report.at report.heard report.blocks report.kept lent left step enough x.working w l)
      (refl, refl)
  turned S.BlockLines ready x =
      blocks-turned input report.plate report.order report.at report.blocks report.kept lent left step enough report.heard ready.0 ready.1
      (block_at report.heard input report.at) refl x
  turned S.EndLine ready x = end-turned input report.plate report.order report.at report.heard report.blocks report.kept lent left step enough x
  turned S.Done ready x = nothing (ap (λ (s : Step). s.outcome) x.is) refl refl

pub step-turned : (input : List ℕ) (report : Report) (lent left : Lent) (step : Step) → Ready input report → Enough lent → Steps report input lent step left
    → Turned input report lent step left
step-turned input report lent left step ready enough x = turned input report lent left step enough report.stage ready x.is
