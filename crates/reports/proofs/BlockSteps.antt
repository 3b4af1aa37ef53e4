-- The step of a block, by what was read of it.
use Rattle.sheets.proofs.BlockPlaces.{counted_in, next_of}
use Rattle.plates.specs.declared.Refusal.{Refusal}
use Rattle.sheets.specs.Made.{sample_line_of}
use Rattle.decoding.specs.declared.Answer.{Answer}
use Rattle.std.proofs.Common.{◌≡◌, ℕ, ◌<◌, ◌≤◌, Bool, true, false, cond, ltb, List, length, take, ℤ, sym, refl, ap, ◌∙◌, subst, arith, Result, Ok, Err, Some, None}
use Rattle.plates.specs.declared.Refusal.TheVariants.{LineRoom}
use Rattle.decoding.specs.Decode.{Decodes}
use Rattle.listings.specs.declared.Tally.{Tally}
use Rattle.sheets.specs.Room.{laid}
use Rattle.sheets.specs.Turning.{in_order}
use Rattle.sheets.specs.declared.Order.{Order}
use Rattle.sheets.specs.Blocks.{BlockFound, block, no_block, block_reply, placed, room_after}
use Rattle.reports.specs.declared.Report.{Report}
use Rattle.reports.specs.declared.Step.{Step}
use Rattle.reports.specs.declared.Stage.TheVariants as S
use Rattle.reports.specs.declared.tally.Kept.{Kept}
use Rattle.reports.specs.Tally.{found_share, raised_by, reference_of, share, standing}
use Rattle.reports.specs.Steps.{BlocksStep, Closes, DecodedStep, Lent, LineStep, RoomStep, after_line, closed, decodable, enough, kept_after, lends, refused_step, short}
use Rattle.reports.proofs.LongBlocks.{laid-length, places-decoded, places-found}

module _ {counter : ℕ} {samples : List ℤ} {before : Report} {next : ℕ} {step : Step} {metrics : List ℤ} {decisions room : List ℕ} where
  -- a line room that is too short
  pub short-room : length room < 256 → step ≡ refused_step LineRoom before
      → RoomStep counter samples before next (lends metrics decisions room) step (lends metrics decisions room)
  short-room h e = short h (record { is = e; same = refl })

  -- a block decoded, and its line
  pub long-room : {metrics' : List ℤ} {decisions' room' : List ℕ} {after : Report} (decoded : Result Answer Refusal) → 256 ≤ length room
      → after ≡ after_line next before counter samples decoded → Decodes before.plate samples metrics decisions metrics' decisions' decoded
      → DecodedStep counter decoded before after room step room' → RoomStep counter samples before next (lends metrics decisions room) step (lends metrics' decisions' room')
  long-room {room' = room'} decoded h e d s = enough h (record {
    decoded = decoded;
    decodes = d;
    line = subst (λ (after : Report). DecodedStep counter decoded before after room step room') e s;
  })

no_read : {A : Type 0} {k next : ℕ} → Some (sample_line_of k next) ≡ None → A
no_read e = let z : ◌≡◌ {A = ℕ} 0 1 = cc in absurd (omega arith)

-- the same is kept of the samples that were decoded as of the block's
module _ (zeros : List ℤ) (size : length zeros ≡ 64) (report : Report) (lent : Lent) where
  -- the samples that were decoded are the block's, so that the same is kept of them
  same_after : (next counter : ℕ) (vs : List ℤ) (d : Result Answer Refusal) (metrics' : List ℤ) (decisions' : List ℕ)
      → Decodes report.plate (take (decodable (length vs)) (placed report.order vs zeros)) lent.metrics lent.decisions metrics' decisions' d
      → after_line next report counter (take (decodable (length vs)) (placed report.order vs zeros)) d ≡ after_line next report counter (in_order report.order vs) d
  same_after next counter vs d metrics' decisions' x =
      ap (λ (kept : Kept). record { stage = S.BlockLines; plate = report.plate; order = report.order; at = next; heard = report.heard; blocks = report.blocks; kept = kept })
      (by report.heard d x)
    where
      tally-same : (d : Result Answer Refusal)
          → Decodes report.plate (take (decodable (length vs)) (placed report.order vs zeros)) lent.metrics lent.decisions metrics' decisions' d
          → share report.kept.reference counter (take (decodable (length vs)) (placed report.order vs zeros)) d
          ≡ share report.kept.reference counter (in_order report.order vs) d
      tally-same (Err q) y = refl
      tally-same (Ok a) y =
          ap (λ (samples : List ℤ). found_share (standing report.kept.reference counter) samples a)
          (places-found report.plate report.order vs zeros lent.metrics lent.decisions size metrics' decisions' a y)

      by : (heard : Bool) (d : Result Answer Refusal)
          → Decodes report.plate (take (decodable (length vs)) (placed report.order vs zeros)) lent.metrics lent.decisions metrics' decisions' d
          → kept_after heard report.kept counter (take (decodable (length vs)) (placed report.order vs zeros)) d ≡ kept_after heard report.kept counter (in_order report.order vs) d
      by false d y = refl
      by true d y =
          ap (λ (t : Tally). record { reference = reference_of report.kept.reference counter d; tally = raised_by report.kept.tally t }) (tally-same d y)

module _ (zeros : List ℤ) (size : length zeros ≡ 64) {report : Report} {lent left : Lent} {step : Step} where
  samples_are : (counter next : ℕ) (vs : List ℤ) → RoomStep counter (take (decodable (length vs)) (placed report.order vs zeros)) report next lent step left
      → RoomStep counter (in_order report.order vs) report next lent step left
  samples_are counter next vs (short h s) = short h s
  samples_are counter next vs (enough h s) = enough h (record {
    decoded = s.decoded;
    decodes = places-decoded report.plate report.order vs zeros lent.metrics lent.decisions size left.metrics left.decisions s.decoded s.decodes;
    line = subst (λ (after : Report). DecodedStep counter s.decoded report after lent.room step left.room)
        (same_after zeros size report lent next counter vs s.decoded left.metrics left.decisions s.decodes) s.line;
  })

  -- a block line was read
  pub block-step : (found : BlockFound) (counter place count next : ℕ) (places : List ℤ) → Some (sample_line_of count next) ≡ block_reply place found → places ≡ room_after report.order zeros found
      → RoomStep counter (take (decodable count) places) report next lent step left → BlocksStep found counter place report lent step left
  block-step (block vs) counter place count next places e p s =
      let c : count ≡ length vs = ap counted_in e in
      let n : next ≡ place = ap next_of e in
      samples_are counter place vs (rw (c, n, p) at s)
  block-step no_block counter place count next places e p s = no_read e

  -- none was
  pub end_step : (found : BlockFound) (counter place : ℕ) → None ≡ block_reply place found
      → LineStep (Closes report.heard report lent.room) report (closed report.heard report) lent step left → BlocksStep found counter place report lent step left
  end_step (block vs) counter place e s = no_read (sym e)
  end_step no_block counter place e s = s

-- the places keep their number
pub places-size : (order : Order) (zeros : List ℤ) → length zeros ≡ 64 → (found : BlockFound) → length (room_after order zeros found) ≡ 64
places-size order zeros size (block vs) = by (ltb 64 (length vs))
  where
    by : (t : Bool) → length (cond t zeros (laid (in_order order vs) zeros)) ≡ 64
    by true = size
    by false = laid-length (in_order order vs) zeros ∙ size
places-size order zeros size no_block = size
