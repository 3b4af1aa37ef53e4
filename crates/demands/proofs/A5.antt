-- A5, a shift's tally: one report for a sheet of heard lines. Definitions: sheets/specs/Blocks (heard lines), reports/specs/Tally (`advance`,
-- `standing`, `reference_of`, `share`, `tally_of`, from the lines themselves), Report (`HeardsReport`), listings/specs/Lines (`tally_line`).
use Rattle.std.proofs.Common.{Result, Ok, Err}
use borrow.Author.Tests.{le-ltb, lt-ltb, ne_eqb}
use lib.IntN.{+ℤ_assoc, +ℤ_idl, +ℤ_invr, ◌+ℤ◌, negsuc, pos, pos-+ℤ-pos, ℤ}
use lib.ListN.{drop, length}
use mathlib.Core.Bool.{Bool, cond, true}
use mathlib.Core.List.{◌++◌, List, [], ◌∷◌}
use mathlib.Core.Logic.{inl, inr, ◌⊎◌}
use Rattle.std.specs.Prelude.{None, Option, Some}
use mathlib.Core.Path.{ap, refl, subst, sym, ◌∙◌, ◌≡◌}
use native.Mathlib.Decide.{dec_le}
use native.Mathlib.Omega.{arith}
use Prim.Native.Nat.{◌+◌, ◌-◌, ◌<◌, suc, zero, zero-le, ℕ, ◌≤◌}
use Rattle.decoding.specs.declared.Answer.{Answer}
use Rattle.demands.specs.Requests.{TallyTold}
use Rattle.listings.specs.declared.Tally.{Tally}
use Rattle.listings.specs.Decimal.{decimal, signed_decimal}
use Rattle.listings.specs.Lines.{less, line, tally_line, tally_name}
use Rattle.plates.proofs.PrepareDetermined.{prepare-determined}
use Rattle.plates.specs.declared.Plate.{Plate}
use Rattle.plates.specs.declared.Prepared.{Prepared}
use Rattle.plates.specs.declared.Refusal.{Refusal}
use Rattle.plates.specs.Prepare.{Prepares}
use Rattle.reports.proofs.MetricsSummed.{metrics-summed}
use Rattle.reports.proofs.TallyLaws.{none-plus}
use Rattle.reports.specs.declared.tally.Standing.{Standing}
use Rattle.reports.specs.Report.{BlockAnswers, HeardsReport, LinesReport, PreparedReports, Reports, ReportsAs, SheetReports}
use Rattle.reports.specs.Report.{at_first, closing, heard_lines, line_of_answer, line_of_heard}
use Rattle.reports.specs.Tally.{Heard, advance, decoded_share, found_share, heards_of, is_repeat, metrics_from, reference_by, reference_of}
use Rattle.reports.specs.Tally.{refused_share, repeated_share, share, standing, standing_by, tally_of}
use Rattle.sheets.proofs.Ranges.{accepted}
use Rattle.sheets.specs.Blocks.{BlockFound, block, block_front, block_then, blocks_of, counters_of, heard_front, no_block}
use Rattle.sheets.specs.declared.cover.Cover.{Cover}
use Rattle.sheets.specs.declared.Order.{Order}
use Rattle.sheets.specs.Faults.{Wrong, first_word, in_turn, on_blocks, on_heard, out_of_turn}
use Rattle.sheets.specs.Lines.{rows_of}
use Rattle.sheets.specs.Masks.{mask_front, mask_in, masks_in}
use Rattle.sheets.specs.Sheet.{Contents, Reading, contents, contents_with, cover_front, cover_in, reading, says}
use Rattle.sheets.specs.Text.{lines}
use Rattle.sheets.specs.Turning.{by_position}
use Rattle.reports.proofs.TallyLaws as Laws
use Rattle.reports.specs.declared.tally.Standing.TheVariants as S
use Rattle.sheets.specs.declared.word.Word.TheVariants as W

-- ---- the advance

-- the difference of counters modulo 65536, this one's less the reference
pub advance-is-difference : (counter reference : ℕ) → reference ≤ 65535 → counter ≤ 65535
    → (advance counter reference < 65536) × ((advance counter reference + reference ≡ counter) ⊎ (advance counter reference + reference ≡ counter + 65536))
advance-is-difference counter reference h k = (omega arith, go (dec_le reference counter))
  where
    go : Dec (reference ≤ counter) → (advance counter reference + reference ≡ counter) ⊎ (advance counter reference + reference ≡ counter + 65536)
    go (yes l) = inl (omega arith)
    go (no l) = inr (omega arith)

-- ---- where a line stands, by the advance over the reference

module _ (reference counter : ℕ) where
  -- 0 is a repeat
  pub zero-is-repeat : advance counter reference ≡ 0 → standing (Some reference) counter ≡ S.Repeat
  zero-is-repeat e = rw e

  -- over 32767 is out of turn
  pub over-is-out-of-turn : 32767 < advance counter reference → standing (Some reference) counter ≡ S.OutOfTurn
  over-is-out-of-turn h = by-step (advance counter reference) h
    where
      by-step : (step : ℕ) → 32767 < step → standing_by step ≡ S.OutOfTurn
      by-step zero l = absurd (omega arith)
      by-step (suc step) l = rw (ne_eqb (suc step) 0 (λ e. omega (arith, e)), lt-ltb 32767 (suc step) l)

  -- any other leaves advance minus one missing
  pub other-is-onward : 0 < advance counter reference → advance counter reference ≤ 32767
      → standing (Some reference) counter ≡ S.Onward (advance counter reference - 1)
  other-is-onward a b = by-step (advance counter reference) a b
    where
      by-step : (step : ℕ) → 0 < step → step ≤ 32767 → standing_by step ≡ S.Onward (step - 1)
      by-step zero l m = absurd (omega arith)
      by-step (suc step) l m = rw (ne_eqb (suc step) 0 (λ e. omega (arith, e)), le-ltb 32767 (suc step) m)

-- ---- what a line adds, and what it does to the reference

module _ (reference : Option ℕ) (counter : ℕ) (samples : List ℤ) where
  -- a line refused counts as refused only and leaves the reference
  pub refused-only : (q : Refusal)
      → (share reference counter samples (Err q) ≡ refused_share) × (reference_of reference counter (Err q) ≡ reference)
  refused-only q = (refl, refl)

  module _ (a : Answer) where
    -- a repeat is neither decoded nor summed
    pub repeat-only : standing reference counter ≡ S.Repeat
        → (share reference counter samples (Ok a) ≡ repeated_share) × (reference_of reference counter (Ok a) ≡ reference)
    repeat-only e = (ap (λ (s : Standing). found_share s samples a) e, ap (λ (s : Standing). reference_by s counter reference) e)

    -- out of turn: decoded, adding nothing to missing, and the reference counter stays
    pub out-of-turn-decoded : standing reference counter ≡ S.OutOfTurn
        → (share reference counter samples (Ok a) ≡ decoded_share 1 0 samples a) × (reference_of reference counter (Ok a) ≡ reference)
    out-of-turn-decoded e = (ap (λ (s : Standing). found_share s samples a) e, ap (λ (s : Standing). reference_by s counter reference) e)

    -- any other is decoded, adds advance minus one to missing and becomes the reference
    pub onward-decoded : (missing : ℕ) → standing reference counter ≡ S.Onward missing
        → (share reference counter samples (Ok a) ≡ decoded_share 0 missing samples a) × (reference_of reference counter (Ok a) ≡ Some counter)
    onward-decoded missing e = (ap (λ (s : Standing). found_share s samples a) e, ap (λ (s : Standing). reference_by s counter reference) e)

-- the first line not refused sets the reference and is decoded
pub first-sets-reference : (counter : ℕ) (samples : List ℤ) (a : Answer)
    → (share None counter samples (Ok a) ≡ decoded_share 0 0 samples a) × (reference_of None counter (Ok a) ≡ Some counter)
first-sets-reference counter samples a = (refl, refl)

-- a repeat prints no line
pub repeat-prints-none : (order : Order) (plate : Plate) (reference : Option ℕ) (counter : ℕ) (a : Answer) → standing reference counter ≡ S.Repeat
    → line_of_heard order plate reference counter (Ok a) ≡ []
repeat-prints-none order plate reference counter a e = ap (λ (s : Standing). cond (is_repeat s) [] (line_of_answer order plate a)) e

-- ---- a sheet mixing block and heard is 17 at the first that departs

pub heard-among-blocks : (n : ℕ) (fs : List (List ℕ)) → first_word fs ≡ W.Heard → Wrong n on_blocks fs 17 1
heard-among-blocks n fs e = out_of_turn (ap (in_turn on_blocks) e) refl refl

pub block-among-heard : (n : ℕ) (fs : List (List ℕ)) → first_word fs ≡ W.Block → Wrong n on_heard fs 17 1
block-among-heard n fs e = out_of_turn (ap (in_turn on_heard) e) refl refl

-- ---- the printed sum, with its sign

pos-once : {a b : ℕ} → pos a ≡ pos b → a ≡ b
pos-once e = cc

signed-whole : (k : ℕ) → signed_decimal (pos k) ≡ decimal k
unfolding signed_decimal
signed-whole k = ap (λ (b : Bool). cond b (45 ∷ decimal k) (decimal k)) (le-ltb k 0 zero-le)

signed_below : (k : ℕ) → signed_decimal (negsuc k) ≡ 45 ∷ decimal (suc k)
unfolding signed_decimal
signed_below k = refl

less-whole : (above below : ℕ) → below ≤ above → less above below ≡ decimal (above - below)
unfolding less
less-whole above below h = ap (λ (b : Bool). cond b (45 ∷ decimal (below - above)) (decimal (above - below))) (le-ltb above below h)

less-below : (above below : ℕ) → above < below → less above below ≡ 45 ∷ decimal (below - above)
unfolding less
less-below above below h = ap (λ (b : Bool). cond b (45 ∷ decimal (below - above)) (decimal (above - below))) (lt-ltb above below h)

-- what is above less what is below, where their difference is the sum
sum-is-signed : (m : ℤ) (above below : ℕ) → m +ℤ pos below ≡ pos above → less above below ≡ signed_decimal m
sum-is-signed (pos k) above below e =
    let s : k + below ≡ above = pos-once (sym (pos-+ℤ-pos k below) ∙ e) in
    let d : above - below ≡ k = omega (arith, s) in
    less-whole above below (omega (arith, s)) ∙ ap decimal d ∙ sym (signed-whole k)
sum-is-signed (negsuc k) above below e =
    let f : pos below ≡ pos (suc k + above) =
    sym (+ℤ_idl (pos below)) ∙ ap (λ (z : ℤ). z +ℤ pos below) (sym (+ℤ_invr (pos (suc k)))) ∙ +ℤ_assoc (pos (suc k)) (negsuc k) (pos below)
    ∙ ap (λ (z : ℤ). pos (suc k) +ℤ z) e ∙ pos-+ℤ-pos (suc k) above in
    let s : below ≡ suc k + above = pos-once f in
    let d : below - above ≡ suc k = omega (arith, s) in
    less-below above below (omega (arith, s)) ∙ ap (λ (x : ℕ). 45 ∷ decimal x) d ∙ sym (signed_below k)

-- the tally line of some heard lines: its numbers in the order named, the sum of metrics over the number decoded as two whole numbers, unreduced
pub tally-line-is : (hs : List Heard) → let t = tally_of hs in
    tally_line t ≡ line tally_name (decimal t.decoded ∷ decimal t.refused ∷ decimal t.repeated ∷ decimal t.late ∷ decimal t.missing
    ∷ decimal t.opposing ∷ decimal t.zeros ∷ signed_decimal (metrics_from None hs) ∷ decimal t.decoded ∷ [])
unfolding tally_line
tally-line-is hs =
    let t = tally_of hs in
    ap (λ (s : List ℕ). line tally_name (decimal t.decoded ∷ decimal t.refused ∷ decimal t.repeated ∷ decimal t.late ∷ decimal t.missing
    ∷ decimal t.opposing ∷ decimal t.zeros ∷ s ∷ decimal t.decoded ∷ []))
    (sum-is-signed (metrics_from None hs) t.above t.below (metrics-summed None hs))

-- ---- from the sheet's bytes on

-- a sheet has a counter for each heard line
blocks-few : (heard : Bool) (ls : List (List ℕ)) → length (blocks_of heard ls) ≤ length ls
blocks-few heard [] = omega arith
blocks-few heard (l ∷ ls) = go (block_front heard (l ∷ ls)) (blocks-few heard ls)
  where
    go : (b : BlockFound) → length (blocks_of heard ls) ≤ length ls → length (block_then b (blocks_of heard ls)) ≤ suc (length ls)
    go (block vs) h = omega (arith, h)
    go no_block h = omega arith

counters-many : (k : ℕ) (ls : List (List ℕ)) → k ≤ length ls → length (counters_of k ls) ≡ k
counters-many zero ls h = refl
counters-many (suc k) [] h = absurd (omega arith)
counters-many (suc k) (l ∷ ls) h = ap suc (counters-many k ls (omega arith))

by-position-many : (order : Order) (bs : List (List ℤ)) → length (by_position order bs) ≡ length bs
by-position-many order [] = refl
by-position-many order (b ∷ bs) = ap suc (by-position-many order bs)

with-counters : (cover : Cover) (mask : ℕ) (ls : List (List ℕ)) → length (contents_with cover mask ls).counters ≡ length (contents_with cover mask ls).blocks
with-counters cover mask ls =
    let left = drop (length (rows_of cover.n cover.order ls)) ls in
    let found = blocks_of (heard_front left) left in
    counters-many (length found) left (blocks-few (heard_front left) left) ∙ sym (by-position-many cover.order found)

pub counter-for-each : (s : List ℕ) (c : Contents) → reading s ≡ says c → length c.counters ≡ length c.blocks
unfolding contents
counter-for-each s c e =
    let cover = cover_in (cover_front (lines s)) in
    let front = mask_front cover.n cover.order (drop 1 (lines s)) in
    subst (λ (d : Contents). length d.counters ≡ length d.blocks) (accepted s c e).1
    (with-counters cover (mask_in front) (drop (masks_in front) (drop 1 (lines s))))

-- as many heard lines as counters and blocks
answers-many : (plate : Plate) (blocks : List (List ℤ)) (replies : List (Result Answer Refusal)) → BlockAnswers plate blocks replies → length replies ≡ length blocks
answers-many plate [] [] x = refl
answers-many plate [] (r ∷ rs) x = absurd x
answers-many plate (b ∷ bs) [] x = absurd x
answers-many plate (b ∷ bs) (r ∷ rs) x = ap suc (answers-many plate bs rs x.1)

heards-many : (counters : List ℕ) (blocks : List (List ℤ)) (replies : List (Result Answer Refusal)) → length counters ≡ length blocks → length replies ≡ length blocks
    → length (heards_of counters blocks replies) ≡ length blocks
heards-many [] [] replies e f = refl
heards-many [] (b ∷ bs) replies e f = absurd (omega arith)
heards-many (c ∷ cs) [] replies e f = absurd (omega arith)
heards-many (c ∷ cs) (b ∷ bs) [] e f = absurd (omega arith)
heards-many (c ∷ cs) (b ∷ bs) (r ∷ rs) e f = ap suc (heards-many cs bs rs (omega arith) (omega arith))

lines-before : (order : Order) (plate : Plate) (reference : Option ℕ) (hs : List Heard) (rest : List (List ℕ))
    → heard_lines order plate reference hs rest ≡ heard_lines order plate reference hs [] ++ rest
lines-before order plate reference [] rest = refl
lines-before order plate reference (h ∷ hs) rest =
    ap (λ (ls : List (List ℕ)). line_of_heard order plate reference h.counter h.reply ∷ ls)
    (lines-before order plate (reference_of reference h.counter h.reply) hs rest)

module _ (sheet : Contents) (plate : Plate) (as_many : length sheet.counters ≡ length sheet.blocks) where
  told-by : (lines : List (List ℕ)) → HeardsReport sheet.order plate (length sheet.blocks) at_first sheet.counters sheet.blocks lines
      → TallyTold sheet plate lines
  told-by lines h =
      let heards = heards_of sheet.counters sheet.blocks h.replies in record {
        replies = h.replies;
        answered = h.answered;
        before = heard_lines sheet.order plate None heards [];
        are = h.are ∙ lines-before sheet.order plate None heards _
            ∙ ap (λ (t : Tally). heard_lines sheet.order plate None heards [] ++ closing t (length sheet.blocks)) (none-plus (tally_of heards));
        together = Laws.together None heards
            ∙ heards-many sheet.counters sheet.blocks h.replies as_many (answers-many plate sheet.blocks h.replies h.answered);
      }

  -- past the plate's and the profile's line
  told-after : (lines : List (List ℕ)) → sheet.heard ≡ true → PreparedReports (Ok tt) plate sheet lines → TallyTold sheet plate lines
  told-after [] e x = absurd x
  told-after (k ∷ []) e x = absurd x.1
  told-after (k ∷ l ∷ ls) e x =
      let h = subst (λ (b : Bool). LinesReport b sheet.order plate (length sheet.blocks) at_first sheet.counters sheet.blocks ls) e x.1.1 in
      let t = told-by ls h in record {
        replies = t.replies;
        answered = t.answered;
        before = k ∷ l ∷ t.before;
        are = ap (λ (r : List (List ℕ)). k ∷ l ∷ r) t.are;
        together = t.together;
      }

-- the listing of an input that is a sheet of heard lines whose matrix is accepted: decoded, refused and repeated lines together are the number
-- that `end` prints
pub tally-of-bytes : (input : List ℕ) (lines : List (List ℕ)) → Reports input lines → (sheet : Contents) → reading input ≡ says sheet → sheet.heard ≡ true
    → (prepared : Prepared) → Prepares sheet.n sheet.kind sheet.rows sheet.mask prepared → prepared.verdict ≡ Ok tt
    → TallyTold sheet prepared.plate lines
tally-of-bytes input lines r sheet e heard prepared p a =
    let x : SheetReports sheet lines = subst (λ (found : Reading). ReportsAs found lines) e r.is in
    let d = prepare-determined sheet.n sheet.kind sheet.rows sheet.mask x.prepared prepared x.prepares p in
    let y : PreparedReports prepared.verdict prepared.plate sheet lines =
    subst (λ (q : Prepared). PreparedReports q.verdict q.plate sheet lines) d x.is in
    told-after sheet prepared.plate (counter-for-each input sheet e) lines heard
    (subst (λ (v : Result (Unit {0}) Refusal). PreparedReports v prepared.plate sheet lines) a y)
