-- Two lists of lines that an input reports are equal, and so are two listings of it.
use Rattle.decoding.specs.declared.Answer.{Answer}
use Rattle.std.proofs.Common.{◌≡◌, ℕ, Bool, true, false, List, [], ◌∷◌, ◌++◌, length, drop, replicate, ℤ, pos, sym, refl, ap, ◌∙◌, subst, ap₂, inl, inr, arith, Result, Ok, Err}
use lib.ListN.{length-replicate}
use Rattle.plates.proofs.PrepareDetermined.{prepare-determined}
use Rattle.plates.specs.declared.Plate.{Plate}
use Rattle.plates.specs.declared.Prepared.{Prepared}
use Rattle.plates.specs.declared.Refusal.{Refusal}
use Rattle.plates.specs.Prepare.{IsPrepared, Prepares}
use Rattle.plates.specs.Refusals.{Refuses}
use Rattle.trellises.proofs.AcceptedIsPrepared.{accepted-prepared}
use Rattle.decoding.proofs.DecodeDetermined.{decode-determined}
use Rattle.decoding.specs.Decode.{Decodes, decision_need, decode_conditions, metric_need}
use Rattle.sheets.specs.declared.Order.{Order}
use Rattle.sheets.specs.Sheet.{Contents, Reading, says, refused, reading}
use Rattle.reports.specs.declared.tally.Kept.{Kept}
use Rattle.reports.specs.Tally.{heards_of, plus, tally_from}
use Rattle.reports.specs.Report.{BlockAnswer, BlockAnswers, BlockLine, BlocksReport, LinesReport, Lists, PlateReports, PreparedReports, ProfileReports, Reports, ReportsAs, at_first, block_conditions, closing, heard_lines, joined, line_of, refused_block, word_of_block}

-- ---- the line of a block

module _ (order : Order) (plate : Plate) (prepared : IsPrepared plate) (samples : List ℤ) where
  -- working rooms that are just long enough
  abbrev metrics : List ℤ
  metrics = replicate (metric_need plate) (pos 0)

  abbrev decisions : List ℕ
  decisions = replicate (decision_need plate) 0

  -- a block's line is what decoding in these rooms gives
  record InRooms (line : List ℕ) : Type 0 where
    decoded : Result Answer Refusal
    metrics' : List ℤ
    decisions' : List ℕ
    decodes : Decodes plate samples metrics decisions metrics' decisions' decoded
    is : line ≡ line_of order plate decoded

  refuses : (q : Refusal) → Refuses (block_conditions plate samples) q → Refuses (decode_conditions plate samples metrics decisions) q
  refuses q (inl x) = inr ((λ p n. n.0 prepared), inl x)
  refuses q (inr (n, inl x)) = inr ((λ p m. m.0 prepared), inr (n, inl x))
  refuses q (inr (n, inr x)) = absurd x.1

  in-rooms : (line : List ℕ) → BlockLine order plate samples line → InRooms line
  in-rooms line (refused_block q r e) = record { decoded = Err q; metrics' = metrics; decisions' = decisions; decodes = (refuses q r, refl, refl); is = e }
  in-rooms line (word_of_block a p b e) = record {
    decoded = Ok a;
    metrics' = replicate (metric_need plate) (pos 0) ++ drop (metric_need plate) metrics;
    decisions' = replicate (decision_need plate) 0 ++ drop (decision_need plate) decisions;
    decodes = (
      (
        (λ q n. n.0 prepared),
        (
          p.0,
          (
            p.1.0,
            (
              (λ q n. omega (arith, n.0, length-replicate {A = ℤ} (metric_need plate) (pos 0))),
              ((λ q n. omega (arith, n.0, length-replicate {A = ℕ} (decision_need plate) 0)), tt),
            ),
          ),
        ),
      ),
      b,
      record { metrics_zero = refl; decisions_zero = refl },
    );
    is = e;
  }

  decodes-as : (d : Result Answer Refusal) → BlockAnswer plate samples d → (m : List ℤ) × (k : List ℕ) × Decodes plate samples metrics decisions m k d
  unfolding in-rooms
  decodes-as (Err q) x = (metrics, decisions, (refuses q x, refl, refl))
  decodes-as (Ok a) x =
      let r = in-rooms (line_of order plate (Ok a)) (word_of_block a x.0 x.1 refl) in
      (r.metrics', r.decisions', r.decodes)

  -- a block has one answer
  pub reply-determined : (d e : Result Answer Refusal) → BlockAnswer plate samples d → BlockAnswer plate samples e → d ≡ e
  reply-determined d e x y =
      let p = decodes-as d x in
      let q = decodes-as e y in
      (decode-determined plate samples metrics decisions d e _ _ _ _ p.2 q.2).0

  block-line-determined : (a b : List ℕ) → BlockLine order plate samples a → BlockLine order plate samples b → a ≡ b
  block-line-determined a b x y =
      let p = in-rooms a x in
      let q = in-rooms b y in
      p.is
      ∙ ap (line_of order plate) (decode-determined plate samples metrics decisions p.decoded q.decoded _ _ _ _ p.decodes q.decodes).0
      ∙ sym q.is

-- ---- all lines

both : {a b : List ℕ} {ks ls : List (List ℕ)} → a ≡ b → ks ≡ ls → ◌≡◌ {A = List (List ℕ)} (a ∷ ks) (b ∷ ls)
both e f = ap₂ (λ (x : List ℕ) (xs : List (List ℕ)). x ∷ xs) e f

module _ (order : Order) (plate : Plate) (prepared : IsPrepared plate) (count : ℕ) where
  blocks-determined : (blocks : List (List ℤ)) (a b : List (List ℕ)) → BlocksReport order plate count blocks a → BlocksReport order plate count blocks b → a ≡ b
  blocks-determined [] a b x y = x ∙ sym y
  blocks-determined (samples ∷ blocks) [] b x y = absurd x
  blocks-determined (samples ∷ blocks) (k ∷ ks) [] x y = absurd y
  blocks-determined (samples ∷ blocks) (k ∷ ks) (l ∷ ls) x y =
      both (block-line-determined order plate prepared samples k l x.0 y.0) (blocks-determined blocks ks ls x.1 y.1)

  -- the blocks of a sheet have one answer each
  replies-determined : (blocks : List (List ℤ)) (a b : List (Result Answer Refusal)) → BlockAnswers plate blocks a → BlockAnswers plate blocks b → a ≡ b
  replies-determined [] [] [] x y = refl
  replies-determined [] [] (e ∷ b) x y = absurd y
  replies-determined [] (d ∷ a) b x y = absurd x
  replies-determined (samples ∷ blocks) [] b x y = absurd x
  replies-determined (samples ∷ blocks) (d ∷ a) [] x y = absurd y
  replies-determined (samples ∷ blocks) (d ∷ a) (e ∷ b) x y =
      ap₂ (λ (r : Result Answer Refusal) (rs : List (Result Answer Refusal)). r ∷ rs) (reply-determined order plate prepared samples d e x.0 y.0) (replies-determined blocks a b x.1 y.1)

  lines-determined : (heard : Bool) (kept : Kept) (counters : List ℕ) (blocks : List (List ℤ)) (a b : List (List ℕ)) → LinesReport heard order plate count kept counters blocks a
      → LinesReport heard order plate count kept counters blocks b → a ≡ b
  lines-determined false kept counters blocks a b x y = blocks-determined blocks a b x y
  lines-determined true kept counters blocks a b x y =
      x.are
      ∙ ap (λ (replies : List (Result Answer Refusal)). heard_lines order plate kept.reference (heards_of counters blocks replies)
      (closing (plus kept.tally (tally_from kept.reference (heards_of counters blocks replies))) count)) (replies-determined blocks x.replies y.replies x.answered y.answered)
      ∙ sym y.are

-- the plate line and the profile line come before lines that are determined
abbrev Once : (List (List ℕ) → Type 0) → Type 0
Once Rest = (a b : List (List ℕ)) → Rest a → Rest b → a ≡ b

profile-determined : (plate : Plate) (Rest : List (List ℕ) → Type 0) → Once Rest → Once (ProfileReports plate Rest)
profile-determined plate Rest once [] b x y = absurd x
profile-determined plate Rest once (k ∷ ks) [] x y = absurd y
profile-determined plate Rest once (k ∷ ks) (l ∷ ls) x y = both (x.0 ∙ sym y.0) (once ks ls x.1 y.1)

plate-determined : (plate : Plate) (Rest : List (List ℕ) → Type 0) → Once Rest → Once (PlateReports plate Rest)
plate-determined plate Rest once [] b x y = absurd x
plate-determined plate Rest once (k ∷ ks) [] x y = absurd y
plate-determined plate Rest once (k ∷ ks) (l ∷ ls) x y = both (x.0 ∙ sym y.0) (profile-determined plate Rest once ks ls x.1 y.1)

module _ (sheet : Contents) (r : Prepared) (p : Prepares sheet.n sheet.kind sheet.rows sheet.mask r) where
  prepared-determined : (v : Result (Unit {0}) Refusal) → r.verdict ≡ v → (a b : List (List ℕ)) → PreparedReports v r.plate sheet a → PreparedReports v r.plate sheet b → a ≡ b
  prepared-determined (Err q) e a b x y = x ∙ sym y
  prepared-determined (Ok _) e a b x y =
      plate-determined r.plate _
      (lines-determined sheet.order r.plate (accepted-prepared sheet.n sheet.kind sheet.rows sheet.mask r p e) (length sheet.blocks) sheet.heard at_first sheet.counters sheet.blocks)
      a b x y

by-reading : (found : Reading) (a b : List (List ℕ)) → ReportsAs found a → ReportsAs found b → a ≡ b
by-reading (refused q) a b x y = x ∙ sym y
by-reading (says sheet) a b x y =
    let e = prepare-determined sheet.n sheet.kind sheet.rows sheet.mask y.prepared x.prepared y.prepares x.prepares in
    prepared-determined sheet x.prepared x.prepares x.prepared.verdict refl a b x.is
    (subst (λ (r : Prepared). PreparedReports r.verdict r.plate sheet b) e y.is)

-- an input has one list of lines
pub report-determined : (input : List ℕ) (a b : List (List ℕ)) → Reports input a → Reports input b → a ≡ b
report-determined input a b x y = by-reading (reading input) a b x.is y.is

-- and one listing
pub listing-determined : (input a b : List ℕ) → Lists input a → Lists input b → a ≡ b
listing-determined input a b x y = x.bytes ∙ ap joined (report-determined input x.lines y.lines x.reports y.reports) ∙ sym y.bytes
