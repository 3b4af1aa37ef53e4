-- The replies of `write_listing`, case by case.
use Rattle.std.proofs.Common.{◌≡◌, ℕ, ◌/◌, ◌<◌, ◌≤◌, List, length, sym, refl, ◌∙◌, subst, inl, inr, arith, Ok, Err}
use Rattle.plates.specs.declared.Refusal.{Refusal}
use Rattle.plates.specs.declared.Refusal.TheVariants.{DecisionRoom, LineRoom, MetricRoom}
use Rattle.sheets.specs.Sheet.{reading}
use Rattle.reports.specs.declared.Report.{Report}
use Rattle.reports.specs.Listing.{BeforeLines, LinesAdded, ListingShort, WritesListing}
use Rattle.reports.specs.Remaining.{Rooms, count_at, lines_left}
use Rattle.reports.specs.Steps.{Opens}
use Rattle.reports.proofs.OpenedReports.{open-count, open-leaves, open-ready, open-reports, open-small}
use Rattle.reports.proofs.StepDetermined.{open-determined}

module _ (input : List ℕ) (lent : Rooms) (listing : List ℕ) where
  pub refused-8 : length lent.metrics < 8192 → WritesListing input lent listing lent listing (Err MetricRoom)
  refused-8 h = (inl (h, refl), refl, refl)

  module _ (metrics : 8192 ≤ length lent.metrics) where
    pub refused-9 : length lent.decisions < 4096 → WritesListing input lent listing lent listing (Err DecisionRoom)
    refused-9 h = (inr ((λ q b. omega (arith, b.0, metrics)), inl (h, refl)), refl, refl)

    module _ (decisions : 4096 ≤ length lent.decisions) (report : Report) (opens : Opens input report) where
      -- the blocks are few enough to be counted
      pub few-blocks : report.blocks ≤ 32769
      few-blocks = open-small input (reading input) refl report opens.is

      module _ (lines : ℕ) (count : lines ≡ count_at report.stage report.heard report.blocks) where
        -- so many lines are left
        lines_are : lines_left input report ≡ lines
        lines_are = open-count input (reading input) refl report opens.is ∙ sym count

        pub refused-11 : length listing / 256 < lines → WritesListing input lent listing lent listing (Err LineRoom)
        refused-11 h = (
          inr ((λ q b. omega (arith, b.0, metrics)), inr ((λ q b. omega (arith, b.0, decisions)), inl (record { report = report; opens = opens; short = omega (arith, lines_are); is = refl }))),
          refl,
          refl,
        )

        module _ (room : lines ≤ length listing / 256) where
          pub before-lines : BeforeLines input report lines lent listing
          before-lines = record {
            ready = open-ready input (reading input) refl report opens.is;
            count = lines_are;
            room = omega arith;
            metrics = metrics;
            decisions = decisions;
          }

          long-enough : (q : Refusal) → ListingShort input listing q → ⊥
          long-enough q b =
              let e : lines_left input b.report ≡ lines
              = subst (λ (r : Report). lines_left input r ≡ lines) (open-determined input report b.report opens b.opens) lines_are in
              omega (arith, b.short, e)

          pub listed : (left : Rooms) (listing' : List ℕ) (size : ℕ) → LinesAdded input report lent listing left listing' size
              → WritesListing input lent listing left listing' (Ok size)
          listed left listing' size a = (
            ((λ q b. omega (arith, b.0, metrics)), ((λ q b. omega (arith, b.0, decisions)), (long-enough, tt))),
            record {
              bytes = _;
              lists = record {
                lines = a.lines;
                reports = record { is = open-reports input (reading input) refl report a.lines opens.is a.are };
                bytes = refl;
              };
              size_is = a.size_is;
              listing_is = a.listing_is;
              working = record { is = open-leaves input (reading input) refl report lent left opens.is a.working };
            },
          )
