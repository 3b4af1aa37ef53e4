-- Determined: two replies of `write_listing`, with all that is lent, that meet its promise are equal.
use Rattle.std.proofs.Common.{◌≡◌, ℕ, List, [], ◌∷◌, ◌++◌, length, drop, ℤ, sym, ap, ◌∙◌, subst, ap₂, Result, Ok, Err}
use Rattle.plates.proofs.PrepareDetermined.{prepare-determined}
use Rattle.plates.proofs.Refusing.{Single, never_both, refuses-once}
use Rattle.plates.specs.declared.Plate.{Plate}
use Rattle.plates.specs.declared.Prepared.{Prepared}
use Rattle.plates.specs.declared.Refusal.{Refusal}
use Rattle.sheets.specs.Sheet.{Reading, says, refused, reading}
use Rattle.reports.specs.Listing.{LeavesAs, Listed, PreparedLeaves, WritesListing, listing_conditions}
use Rattle.reports.specs.Remaining.{BlockLeaves, BlocksLeave, Rooms, rooms, untouched, zeroed}
use Rattle.reports.specs.Report.{block_conditions}
use Rattle.reports.proofs.ReportDetermined.{listing-determined}

-- ---- the working rooms

module _ (plate : Plate) where
  block-leaves-same : (samples : List ℤ) (before a b : Rooms) → BlockLeaves plate samples before a → BlockLeaves plate samples before b → a ≡ b
  block-leaves-same samples before a b (untouched q r x) (untouched p s y) = x ∙ sym y
  block-leaves-same samples before a b (untouched q r x) (zeroed p y) = absurd (never_both (block_conditions plate samples) p q r)
  block-leaves-same samples before a b (zeroed p x) (untouched q r y) = absurd (never_both (block_conditions plate samples) p q r)
  block-leaves-same samples before a b (zeroed p x) (zeroed q y) =
      ap₂ rooms (x.metrics_zero ∙ sym y.metrics_zero) (x.decisions_zero ∙ sym y.decisions_zero)

  blocks-leave-same : (blocks : List (List ℤ)) (before a b : Rooms) → BlocksLeave plate blocks before a → BlocksLeave plate blocks before b → a ≡ b
  blocks-leave-same [] before a b x y = x ∙ sym y
  blocks-leave-same (samples ∷ blocks) before a b (c, x, xs) (d, y, ys) =
      blocks-leave-same blocks c a b xs (subst (λ (r : Rooms). BlocksLeave plate blocks r b) (sym (block-leaves-same samples before c d x y)) ys)

prepared-leaves-same : (v : Result (Unit {0}) Refusal) (plate : Plate) (blocks : List (List ℤ)) (before a b : Rooms) → PreparedLeaves v plate blocks before a → PreparedLeaves v plate blocks before b → a ≡ b
prepared-leaves-same (Err q) plate blocks before a b x y = x ∙ sym y
prepared-leaves-same (Ok _) plate blocks before a b x y = blocks-leave-same plate blocks before a b x y

leaves-same : (found : Reading) (before a b : Rooms) → LeavesAs found before a → LeavesAs found before b → a ≡ b
leaves-same (refused q) before a b x y = x ∙ sym y
leaves-same (says c) before a b x y =
    let e = prepare-determined c.n c.kind c.rows c.mask y.prepared x.prepared y.prepares x.prepares in
    prepared-leaves-same x.prepared.verdict x.prepared.plate c.blocks before a b x.is
    (subst (λ (r : Prepared). PreparedLeaves r.verdict r.plate c.blocks before b) e y.is)

-- ---- the reply

module _ (input : List ℕ) (lent : Rooms) (listing : List ℕ) where
  abbrev conditions : List (Refusal → Type 0)
  conditions = listing_conditions input lent listing

  single : Single (listing_conditions input lent listing)
  single = ((λ p q x y. x.1 ∙ sym y.1), ((λ p q x y. x.1 ∙ sym y.1), ((λ p q x y. x.is ∙ sym y.is), tt)))

  listed_same : (s t : ℕ) (a b : Rooms) (c d : List ℕ) → Listed input lent listing a c s → Listed input lent listing b d t → (◌≡◌ {A = Result ℕ Refusal} (Ok s) (Ok t)) × (a ≡ b) × (c ≡ d)
  listed_same s t a b c d x y =
      let e = listing-determined input x.bytes y.bytes x.lists y.lists in (
        ap Ok (x.size_is ∙ ap length e ∙ sym y.size_is),
        leaves-same (reading input) lent a b x.working.is y.working.is,
        x.listing_is ∙ ap (λ (m : List ℕ). m ++ drop (length m) listing) e ∙ sym y.listing_is,
      )

  pub write-listing-determined : (r s : Result ℕ Refusal) (a b : Rooms) (c d : List ℕ) → WritesListing input lent listing a c r → WritesListing input lent listing b d s
      → (r ≡ s) × (a ≡ b) × (c ≡ d)
  write-listing-determined (Ok s) (Ok t) a b c d x y = listed_same s t a b c d x.1 y.1
  write-listing-determined (Ok s) (Err q) a b c d x y = absurd (never_both conditions x.0 q y.0)
  write-listing-determined (Err p) (Ok t) a b c d x y = absurd (never_both conditions y.0 p x.0)
  write-listing-determined (Err p) (Err q) a b c d x y =
      (ap Err (refuses-once conditions single p q x.0 y.0), x.1 ∙ sym y.1, x.2 ∙ sym y.2)
