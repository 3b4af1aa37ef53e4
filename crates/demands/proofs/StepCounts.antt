-- The counts that a call reports, over the trellis of a matrix that preparing accepts: they are what the steps counted, and the paper's formulas.
use Rattle.std.proofs.Common.{Ok}
use lib.IntN.{ℤ}
use lib.ListN.{length}
use mathlib.Core.List.{List}
use mathlib.Core.Path.{ap, subst, sym, ◌∙◌, ◌≡◌}
use Prim.Native.Nat.{◌+◌, ℕ}
use Rattle.decoding.proofs.BranchesCounted.{additions-formula, comparisons-formula, counted-by-steps}
use Rattle.decoding.specs.Backward.{counted}
use Rattle.decoding.specs.declared.Counts.{Counts}
use Rattle.decoding.specs.Totals.{branch_total, doubled_total, entering_less_one, state_total}
use Rattle.plates.specs.declared.Kind.{Kind}
use Rattle.plates.specs.declared.Prepared.{Prepared}
use Rattle.plates.specs.Prepare.{IsPrepared, Prepares, rows_of}
use Rattle.trellises.proofs.AcceptedIsPrepared.{accepted-length, accepted-prepared}
use Rattle.trellises.specs.Branching.{trellis_of}
use Rattle.trellises.specs.SectionOf.{section_of}

module _ (n : ℕ) (kind : Kind) (rows : List ℕ) (mask : ℕ) (r : Prepared) (p : Prepares n kind rows mask r) (e : r.verdict ≡ Ok tt)
    (samples : List ℤ) (size : length samples ≡ r.plate.n) (k : Counts) (added : k.additions ≡ branch_total (trellis_of r.plate) r.plate.n)
    (compared : k.comparisons ≡ entering_less_one (trellis_of r.plate) r.plate.n) where
  given : IsPrepared r.plate
  given = accepted-prepared n kind rows mask r p e

  -- they are what the steps counted, one section after the other
  pub counted-in-steps : k ≡ counted (section_of (rows_of r.plate)) samples 0
  counted-in-steps = counted-by-steps r.plate given samples size k added compared

  -- one addition for each branch
  pub steps-additions : k.additions ≡ branch_total (trellis_of r.plate) n
  steps-additions = added ∙ ap (branch_total (trellis_of r.plate)) (accepted-length n kind rows mask r p e)

  -- for each state past the start one comparison fewer than the branches entering it
  pub steps-comparisons : k.comparisons ≡ entering_less_one (trellis_of r.plate) n
  steps-comparisons = compared ∙ ap (entering_less_one (trellis_of r.plate)) (accepted-length n kind rows mask r p e)

  -- the paper's formula of the additions
  pub steps-additions-formula : k.additions ≡ doubled_total (rows_of r.plate) n
  steps-additions-formula =
      ap (λ (c : Counts). c.additions) counted-in-steps
      ∙ additions-formula r.plate given samples size ∙ ap (doubled_total (rows_of r.plate)) (accepted-length n kind rows mask r p e)

  -- and of the comparisons
  pub steps-comparisons-formula : k.comparisons + state_total (rows_of r.plate) n ≡ k.additions
  steps-comparisons-formula =
      subst (λ (m : ℕ). k.comparisons + state_total (rows_of r.plate) m ≡ k.additions) (accepted-length n kind rows mask r p e)
      (subst (λ (c : Counts). c.comparisons + state_total (rows_of r.plate) r.plate.n ≡ c.additions) (sym counted-in-steps)
      (comparisons-formula r.plate given samples size))
