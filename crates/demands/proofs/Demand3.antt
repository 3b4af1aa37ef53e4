-- Demand 3: no layered graph for the same code in the same order has fewer states at any depth or fewer branches in any section. Decoding
-- reports one addition for each branch, and for each state past the start one comparison fewer than the branches entering it, as counted
-- by the steps themselves. "Code" is read as the words of the plate (document 02, A11).
use Rattle.std.proofs.Common.{Ok}
use lib.IntN.{ℤ}
use lib.ListN.{length}
use mathlib.Core.List.{List}
use mathlib.Core.Path.{◌≡◌}
use Prim.Native.Nat.{◌+◌, ◌<◌, ℕ, ◌≤◌}
use Rattle.decoding.proofs.SampleLimits.{samples-are-n}
use Rattle.decoding.specs.Backward.{counted}
use Rattle.decoding.specs.declared.Answer.{Answer}
use Rattle.decoding.specs.Decode.{Decodes}
use Rattle.decoding.specs.Totals.{branch_total, doubled_total, entering_less_one, state_total}
use Rattle.demands.proofs.StepCounts.{counted-in-steps, steps-additions, steps-additions-formula, steps-comparisons, steps-comparisons-formula}
use Rattle.plates.specs.Code.{InCode, Masked}
use Rattle.plates.specs.declared.Kind.{Kind}
use Rattle.plates.specs.declared.Prepared.{Prepared}
use Rattle.plates.specs.Prepare.{Prepares, rows_of}
use Rattle.trellises.proofs.WordsTrellis.{matrix-smallest}
use Rattle.trellises.specs.Branching.{trellis_of}
use Rattle.trellises.specs.Graph.{Branch, Graph, Spells}
use Rattle.trellises.specs.SectionOf.{section_of}
use Rattle.trellises.specs.Smallest.{Different, HasAll}

-- A matrix as G or H and a mask, and what preparing them replies where it accepts. The words are those that the mask makes of the matrix's own code
module _ (n : ℕ) (kind : Kind) (rows : List ℕ) (mask : ℕ) (r : Prepared) (p : Prepares n kind rows mask r) (e : r.verdict ≡ Ok tt) where
  -- ---- no graph is smaller

  -- any layered graph whose full paths spell these words
  module _ (other : Graph) (s : Spells other n (Masked (InCode kind n rows) mask)) where
    -- has at least as many states at each depth
    pub no-fewer-states : (t : ℕ) → t ≤ n → (trellis_of r.plate).states t ≤ other.states t
    no-fewer-states = (matrix-smallest n kind rows mask r p e).states_least other s

    -- and at least as many branches in each section, counting each of its own once
    pub no-fewer-branches : (t : ℕ) → t < n → (once : List Branch) → HasAll other t once → length ((trellis_of r.plate).branches t) ≤ length once
    no-fewer-branches = (matrix-smallest n kind rows mask r p e).branches_least other s

  -- while those of the trellis are all different
  pub own-branches-differ : (t : ℕ) → Different (trellis_of r.plate) t
  own-branches-differ = (matrix-smallest n kind rows mask r p e).different

  -- ---- the counts that decoding reports

  module _ (samples metrics metrics' : List ℤ) (decisions decisions' : List ℕ) (a : Answer)
      (d : Decodes r.plate samples metrics decisions metrics' decisions' (Ok a)) where
    size : length samples ≡ r.plate.n
    size = samples-are-n r.plate samples d.0.1.0

    -- they are what the steps counted, one section after the other
    pub counts-are-of-steps : a.counts ≡ counted (section_of (rows_of r.plate)) samples 0
    counts-are-of-steps = counted-in-steps n kind rows mask r p e samples size a.counts d.1.additions d.1.comparisons

    -- one addition for each branch
    pub addition-for-each-branch : a.counts.additions ≡ branch_total (trellis_of r.plate) n
    addition-for-each-branch = steps-additions n kind rows mask r p e samples size a.counts d.1.additions d.1.comparisons

    -- for each state past the start one comparison fewer than the branches entering it
    pub comparison-for-each-entering-less-one : a.counts.comparisons ≡ entering_less_one (trellis_of r.plate) n
    comparison-for-each-entering-less-one = steps-comparisons n kind rows mask r p e samples size a.counts d.1.additions d.1.comparisons

    -- as the paper's formulas say: additions are the sum of 2 ^ s(t) over t from 0 to n - 1, doubled where a row begins at t
    pub additions-by-formula : a.counts.additions ≡ doubled_total (rows_of r.plate) n
    additions-by-formula = steps-additions-formula n kind rows mask r p e samples size a.counts d.1.additions d.1.comparisons

    -- and comparisons are additions less the sum of 2 ^ s(t) for t from 1 to n
    pub comparisons-by-formula : a.counts.comparisons + state_total (rows_of r.plate) n ≡ a.counts.additions
    comparisons-by-formula = steps-comparisons-formula n kind rows mask r p e samples size a.counts d.1.additions d.1.comparisons
