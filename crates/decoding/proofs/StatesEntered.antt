-- Every state past the start has a branch entering it, so that one fewer than those, over all such states, come to the branches less the
-- states.
use lib.ListN.{length}
use mathlib.Core.Bool.{Bool}
use mathlib.Core.Path.{ap, refl, subst, sym, ◌∙◌, ◌≡◌}
use native.Mathlib.Omega.{arith}
use Prim.Native.Nat.{◌+◌, ◌-◌, ◌<◌, ◌^◌, suc, ℕ, ◌≤◌}
use Rattle.decoding.proofs.SumsAdded.{leading-some, leading-total, total-add, total-equal, total-next}
use Rattle.decoding.specs.Totals.{branch_total, entering, entering_less_one, state_total, total}
use Rattle.plates.specs.declared.Plate.{Plate}
use Rattle.plates.specs.Prepare.{IsPrepared, rows_of}
use Rattle.plates.specs.Profile.{live, live_at}
use Rattle.trellises.proofs.MaskedGraph.{has_on, masked-branch}
use Rattle.trellises.proofs.PathsOnce.{path-state}
use Rattle.trellises.proofs.PlateTrellis.{branches-number, plate-spans, plate-spells}
use Rattle.trellises.proofs.TrellisSpells.{table_at}
use Rattle.trellises.proofs.WordsTrellis.{words-branches}
use Rattle.trellises.specs.Branching.{code_trellis, trellis_of}
use Rattle.trellises.specs.Graph.{Branch, Graph, Path, branch_at}
use Rattle.trellises.specs.Smallest.{active_at}
use Rattle.words.proofs.Choice.{gather-lt, spread-gather, spread-injective}
use Rattle.words.specs.Choice.{count, gather, spread}
use Rattle.words.specs.Ends.{firsts, lasts}
use Rattle.words.specs.Sum.{sum_of}

-- ---- in a graph whose branches lead to states, each of which has one entering it

module _ (g : Graph) (n : ℕ)
    (inside : (t : ℕ) → t < n → (i : ℕ) → i < length (g.branches t) → (branch_at g t i).to < g.states (suc t))
    (entered : (t : ℕ) → t < n → (j : ℕ) → j < g.states (suc t) → 1 ≤ entering g t j) where
  -- in one section
  section-entering : (t : ℕ) → t < n → total 0 (g.states (suc t)) (λ j. entering g t j - 1) + g.states (suc t) ≡ length (g.branches t)
  section-entering t h =
      omega (
        arith,
        total-add (λ j. entering g t j - 1) (λ j. 1) (entering g t) 0 (g.states (suc t)) (λ j a b. (let e : 1 ≤ entering g t j = entered t h j (omega arith) in omega arith)),
        total-equal 1 0 (g.states (suc t)),
        leading-total (g.branches t) (g.states (suc t)) (inside t h),
      )

  -- in all
  pub entering-branches : entering_less_one g n + total 1 n g.states ≡ branch_total g n
  entering-branches =
      ap (λ (x : ℕ). entering_less_one g n + x) (sym (total-next g.states 0 n))
      ∙ total-add _ (λ t. g.states (suc t)) (λ t. length (g.branches t)) 0 n (λ t a b. section-entering t (omega arith))

-- ---- in the trellis of a prepared plate

-- digits put to the places that pass, and gathered again
gather-spread : (k : ℕ) (P : ℕ → Bool) (v : ℕ) → v < 2 ^ count k P → gather k P (spread k P v) ≡ v
gather-spread k P v h = spread-injective k P _ v (gather-lt k P (spread k P v)) h (spread-gather k P (spread k P v))

module _ (plate : Plate) (given : IsPrepared plate) where
  -- every state lies on the path of a codeword: of the sum of the live rows that its digits say
  state_used : (t j : ℕ) → t ≤ plate.n → j < (code_trellis plate).states t → (w : ℕ) × (p : Path (code_trellis plate) plate.n w) × (p.state t ≡ j)
  state_used t j h k =
      let u : ℕ = spread (length (rows_of plate)) (live (firsts (rows_of plate)) (lasts (rows_of plate)) t) j in
      let p = (((plate-spells plate given).exact (sum_of (rows_of plate) u)).0 (record { by = u; sum = refl })).1 in
      (sum_of (rows_of plate) u, p, path-state (rows_of plate) _ _ (plate-spans plate given) plate.n u p t h ∙ gather-spread (length (rows_of plate)) _ j k)

  -- so every state past the start has a branch entering it
  pub state-entered : (t : ℕ) → t < plate.n → (j : ℕ) → j < (trellis_of plate).states (suc t) → 1 ≤ entering (trellis_of plate) t j
  state-entered t h j k =
      let p = state_used (suc t) j h k in
      let b = has_on plate.mask (code_trellis plate) (p.1.branch t h) in
      leading-some ((trellis_of plate).branches t) j b.place b.there (b.leads ∙ p.2)

  -- a branch leads to a state
  branch_leads : (t : ℕ) → t < plate.n → (i : ℕ) → i < length ((trellis_of plate).branches t) → (branch_at (trellis_of plate) t i).to < (trellis_of plate).states (suc t)
  branch_leads t h i k =
      let l : i < 2 ^ active_at (rows_of plate) t = omega (arith, words-branches plate given t) in
      let m : i < length ((code_trellis plate).branches t) = omega (arith, branches-number plate given t) in
      subst (λ (b : Branch). b.to < 2 ^ live_at (rows_of plate) (suc t)) (sym (masked-branch plate.mask (code_trellis plate) t i m))
      (subst (λ (b : Branch). b.to < 2 ^ live_at (rows_of plate) (suc t)) (sym (table_at (2 ^ active_at (rows_of plate) t) _ i l)) (gather-lt (length (rows_of plate)) _ _))

  -- the branches entering less one come to the branches less the states
  pub plate-entering : entering_less_one (trellis_of plate) plate.n + state_total (rows_of plate) plate.n ≡ branch_total (trellis_of plate) plate.n
  plate-entering = entering-branches (trellis_of plate) plate.n branch_leads state-entered
