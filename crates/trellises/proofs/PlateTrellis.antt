-- The trellis of a prepared plate's code spells exactly the codewords, and no layered graph for the code has fewer states at any depth or
-- fewer branches in any section. WordsTrellis has the same of the plate's words.
use lib.ListN.{get_or, length}
use mathlib.Core.List.{List}
use mathlib.Core.Path.{ap, refl, subst, sym, ◌∙◌, ◌≡◌}
use native.Mathlib.Decide.{dec_lt}
use native.Mathlib.Nat.{le_refl, pow-succ'}
use native.Mathlib.Omega.{arith}
use Prim.Native.Nat.{◌*◌, ◌<◌, ◌^◌, zero-le, ℕ, ◌≤◌}
use Rattle.plates.proofs.SoundIsPrepared.{sound, used-row, used-rows}
use Rattle.plates.specs.declared.Plate.{Plate}
use Rattle.plates.specs.Prepare.{IsPrepared, rows_of}
use Rattle.plates.specs.Profile.{live_at}
use Rattle.trellises.proofs.ActiveNumber.{active-more, active-same}
use Rattle.trellises.proofs.NoneSmaller.{branches-bound, states-bound}
use Rattle.trellises.proofs.PathsOnce.{branches-differ, paths-once}
use Rattle.trellises.proofs.TrellisSpells.{Kept, own-branches, trellis-spells}
use Rattle.trellises.specs.Branching.{code_trellis, kept_to}
use Rattle.trellises.specs.Graph.{Branch, Graph, Path, Spells}
use Rattle.trellises.specs.Smallest.{Begins, Different, HasAll, Smallest, active_at}
use Rattle.words.proofs.Span.{zero_one}
use Rattle.words.proofs.Word.{bits_below}
use Rattle.words.specs.Ends.{firsts, lasts}
use Rattle.words.specs.Span.{Spans}
use Rattle.words.specs.Sum.{IsSum}

-- full paths begin and end in state 0
pub full-path-ends : (g : Graph) (n : ℕ) (C : ℕ → Type 0) → Spells g n C → (w : ℕ) (p : Path g n w) → (p.state 0 ≡ 0) × (p.state n ≡ 0)
full-path-ends g n C s w p = (omega (arith, s.start, p.inside 0 zero-le), omega (arith, s.end, p.inside n (le_refl n)))

module _ (plate : Plate) (given : IsPrepared plate) where
  pub plate-spans : Spans (rows_of plate) (firsts (rows_of plate)) (lasts (rows_of plate))
  plate-spans = (sound given).reduced.spans

  -- the last ones are below n
  pub plate-fits : (j : ℕ) → j < length (rows_of plate) → lasts (rows_of plate) j < plate.n
  plate-fits j k = go (dec_lt (lasts (rows_of plate) j) plate.n)
    where
      row : get_or (rows_of plate) j 0 < 2 ^ plate.n
      row =
          let m : j < plate.k = omega (arith, used-rows plate (sound given).few (sound given).table) in
          subst (λ (x : ℕ). x < 2 ^ plate.n) (sym (used-row plate j m)) ((sound given).below j m)

      go : Dec (lasts (rows_of plate) j < plate.n) → lasts (rows_of plate) j < plate.n
      go (yes a) = a
      go (no a) = absurd (zero_one (bits_below plate.n (get_or (rows_of plate) j 0) row (lasts (rows_of plate) j) (omega arith)) (plate-spans.last j k).one)

  -- so no row has a one behind the position up to which it is kept, which is below n
  pub plate-kept : Kept (rows_of plate) (firsts (rows_of plate)) (kept_to plate)
  plate-kept = record {
    first = plate-spans.first;
    rising = plate-spans.rising;
    behind = λ j k i b. (plate-spans.last j k).zeros i (omega (arith, plate-fits j k, b));
  }

  pub plate-within : (j : ℕ) → j < length (rows_of plate) → kept_to plate j < plate.n
  plate-within j k = omega (arith, plate-fits j k)

  -- full paths spell exactly the codewords
  pub plate-spells : Spells (code_trellis plate) plate.n (IsSum (rows_of plate))
  plate-spells = trellis-spells plate.n (rows_of plate) _ _ plate-kept plate-within

  -- which begins and ends in state 0
  pub plate-path-ends : (w : ℕ) (p : Path (code_trellis plate) plate.n w) → (p.state 0 ≡ 0) × (p.state plate.n ≡ 0)
  plate-path-ends = full-path-ends (code_trellis plate) plate.n (IsSum (rows_of plate)) plate-spells

  -- depth t has 2 ^ s(t) states
  pub states-number : (t : ℕ) → (code_trellis plate).states t ≡ 2 ^ live_at (rows_of plate) t
  states-number t = refl

  -- and no graph for the code has fewer there
  pub states-minimal : (g : Graph) → Spells g plate.n (IsSum (rows_of plate)) → (t : ℕ) → t ≤ plate.n → 2 ^ live_at (rows_of plate) t ≤ g.states t
  states-minimal g = states-bound g plate.n (rows_of plate) _ _ plate-spans

  -- section t has a branch for each choice among the active rows
  pub branches-number : (t : ℕ) → length ((code_trellis plate).branches t) ≡ 2 ^ active_at (rows_of plate) t
  branches-number = own-branches plate.n (rows_of plate) _ _ plate-kept plate-within

  -- all different
  pub branches-different : (t : ℕ) → Different (code_trellis plate) t
  branches-different = branches-differ (rows_of plate) _ _ plate-kept

  -- and no graph for the code has fewer there, counting each once
  pub branches-minimal : (g : Graph) → Spells g plate.n (IsSum (rows_of plate)) → (t : ℕ) → t < plate.n → (once : List Branch) → HasAll g t once
      → 2 ^ active_at (rows_of plate) t ≤ length once
  branches-minimal g = branches-bound g plate.n (rows_of plate) _ _ plate-spans

  -- that number is 2 ^ s(t), doubled where a row begins at t
  pub branches-doubled : (t : ℕ) → Begins (rows_of plate) t → 2 ^ active_at (rows_of plate) t ≡ 2 * 2 ^ live_at (rows_of plate) t
  branches-doubled t b =
      ap (λ (x : ℕ). 2 ^ x) (active-more (rows_of plate) _ _ plate-spans t b.row b.there b.here) ∙ pow-succ' 2 (live_at (rows_of plate) t)

  -- and just 2 ^ s(t) where none begins
  pub branches-single : (t : ℕ) → (Begins (rows_of plate) t → ⊥) → 2 ^ active_at (rows_of plate) t ≡ 2 ^ live_at (rows_of plate) t
  branches-single t none =
      ap (λ (x : ℕ). 2 ^ x) (active-same (rows_of plate) _ _ plate-spans t (λ j k e. none (record { row = j; there = k; here = e })))

  -- so none has fewer states than the trellis at any depth
  pub states_least : (other : Graph) → Spells other plate.n (IsSum (rows_of plate)) → (t : ℕ) → t ≤ plate.n
      → (code_trellis plate).states t ≤ other.states t
  states_least = states-minimal

  -- or fewer branches in any section
  pub branches_least : (other : Graph) → Spells other plate.n (IsSum (rows_of plate)) → (t : ℕ) → t < plate.n → (once : List Branch)
      → HasAll other t once → length ((code_trellis plate).branches t) ≤ length once
  branches_least other r t h once all =
      subst (λ (x : ℕ). x ≤ length once) (sym (own-branches plate.n (rows_of plate) _ _ plate-kept plate-within t))
      (branches-minimal other r t h once all)

  -- all of it
  pub plate-smallest : Smallest (code_trellis plate) plate.n (IsSum (rows_of plate))
  plate-smallest = record {
    spells = plate-spells;
    once = paths-once (rows_of plate) _ _ plate-kept plate.n;
    different = branches-different;
    states_least = states_least;
    branches_least = branches_least;
  }
