-- The trellis of a prepared plate spells exactly the plate's words, each once, and no layered graph for these words has fewer states at any
-- depth or fewer branches in any section; the same of the plate that preparing a matrix and a mask accepts.
use Rattle.std.proofs.Common.{Ok}
use lib.Bits.{bit_xor}
use lib.ListN.{length}
use mathlib.Core.List.{List}
use mathlib.Core.Logic.Iff
use mathlib.Core.Logic.{◌↔◌}
use mathlib.Core.Path.{refl, subst, sym, ◌∙◌, ◌≡◌}
use Prim.Native.Nat.{◌^◌, ℕ}
use Rattle.plates.proofs.SoundIsPrepared.{sound}
use Rattle.plates.specs.Code.{InCode, Masked}
use Rattle.plates.specs.declared.Kind.{Kind}
use Rattle.plates.specs.declared.Plate.{Plate}
use Rattle.plates.specs.declared.Prepared.{Prepared}
use Rattle.plates.specs.Prepare.{IsPrepared, IsWord, Prepares, rows_of}
use Rattle.plates.specs.Profile.{live_at}
use Rattle.trellises.proofs.AcceptedIsPrepared.{accepted-code, accepted-length, accepted-mask, accepted-prepared}
use Rattle.trellises.proofs.MaskedGraph.{masked-branches, once-masked, proper-masked, smallest-masked}
use Rattle.trellises.proofs.PathsOnce.{paths-once}
use Rattle.trellises.proofs.PlateTrellis.{branches-number, full-path-ends, plate-kept, plate-smallest}
use Rattle.trellises.proofs.ProperTrellis.{plate-proper}
use Rattle.trellises.specs.Branching.{code_trellis, trellis_of}
use Rattle.trellises.specs.Graph.{Graph, Path, Spells}
use Rattle.trellises.specs.Smallest.{Proper, SamePath, Smallest, active_at}
use Rattle.words.specs.Sum.{IsSum}

-- two codes with the same words: a graph that spells one spells the other
spells-same : (g : Graph) (n : ℕ) (C D : ℕ → Type 0) → ((w : ℕ) → C w ↔ D w) → Spells g n C → Spells g n D
spells-same g n C D e s = record { start = s.start; end = s.end; exact = λ w. Iff.trans (Iff.symm (e w)) (s.exact w) }

-- and one that is smallest for one is smallest for the other
smallest-same : (g : Graph) (n : ℕ) (C D : ℕ → Type 0) → ((w : ℕ) → C w ↔ D w) → Smallest g n C → Smallest g n D
smallest-same g n C D e s = record {
  spells = spells-same g n C D e s.spells;
  once = s.once;
  different = s.different;
  states_least = λ h r. s.states_least h (spells-same h n D C (λ w. Iff.symm (e w)) r);
  branches_least = λ h r. s.branches_least h (spells-same h n D C (λ w. Iff.symm (e w)) r);
}

module _ (plate : Plate) (given : IsPrepared plate) where
  -- all of it
  pub words-smallest : Smallest (trellis_of plate) plate.n (IsWord plate)
  words-smallest = smallest-masked plate.mask (code_trellis plate) (sound given).masked (plate-smallest plate given)

  -- full paths spell exactly the words
  pub words-spelled : Spells (trellis_of plate) plate.n (IsWord plate)
  words-spelled = words-smallest.spells

  -- which begin and end in state 0
  pub words-path-ends : (w : ℕ) (p : Path (trellis_of plate) plate.n w) → (p.state 0 ≡ 0) × (p.state plate.n ≡ 0)
  words-path-ends = full-path-ends (trellis_of plate) plate.n (IsWord plate) words-spelled

  -- a word has one path through the first t sections
  pub words-once : (t w : ℕ) (p q : Path (trellis_of plate) t w) → SamePath (trellis_of plate) t w p q
  words-once t w =
      once-masked plate.mask (code_trellis plate) (paths-once (rows_of plate) _ _ (plate-kept plate given) t (bit_xor w plate.mask))

  -- every state and every branch is used
  pub words-proper : Proper (trellis_of plate) plate.n
  words-proper = proper-masked plate.mask (code_trellis plate) (plate-proper plate given)

  -- the mask changes neither the profile nor the number of branches
  pub words-states : (t : ℕ) → (trellis_of plate).states t ≡ 2 ^ live_at (rows_of plate) t
  words-states t = refl

  pub words-branches : (t : ℕ) → length ((trellis_of plate).branches t) ≡ 2 ^ active_at (rows_of plate) t
  words-branches t = masked-branches plate.mask (code_trellis plate) t ∙ branches-number plate given t

-- ---- of the plate that preparing a matrix and a mask accepts

module _ (n : ℕ) (kind : Kind) (rows : List ℕ) (mask : ℕ) (r : Prepared) (p : Prepares n kind rows mask r) (e : r.verdict ≡ Ok tt) where
  -- the plate's words are those that the mask makes of the matrix's code
  pub accepted-words : (w : ℕ) → Masked (InCode kind n rows) mask w ↔ IsWord r.plate w
  accepted-words w =
      subst (λ (m : ℕ). Masked (InCode kind n rows) mask w ↔ IsSum (rows_of r.plate) (bit_xor w m)) (sym (accepted-mask n kind rows mask r p e))
      (accepted-code n kind rows mask r p e (bit_xor w mask))

  -- its trellis is the smallest whose full paths spell them
  pub matrix-smallest : Smallest (trellis_of r.plate) n (Masked (InCode kind n rows) mask)
  matrix-smallest =
      smallest-same (trellis_of r.plate) n (IsWord r.plate) (Masked (InCode kind n rows) mask) (λ w. Iff.symm (accepted-words w))
      (subst (λ (x : ℕ). Smallest (trellis_of r.plate) x (IsWord r.plate)) (accepted-length n kind rows mask r p e)
      (words-smallest r.plate (accepted-prepared n kind rows mask r p e)))

  -- its full paths spell exactly these words
  pub matrix-spells : Spells (trellis_of r.plate) n (Masked (InCode kind n rows) mask)
  matrix-spells = matrix-smallest.spells
