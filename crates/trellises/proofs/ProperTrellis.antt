-- The trellis is proper: every state and every branch lies on the path of a codeword, so its states and branches are just those that the
-- codewords pass through.
use lib.ListN.{length}
use mathlib.Core.Bool.{Bool}
use mathlib.Core.List.{List}
use mathlib.Core.Path.{ap, refl, sym, ◌∙◌, ◌≡◌}
use native.Mathlib.Omega.{arith}
use Prim.Native.Nat.{◌<◌, ◌^◌, ℕ}
use Rattle.plates.specs.declared.Plate.{Plate}
use Rattle.plates.specs.Prepare.{IsPrepared, rows_of}
use Rattle.plates.specs.Profile.{live}
use Rattle.trellises.proofs.PathsOnce.{kept-branch, kept-state, one-branch}
use Rattle.trellises.proofs.PlateTrellis.{plate-kept, plate-within}
use Rattle.trellises.proofs.TrellisSpells.{Kept, trellis-spells}
use Rattle.trellises.specs.Branching.{code_trellis}
use Rattle.trellises.specs.Graph.{Branch, Path}
use Rattle.trellises.specs.Smallest.{Proper}
use Rattle.trellises.specs.States.{active, trellis}
use Rattle.words.proofs.Choice.{gather-lt, spread-gather, spread-injective}
use Rattle.words.specs.Choice.{count, gather, spread}
use Rattle.words.specs.Sum.{sum_of}

-- digits put to the places that pass, and gathered again
gather-spread : (k : ℕ) (P : ℕ → Bool) (v : ℕ) → v < 2 ^ count k P → gather k P (spread k P v) ≡ v
gather-spread k P v h =
    spread-injective k P (gather k P (spread k P v)) v (gather-lt k P (spread k P v)) h (λ j l a. spread-gather k P (spread k P v) j l a)

module _ (n : ℕ) (rows : List ℕ) (f l : ℕ → ℕ) (s : Kept rows f l) (fit : (j : ℕ) → j < length rows → l j < n) where
  -- the path of the codeword that takes the rows of u
  path-of : (u : ℕ) → Path (trellis rows f l) n (sum_of rows u)
  path-of u = (((trellis-spells n rows f l s fit).exact (sum_of rows u)).0 (record { by = u; sum = refl })).1

  -- a state is reached by the live rows that its digits say, a branch taken by the active rows that its digits say
  pub trellis-proper : Proper (trellis rows f l) n
  trellis-proper = record {
    root = (trellis-spells n rows f l s fit).start;
    state_used = λ t a h k.
        let u : ℕ = spread (length rows) (live f l t) a in
        (sum_of rows u, path-of u, kept-state rows f l s n u (path-of u) t h ∙ gather-spread (length rows) (live f l t) a k);
    branch_used = λ t i h k.
        let u : ℕ = spread (length rows) (active f l t) i in
        let b = (path-of u).branch t h in (
          sum_of rows u,
          path-of u,
          one-branch rows f l s t b.place i b.there k
              (b.leaves ∙ kept-state rows f l s n u (path-of u) t (omega arith) ∙ sym (ap (λ (b : Branch). b.from) (kept-branch rows f l s t i k)))
              (b.spells ∙ sym (ap (λ (b : Branch). b.out) (kept-branch rows f l s t i k))),
        );
    parted = one-branch rows f l s;
  }

-- the same of a prepared plate
pub plate-proper : (plate : Plate) → IsPrepared plate → Proper (code_trellis plate) plate.n
plate-proper plate given = trellis-proper plate.n (rows_of plate) _ _ (plate-kept plate given) (plate-within plate given)
