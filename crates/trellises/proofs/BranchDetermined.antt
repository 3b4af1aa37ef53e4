-- Determined: two replies that meet the promise of `branch` are equal.
use Rattle.std.proofs.Common.{Result, Ok, Err, Option, Some, None}
use Rattle.plates.specs.declared.Refusal.{Refusal}
use mathlib.Core.List.{List}
use mathlib.Core.Path.{ap, refl, sym, ◌∙◌, ◌≡◌}
use native.Mathlib.Decide.{ℕ_discrete}
use Prim.Native.Nat.{ℕ}
use Rattle.plates.proofs.Refusing.{Single, never_both, refuses-once}
use Rattle.plates.specs.declared.Plate.{Plate}
use Rattle.plates.specs.declared.Refusal.TheVariants.{NotPrepared}
use Rattle.plates.specs.Prepare.{rows_of}
use Rattle.trellises.proofs.MaskedGraph.{has-off}
use Rattle.trellises.proofs.PathsOnce.{one-branch}
use Rattle.trellises.proofs.PlateTrellis.{plate-kept}
use Rattle.trellises.proofs.TrellisSpells.{Kept, spans-kept}
use Rattle.trellises.specs.Branching.{Branches, branch_conditions, code_trellis}
use Rattle.trellises.specs.Graph.{Has, branch_at}
use Rattle.trellises.specs.States.{trellis}
use Rattle.words.specs.Span.{Spans}

-- from a depth, a state and a bit the next state is determined
next-kept : (rows : List ℕ) (f l : ℕ → ℕ) → Kept rows f l → (t a b x y : ℕ) → Has (trellis rows f l) t a b x → Has (trellis rows f l) t a b y
    → x ≡ y
next-kept rows f l s t a b x y h k =
    let e : h.place ≡ k.place = one-branch rows f l s t h.place k.place h.there k.there (h.leaves ∙ sym k.leaves) (h.spells ∙ sym k.spells) in
    sym h.leads ∙ ap (λ (i : ℕ). (branch_at (trellis rows f l) t i).to) e ∙ k.leads

pub next-determined : (rows : List ℕ) (f l : ℕ → ℕ) → Spans rows f l → (t a b x y : ℕ) → Has (trellis rows f l) t a b x
    → Has (trellis rows f l) t a b y → x ≡ y
next-determined rows f l s = next-kept rows f l (spans-kept s)

module _ (plate : Plate) (depth state bit : ℕ) where
  conditions-single : Single (branch_conditions plate depth state bit)
  conditions-single = ((λ p q x y. x.1 ∙ sym y.1), ((λ p q x y. x.1 ∙ sym y.1), tt))

  pub branch-determined : (r s : Result (Option ℕ) Refusal) → Branches plate depth state bit r → Branches plate depth state bit s → r ≡ s
  branch-determined (Ok (Some x)) (Ok (Some y)) p q = ap (λ (z : ℕ). Ok (Some z)) (go (ℕ_discrete x y))
    where
      go : Dec (x ≡ y) → x ≡ y
      go (yes e) = e
      go (no n) =
          absurd (p.0.0 NotPrepared (
            (λ g. n (next-kept (rows_of plate) _ _ (plate-kept plate g) depth state _ x y
                (has-off plate.mask (code_trellis plate) p.1) (has-off plate.mask (code_trellis plate) q.1))),
            refl,
          ))
  branch-determined (Ok (Some x)) (Ok None) p q = absurd (q.1 x p.1)
  branch-determined (Ok (Some x)) (Err b) p q = absurd (never_both (branch_conditions plate depth state bit) p.0 b (q))
  branch-determined (Ok None) (Ok (Some y)) p q = absurd (p.1 y q.1)
  branch-determined (Ok None) (Ok None) p q = refl
  branch-determined (Ok None) (Err b) p q = absurd (never_both (branch_conditions plate depth state bit) p.0 b (q))
  branch-determined (Err a) (Ok (Some y)) p q = absurd (never_both (branch_conditions plate depth state bit) q.0 a (p))
  branch-determined (Err a) (Ok None) p q = absurd (never_both (branch_conditions plate depth state bit) q.0 a (p))
  branch-determined (Err a) (Err b) p q = ap Err (refuses-once (branch_conditions plate depth state bit) conditions-single a b p q)
