-- `ours::class_of` meets its contract.
use Rattle.judging.proofs.Follows.{classed-beyond, classed-found}
use mathlib.Core.Logic.{inl, inr, ◌⊎◌}
use mathlib.Core.Path.{◌≡◌}
use Prim.Native.Nat.{ℕ}
use Rattle.judging.proofs.ours.class_of.Goals as goal

not-both : {a b : ℕ} → ((a ≡ 0) × (b ≡ 0 → ⊥)) ⊎ (a ≡ 0 → ⊥) → (a ≡ 0) × (b ≡ 0) → ⊥
not-both (inl p) z = p.1 z.1
not-both (inr d) z = d z.0

pub returns-in-Some : goal.returns-in-Some
returns-in-Some c = classed-found c.args.section c.args.zero c.args.one c.requires c.in-Some.a c.in-Some.ensures

pub returns-else-zero-eq0 : goal.returns-else-zero-eq0
returns-else-zero-eq0 c = classed-beyond c.args.section c.args.zero c.args.one c.requires c.in_default.ensures (not-both c.else-zero-eq0.either)
