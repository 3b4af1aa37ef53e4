-- `surplus::with_surplus` meets its contract.
use lib.ListN.{replicate}
use mathlib.Core.List.{List}
use mathlib.Core.Logic.{inl, inr, ◌⊎◌}
use mathlib.Core.Path.{ap, ◌∙◌, ◌≡◌, subst, sym}
use Prim.Native.Nat.{ℕ}
use Rattle.std.proofs.Common.{Ok}
use Rattle.judging.specs.declared.Judged.{Judged}
use Rattle.judging.specs.declared.Judged.TheVariants as J
use Rattle.trellises.specs.Graph.{Graph}
use Rattle.judging.specs.Room.{theirs}
use Rattle.judging.specs.Steps.{SurplusFor}
use Rattle.judging.specs.Surplus.{SurplusIn}
use Rattle.judging.proofs.surplus.with_surplus.Goals as goal

-- beside a verdict that is not right stands no surplus
none_beside : (g : Graph) (n : ℕ) (rows : List ℕ) (v : Judged) (s b : List ℕ) → ((w : ℕ) × (v ≡ J.SpelledWrongly w)) ⊎ ((w : ℕ) × (v ≡ J.NotSpelled w))
    → (s ≡ replicate 65 0) × (b ≡ replicate 64 0) → SurplusIn g n rows (Ok v) s b
none_beside g n rows v s b (inl (w, e)) z = subst (λ (v : Judged). SurplusIn g n rows (Ok v) s b) (sym e) z
none_beside g n rows v s b (inr (w, e)) z = subst (λ (v : Judged). SurplusIn g n rows (Ok v) s b) (sym e) z

pub surplus_of-requires : goal.surplus_of-requires
surplus_of-requires c =
    subst (λ (v : Judged). SurplusFor v c.args.rows.now c.args.n c.args.room.now c.args.lines) c.in-Right.is c.requires

pub returns-in-Right : goal.returns-in-Right
returns-in-Right c =
    let e = c.in-Right.is in
    (c.surplus_of.ensures.0 ∙ ap Ok (sym e), subst (λ (v : Judged). SurplusIn (theirs c.args.n c.args.lines c.args.room.now) c.args.n c.args.rows.now (Ok v) c.surplus_of.result.states c.surplus_of.result.branches) (sym e) c.surplus_of.ensures.1)

pub returns-in-SpelledWrongly : goal.returns-in-SpelledWrongly
returns-in-SpelledWrongly c =
    let a = c.args in
    let r = c.without_surplus in
    (r.ensures.0, none_beside (theirs a.n a.lines a.room.now) a.n a.rows.now a.verdict r.result.states r.result.branches c.in-SpelledWrongly.is (r.ensures.1, r.ensures.2))
