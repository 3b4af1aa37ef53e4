-- Lowest number first: a call's conditions give at most one refusal, and none where they all pass.
use mathlib.Core.List.{List, [], ◌∷◌}
use mathlib.Core.Logic.{inl, inr}
use mathlib.Core.Path.{◌≡◌}
use Rattle.plates.specs.declared.Refusal.{Refusal}
use Rattle.plates.specs.Refusals.{Passes, Refuses}

-- each condition gives one refusal
abbrev pub Single : List (Refusal → Type 0) → Type 0
Single [] = Unit {0}
Single (c ∷ cs) = ((p q : Refusal) → c p → c q → p ≡ q) × Single cs

pub refuses-once : (cs : List (Refusal → Type 0)) → Single cs → (p q : Refusal) → Refuses cs p → Refuses cs q → p ≡ q
refuses-once [] s p q r r' = absurd r
refuses-once (c ∷ cs) s p q (inl x) (inl y) = s.0 p q x y
refuses-once (c ∷ cs) s p q (inl x) (inr y) = absurd (y.0 p x)
refuses-once (c ∷ cs) s p q (inr x) (inl y) = absurd (x.0 q y)
refuses-once (c ∷ cs) s p q (inr x) (inr y) = refuses-once cs s.1 p q x.1 y.1

pub never_both : (cs : List (Refusal → Type 0)) → Passes cs → (q : Refusal) → Refuses cs q → ⊥
never_both [] p q r = r
never_both (c ∷ cs) p q (inl x) = p.0 q x
never_both (c ∷ cs) p q (inr x) = never_both cs p.1 q x.1
