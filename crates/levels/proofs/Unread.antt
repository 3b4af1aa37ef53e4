-- Marks at n or beyond and values at erased positions mean nothing: blocks with the same samples before n get the same reply and levels.
use Rattle.std.proofs.Common.{Result, Ok, Err}
use Prim.Native.Nat.{ℕ, ◌<◌}
use lib.Dec.{T}
use lib.Ieee.{Float}
use lib.IntN.{ℤ, pos}
use lib.ListN.{get_or, length}
use mathlib.Core.List.{List, [], ◌∷◌}
use mathlib.Core.Logic.{◌⊎◌, inl, inr}
use mathlib.Core.Path.{◌≡◌, subst, sym, ◌∙◌}
use native.Mathlib.Omega.{arith}
use Rattle.levels.proofs.BlockLevels.{values-n}
use Rattle.levels.specs.declared.Sample.{Sample}
use Rattle.levels.specs.declared.Setting.{Setting}
use Rattle.levels.specs.Choosing.{LevelOfSample, sample_at}
use Rattle.levels.specs.Giving.{GivesLevels, NoNumberAt, bad_count, block_conditions, not_a_number}
use Rattle.plates.specs.declared.Refusal.{Refusal}
use Rattle.plates.specs.Refusals.{Passes, Refuses}

-- ---- conditions that hold alike

abbrev Alike : List (Refusal → Type 0) → List (Refusal → Type 0) → Type 0
Alike [] [] = Unit {0}
Alike [] (d ∷ ds) = ⊥
Alike (c ∷ cs) [] = ⊥
Alike (c ∷ cs) (d ∷ ds) = ((q : Refusal) → c q → d q) × (((q : Refusal) → d q → c q) × Alike cs ds)

refuses-alike : (cs ds : List (Refusal → Type 0)) → Alike cs ds → (q : Refusal) → Refuses cs q → Refuses ds q
refuses-alike [] ds a q r = absurd r
refuses-alike (c ∷ cs) [] a q r = absurd a
refuses-alike (c ∷ cs) (d ∷ ds) a q (inl x) = inl (a.0 q x)
refuses-alike (c ∷ cs) (d ∷ ds) a q (inr x) = inr ((λ p y. x.0 p (a.1.0 p y)), refuses-alike cs ds a.1.1 q x.1)

passes-alike : (cs ds : List (Refusal → Type 0)) → Alike cs ds → Passes cs → Passes ds
passes-alike [] [] a p = tt
passes-alike [] (d ∷ ds) a p = absurd a
passes-alike (c ∷ cs) [] a p = absurd a
passes-alike (c ∷ cs) (d ∷ ds) a p = ((λ q y. p.0 q (a.1.0 q y)), passes-alike cs ds a.1.1 p.1)

-- ---- two blocks with the same samples before n

-- as many values, and the same samples
pub record SameSamples (n : ℕ) (values others : List Float) (erased gone : ℕ) : Type 0 where
  pub as_many : length values ≡ length others
  pub samples : (i : ℕ) → i < n → sample_at values erased i ≡ sample_at others gone i

turned_round : {n : ℕ} {values others : List Float} {erased gone : ℕ} → SameSamples n values others erased gone → SameSamples n others values gone erased
turned_round s = record { as_many = sym s.as_many; samples = λ i h. sym (s.samples i h) }

counts-alike : {n : ℕ} {values others : List Float} {erased gone : ℕ} → SameSamples n values others erased gone → (room : List ℤ) (q : Refusal) → bad_count n values room q → bad_count n others room q
counts-alike {n} {values} {others} s room q b = (go b.0, b.1)
  where
    go : (length values ≡ n → ⊥) ⊎ (length room ≡ n → ⊥) → (length others ≡ n → ⊥) ⊎ (length room ≡ n → ⊥)
    go (inl d) = inl (λ e. d (s.as_many ∙ e))
    go (inr d) = inr d

numbers-alike : {n : ℕ} {values others : List Float} {erased gone : ℕ} → SameSamples n values others erased gone → (q : Refusal) → NoNumberAt n values erased q → NoNumberAt n others gone q
numbers-alike s q b =
    record {
      position = b.position;
      there = b.there;
      here = subst (λ (x : Sample). T (not_a_number x)) (s.samples b.position b.there) b.here;
      first = λ i h t. b.first i h (subst (λ (x : Sample). T (not_a_number x)) (sym (s.samples i (omega (arith, b.there)))) t);
      is = b.is;
    }

module _ (n : ℕ) (setting : Setting) (values others : List Float) (erased gone : ℕ) (room room' : List ℤ) (s : SameSamples n values others erased gone) where
  conditions-alike : Alike (block_conditions n setting values erased room) (block_conditions n setting others gone room)
  conditions-alike = (
    (λ q b. b),
    (
      (λ q b. b),
      (
        (λ q b. b),
        ((λ q b. b), (counts-alike s room, (counts-alike (turned_round s) room, (numbers-alike s, (numbers-alike (turned_round s), tt))))),
      ),
    ),
  )

  -- a reply with its room that meets the promise for the one block meets it for the other
  pub unread : (r : Result (Unit {0}) Refusal) → GivesLevels n setting values erased room room' r → GivesLevels n setting others gone room room' r
  unread (Ok _) a = (
    passes-alike (block_conditions n setting values erased room) (block_conditions n setting others gone room) conditions-alike a.0,
    record {
      as_long = a.1.as_long ∙ s.as_many;
      each = λ i h.
          let l : i < length values = omega (arith, s.as_many) in
          subst (λ (x : Sample). LevelOfSample setting x (get_or room' i (pos 0))) (s.samples i (omega (arith, values-n n setting values erased room room' a))) (a.1.each i l);
    },
  )
  unread (Err q) a =
      (refuses-alike (block_conditions n setting values erased room) (block_conditions n setting others gone room) conditions-alike q a.0, a.1)
