-- A10, why not this word: `why_not` gives exactly one of four reasons, each exactly when the definitions say so, against decoding's answer. Definitions:
-- asking/specs/Asking (`NoCodewordAt`, `Less`, `Loses`, `Explains`, `Asks`). Refusals are those of the word call in A7, and both rooms are left as by
-- decoding.
use Rattle.std.proofs.Common.{Result, Ok, Err}
use lib.IntN.{nat_abs, pos, ℤ}
use lib.ListN.{drop, replicate}
use lib.Signed.{◌<ℤ◌}
use mathlib.Core.List.{◌++◌, List, [], ◌∷◌}
use mathlib.Core.Logic.Iff
use mathlib.Core.Logic.{◌↔◌}
use mathlib.Core.Path.{refl, subst, sym, ◌≡◌}
use native.Mathlib.Omega.{arith}
use Prim.Native.Nat.{◌-◌, ◌<◌, ◌^◌, ℕ, ◌≤◌}
use Rattle.asking.proofs.EveryWord.{at-n-beyond, beyond-at-n, difference-bounds, some-reason}
use Rattle.asking.proofs.OneReason.{reason-once}
use Rattle.asking.proofs.WhyNotDetermined.{given-exactly, why-not-determined}
use Rattle.asking.specs.Asking.{Asks, Explains, Less, NoCodewordAt}
use Rattle.asking.specs.Working.{Asked}
use Rattle.asking.specs.declared.Reason.{Reason}
use Rattle.decoding.specs.declared.Answer.{Answer}
use Rattle.decoding.specs.Decode.{Decodes, decision_need, decode_conditions, metric_need}
use Rattle.demands.proofs.Demand1.{decode-numbers}
use Rattle.demands.specs.Refusing.{Numbered, RefusesExactly}
use Rattle.plates.proofs.Refusing.{never_both}
use Rattle.plates.proofs.SoundIsPrepared.{sound}
use Rattle.plates.specs.Code.{InCode, Masked}
use Rattle.plates.specs.declared.Kind.{Kind}
use Rattle.plates.specs.declared.Plate.{Plate}
use Rattle.plates.specs.declared.Prepared.{Prepared}
use Rattle.plates.specs.declared.Refusal.{Refusal}
use Rattle.plates.specs.Prepare.{IsPrepared, IsWord, Prepares}
use Rattle.plates.specs.Refusals.{Passes}
use Rattle.trellises.proofs.AcceptedIsPrepared.{accepted-length}
use Rattle.trellises.proofs.WordsTrellis.{accepted-words}
use Rattle.words.specs.Word.{bit}
use Rattle.asking.specs.declared.Reason.TheVariants as Y

module _ (plate : Plate) (samples : List ℤ) (w : ℕ) (metrics : List ℤ) (decisions : List ℕ) where
  -- the conditions, in order; they are those of the word call and of decode, so that decode-passes says where none of them holds
  pub why-not-numbers : Numbered (decode_conditions plate samples metrics decisions) (5 ∷ 6 ∷ 7 ∷ 8 ∷ 9 ∷ [])
  why-not-numbers = decode-numbers plate samples metrics decisions

  -- the two rooms after the call, and its reply
  module _ (metrics' : List ℤ) (decisions' : List ℕ) (r : Result Reason Refusal) (p : Asks plate samples w metrics decisions metrics' decisions' r) where
    -- refused exactly under them
    pub why-not-refuses-exactly : RefusesExactly Err (decode_conditions plate samples metrics decisions) r
    why-not-refuses-exactly q = (
      (λ e. (subst (Asks plate samples w metrics decisions metrics' decisions') e p).0),
      λ h. (why-not-determined plate samples w metrics decisions r (Err q) metrics' metrics decisions' decisions p (h, refl, refl)).0,
    )

    -- where none of them holds a reason is given
    pub why-not-passed-explained : Passes (decode_conditions plate samples metrics decisions) → (reason : Reason) × (r ≡ Ok reason)
    why-not-passed-explained h = go r refl
      where
        go : (s : Result Reason Refusal) → r ≡ s → (reason : Reason) × (r ≡ Ok reason)
        go (Ok reason) e = (reason, e)
        go (Err q) e = absurd (never_both (decode_conditions plate samples metrics decisions) h q ((why-not-refuses-exactly q).0 e))

    -- each exactly when it holds against the answer of decoding, whatever the rooms of the two calls
    pub why-not-exactly : Passes (decode_conditions plate samples metrics decisions) → (room room' : List ℤ) (words words' : List ℕ) (a : Answer)
        → Decodes plate samples room words room' words' (Ok a) → (reason : Reason) → (r ≡ Ok reason) ↔ Explains plate samples a w reason
    why-not-exactly h room room' words words' a d reason = given-exactly plate samples w metrics decisions r metrics' decisions' p h a d.1 reason

    -- a refused call changes nothing lent
    pub why-not-refused-unchanged : (q : Refusal) → r ≡ Err q → (metrics' ≡ metrics) × (decisions' ≡ decisions)
    why-not-refused-unchanged q e = let x = subst (Asks plate samples w metrics decisions metrics' decisions') e p in (x.1, x.2)

    -- one that succeeds zeroes the room it needs, as decoding does, and touches no more
    pub why-not-explained-zeroes : (reason : Reason) → r ≡ Ok reason
        → (metrics' ≡ replicate (metric_need plate) (pos 0) ++ drop (metric_need plate) metrics)
        × (decisions' ≡ replicate (decision_need plate) 0 ++ drop (decision_need plate) decisions)
    why-not-explained-zeroes reason e =
        let x = subst (Asks plate samples w metrics decisions metrics' decisions') e p in (x.2.metrics_zero, x.2.decisions_zero)

-- ---- exactly one of the four, for every word

-- over a prepared plate, n samples within the limit, and the answer of decoding
module _ (plate : Plate) (samples : List ℤ) (a : Answer) (asked : Asked plate samples a) (w : ℕ) where
  pub exactly-one-reason : (reason : Reason) × Explains plate samples a w reason × ((other : Reason) → Explains plate samples a w other → other ≡ reason)
  exactly-one-reason =
      let r = some-reason plate samples a asked w in
      (r.0, r.1, λ other x. reason-once plate samples a asked.best w other r.0 x r.1)

  -- a difference is above zero, and at most 262,016
  pub difference-lies : (d : ℤ) → Less plate samples a w d → (pos 0 <ℤ d) × (nat_abs d ≤ 262016)
  difference-lies = difference-bounds plate samples a asked w

-- ---- over the words that a mask makes of the code of a matrix, where preparing both accepts

module _ (n : ℕ) (kind : Kind) (rows : List ℕ) (mask : ℕ) (r : Prepared) (p : Prepares n kind rows mask r) (e : r.verdict ≡ Ok tt) (w position : ℕ)
    (x : NoCodewordAt r.plate w position) where
  -- the word is not among them
  pub told-no-codeword : Masked (InCode kind n rows) mask w → ⊥
  told-no-codeword c = x.none ((accepted-words n kind rows mask r p e w).0 c)

  -- at every earlier position one of them continues its beginning
  pub continued-sooner : (i : ℕ) → i < position → (c : ℕ) × Masked (InCode kind n rows) mask c × ((j : ℕ) → j ≤ i → bit c j ≡ bit w j)
  continued-sooner i h = let s = x.sooner i h in (s.by, (accepted-words n kind rows mask r p e s.by).1 s.codeword, s.same)

  -- at this one, if it is below n, none does
  pub continued-no-more : position < n → (c : ℕ) → Masked (InCode kind n rows) mask c → ((j : ℕ) → j ≤ position → bit c j ≡ bit w j) → ⊥
  continued-no-more h c g same =
      x.stops (subst (λ (m : ℕ). position < m) (sym (accepted-length n kind rows mask r p e)) h)
      (record { by = c; codeword = (accepted-words n kind rows mask r p e c).0 g; same = same })

-- n is told exactly if some word of the plate has the word's bits below n, and the word has a one at n or beyond
module _ (plate : Plate) (given : IsPrepared plate) (w : ℕ) where
  pub told-at-n-exactly : NoCodewordAt plate w plate.n ↔ (((c : ℕ) × IsWord plate c × ((i : ℕ) → i < plate.n → bit c i ≡ bit w i)) × (2 ^ plate.n ≤ w))
  told-at-n-exactly = ((λ x. (continued x, at-n-beyond given w x)), λ x. beyond-at-n given w x.0.0 x.0.1 x.0.2 x.1)
    where
      continued : NoCodewordAt plate w plate.n → (c : ℕ) × IsWord plate c × ((i : ℕ) → i < plate.n → bit c i ≡ bit w i)
      continued x =
          let positive : 1 ≤ plate.n = (sound given).positive in
          let s = x.sooner (plate.n - 1) (omega (arith, positive)) in
          (s.by, s.codeword, λ i h. s.same i (omega (arith, h)))

  -- and it is replied exactly then
  pub replied-at-n-exactly : (samples metrics metrics' room room' : List ℤ) (decisions decisions' words words' : List ℕ) (r : Result Reason Refusal)
      → Asks plate samples w metrics decisions metrics' decisions' r → Passes (decode_conditions plate samples metrics decisions) → (a : Answer)
      → Decodes plate samples room words room' words' (Ok a)
      → (r ≡ Ok (Y.NoCodeword plate.n)) ↔ (((c : ℕ) × IsWord plate c × ((i : ℕ) → i < plate.n → bit c i ≡ bit w i)) × (2 ^ plate.n ≤ w))
  replied-at-n-exactly samples metrics metrics' room room' decisions decisions' words words' r p h a d =
      Iff.trans (why-not-exactly plate samples w metrics decisions metrics' decisions' r p h room room' words words' a d (Y.NoCodeword plate.n))
      told-at-n-exactly
