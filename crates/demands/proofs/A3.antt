-- A3, how firm one flag is: `firmness` gives for one position of a block its reading, fixed with its bit or open with its margin, and the position
-- beside it. Definitions: decoding/specs/Firmness (`Always`, `Margin`, `TellsFirmness`). Bounds are those of A8.
use Rattle.std.proofs.Common.{Result, Ok, Err}
use lib.IntN.{+ℤ_idl, -ℤ-+ℤ_cancel, ◌+ℤ◌, ◌-ℤ◌, nat_abs, pos, ℤ}
use lib.ListN.{drop, get_or, length, replicate}
use lib.Signed.{◌≤ℤ◌}
use mathlib.Core.Bool.{Bool, false, true}
use mathlib.Core.List.{◌++◌, List, [], ◌∷◌}
use mathlib.Core.Logic.{inl, inr, ◌⊎◌}
use mathlib.Core.Path.{ap, refl, subst, sym, ◌∙◌, ◌≡◌}
use native.Mathlib.Omega.{arith}
use Prim.Native.Nat.{◌<◌, ℕ, ◌≤◌}
use Rattle.decoding.proofs.FirmnessDetermined.{firmness-determined, not-both-readings}
use Rattle.decoding.proofs.FirmnessMargin.{margin-bounds, margin-sign}
use Rattle.decoding.proofs.IntegerOrder.{≤ℤ-antisym}
use Rattle.decoding.specs.declared.Answer.{Answer}
use Rattle.decoding.specs.declared.firmness.Flag.{Flag}
use Rattle.decoding.specs.Decode.{Best, Decodes, decision_need, metric_need}
use Rattle.decoding.specs.Firmness.{Agrees, Always, BestAmong, FlagOf, TellsFirmness, Margin, Means, firmness_conditions, is_fixed, value}
use Rattle.decoding.specs.Metric.{limit}
use Rattle.demands.proofs.Demand1.{its-number}
use Rattle.demands.specs.Refusing.{Numbered, RefusesExactly}
use Rattle.demands.specs.Requests.{AsGood}
use Rattle.plates.proofs.Refusing.{never_both}
use Rattle.plates.specs.declared.Plate.{Plate}
use Rattle.plates.specs.declared.Refusal.{Refusal}
use Rattle.plates.specs.Prepare.{IsPrepared, IsWord}
use Rattle.plates.specs.Refusals.{Passes, number}
use Rattle.words.proofs.Word.{bit-cases}
use Rattle.words.specs.Word.{bit}

module _ (plate : Plate) (samples : List ℤ) (position : ℕ) (metrics : List ℤ) (decisions : List ℕ) where
  -- the conditions, in order
  pub firmness-numbers : Numbered (firmness_conditions plate samples position metrics decisions) (5 ∷ 6 ∷ 7 ∷ 21 ∷ 8 ∷ 9 ∷ [])
  firmness-numbers = (its-number, (its-number, ((λ q c. ap number c.is), (its-number, (its-number, (its-number, tt))))))

  -- where none of them holds: a prepared plate, n samples within the limit, a position below n, and rooms that are long enough
  pub firmness-passes : IsPrepared plate → length samples ≡ plate.n → ((i : ℕ) → i < length samples → nat_abs (get_or samples i (pos 0)) ≤ limit)
      → position < plate.n → metric_need plate ≤ length metrics → decision_need plate ≤ length decisions
      → Passes (firmness_conditions plate samples position metrics decisions)
  firmness-passes p size within there m d = (
    (λ q c. c.0 p),
    (
      (λ q c. c.0 size),
      (
        (λ q c. omega (arith, c.over, within c.position c.there)),
        ((λ q c. omega (arith, c.0, there)), ((λ q c. omega (arith, c.0, m)), ((λ q c. omega (arith, c.0, d)), tt))),
      ),
    ),
  )

  -- the two rooms after the call, and its reply
  module _ (metrics' : List ℤ) (decisions' : List ℕ) (r : Result Flag Refusal) (p : TellsFirmness plate samples position metrics decisions metrics' decisions' r) where
    -- refused exactly under them
    pub firmness-refuses-exactly : RefusesExactly Err (firmness_conditions plate samples position metrics decisions) r
    firmness-refuses-exactly q = (
      (λ e. (subst (TellsFirmness plate samples position metrics decisions metrics' decisions') e p).0),
      λ h. (firmness-determined plate samples position metrics decisions r (Err q) metrics' metrics decisions' decisions p (h, refl, refl)).0,
    )

    -- where none of them holds the flag is found
    pub firmness-passed-found : Passes (firmness_conditions plate samples position metrics decisions) → (f : Flag) × (r ≡ Ok f)
    firmness-passed-found h = go r refl
      where
        go : (s : Result Flag Refusal) → r ≡ s → (f : Flag) × (r ≡ Ok f)
        go (Ok f) e = (f, e)
        go (Err q) e = absurd (never_both (firmness_conditions plate samples position metrics decisions) h q ((firmness-refuses-exactly q).0 e))

    -- a refused call changes nothing lent
    pub firmness-refused-unchanged : (q : Refusal) → r ≡ Err q → (metrics' ≡ metrics) × (decisions' ≡ decisions)
    firmness-refused-unchanged q e = let x = subst (TellsFirmness plate samples position metrics decisions metrics' decisions') e p in (x.1, x.2)

    -- one that succeeds zeroes the room it needs, as decoding does, and touches no more
    pub firmness-found-zeroes : (f : Flag) → r ≡ Ok f
        → (metrics' ≡ replicate (metric_need plate) (pos 0) ++ drop (metric_need plate) metrics)
        × (decisions' ≡ replicate (decision_need plate) 0 ++ drop (decision_need plate) decisions)
    firmness-found-zeroes f e =
        let x = subst (TellsFirmness plate samples position metrics decisions metrics' decisions') e p in (x.2.metrics_zero, x.2.decisions_zero)

    -- the reply carries the position beside the reading
    pub firmness-position : (f : Flag) → r ≡ Ok f → f.position ≡ position
    firmness-position f e = (subst (TellsFirmness plate samples position metrics decisions metrics' decisions') e p).1.position_is

    -- it is of this flag
    flag-of : (f : Flag) → r ≡ Ok f → FlagOf (IsWord plate) samples position f
    flag-of f e = (subst (TellsFirmness plate samples position metrics decisions metrics' decisions') e p).1

    -- fixed means that every word has that bit
    pub fixed-is-always : (f : Flag) → r ≡ Ok f → is_fixed f.reading ≡ true → (w : ℕ) → IsWord plate w → pos (bit w position) ≡ value f.reading
    fixed-is-always f e o = subst (λ (b : Bool). Means (IsWord plate) samples position b (value f.reading)) o (flag-of f e).reading

    -- open comes with the margin: the best metric among words with 0 there minus the best among those with 1
    pub open-is-margin : (f : Flag) → r ≡ Ok f → is_fixed f.reading ≡ false → Margin (IsWord plate) samples position (value f.reading)
    open-is-margin f e o = subst (λ (b : Bool). Means (IsWord plate) samples position b (value f.reading)) o (flag-of f e).reading

    -- a fixed reading has the decoded bit; of an open one a positive margin means that decoding gives 0 there, a negative one 1. Decoding may
    -- have any rooms that are long enough
    pub firmness-agrees : (f : Flag) → r ≡ Ok f → (a : Answer) (room room' : List ℤ) (words words' : List ℕ)
        → Decodes plate samples room words room' words' (Ok a) → Agrees f.reading (bit a.word position)
    firmness-agrees f e a room room' words words' x = margin-sign plate samples position a x.1 f (flag-of f e)

    -- an open margin lies within 262,016 either way
    pub firmness-margin : (f : Flag) → r ≡ Ok f → is_fixed f.reading ≡ false → nat_abs (value f.reading) ≤ 262016
    firmness-margin f e o =
        margin-bounds plate samples position metrics decisions metrics' decisions' f
        (subst (TellsFirmness plate samples position metrics decisions metrics' decisions') e p) o

  -- no position is both fixed and open
  pub fixed-or-open : (b m : ℤ) → Always (IsWord plate) position b → Margin (IsWord plate) samples position m → ⊥
  fixed-or-open = not-both-readings plate samples position

-- ---- zero decides nothing

-- what is no difference
no_difference : (a b : ℤ) → a -ℤ b ≡ pos 0 → a ≡ b
no_difference a b e = sym (-ℤ-+ℤ_cancel a b) ∙ ap (λ (x : ℤ). x +ℤ b) e ∙ +ℤ_idl b

module _ (plate : Plate) (samples : List ℤ) (position : ℕ) (a : Answer) (best : Best plate samples a) where
  -- the best with the answer's own bit scores as the answer does
  own-best : (b : ℕ) (m : ℤ) → BestAmong (IsWord plate) samples position b m → bit a.word position ≡ b → m ≡ a.metric
  own-best b m x e =
      ≤ℤ-antisym (subst (λ (z : ℤ). z ≤ℤ a.metric) x.metric (best.greatest x.word x.codeword))
      (subst (λ (z : ℤ). z ≤ℤ m) (sym best.metric) (x.greatest a.word best.codeword e))

  as-good : (b : ℕ) (m : ℤ) → BestAmong (IsWord plate) samples position b m → m ≡ a.metric → AsGood plate samples a position b
  as-good b m x e = record { word = x.word; codeword = x.codeword; has = x.has; metric = x.metric ∙ e }

  -- with a margin of zero a word with 0 and a word with 1 there both score as much as the word that decoding picks
  pub zero-decides-nothing : Margin (IsWord plate) samples position (pos 0) → AsGood plate samples a position 0 × AsGood plate samples a position 1
  zero-decides-nothing o = go (bit-cases a.word position)
    where
      same : o.with_zero ≡ o.with_one
      same = no_difference o.with_zero o.with_one (sym o.is)

      go : (bit a.word position ≡ 0) ⊎ (bit a.word position ≡ 1) → AsGood plate samples a position 0 × AsGood plate samples a position 1
      go (inl e) =
          let z = own-best 0 o.with_zero o.zero_best e in
          (as-good 0 o.with_zero o.zero_best z, as-good 1 o.with_one o.one_best (sym same ∙ z))
      go (inr e) =
          let z = own-best 1 o.with_one o.one_best e in
          (as-good 0 o.with_zero o.zero_best (same ∙ z), as-good 1 o.with_one o.one_best z)
