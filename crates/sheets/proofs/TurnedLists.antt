-- Lists from the far end: what a row's characters and a block's samples are then.
use Rattle.std.proofs.Common.{Result, Err}
use Prim.Native.Nat.{ℕ, ◌+◌}
use lib.IntN.{ℤ}
use mathlib.Core.Bool.{Bool, true, false, cond, ◌&&◌}
use mathlib.Core.List.{List, [], ◌∷◌, ◌++◌, reverse, reverse-cons, reverse-reverse}
use mathlib.Core.Path.{◌≡◌, refl, sym, ◌∙◌, ap, ap₂}
use Rattle.sheets.specs.Turning.{in_order}
use Rattle.sheets.specs.Turned.{other}
use Rattle.sheets.specs.Numbers.{sample_of}
use Rattle.sheets.specs.Rows.{is_bit, bits_only}
use Rattle.sheets.specs.Blocks.{BlockFound, block, no_block, is_sample, value_of, values_of, samples_of, samples_found}
use Rattle.sheets.specs.declared.Order.{Order}
use Rattle.sheets.specs.declared.Order.TheVariants.{First, Last}

-- ---- a test of every entry

module _ {A : Type 0} (test : A → Bool) where
  abbrev pub every : List A → Bool
  every [] = true
  every (x ∷ xs) = test x && every xs

  and-true : (a : Bool) → (a && true) ≡ a
  and-true true = refl
  and-true false = refl

  and-swap : (a b c : Bool) → (a && (b && c)) ≡ ((a && b) && c)
  and-swap true b c = refl
  and-swap false b c = refl

  and-turn : (a b : Bool) → (a && b) ≡ (b && a)
  and-turn true true = refl
  and-turn true false = refl
  and-turn false true = refl
  and-turn false false = refl

  every_append : (xs ys : List A) → every (xs ++ ys) ≡ (every xs && every ys)
  every_append [] ys = refl
  every_append (x ∷ xs) ys = ap (λ (t : Bool). test x && t) (every_append xs ys) ∙ and-swap (test x) (every xs) (every ys)

  -- from the far end it is the same
  pub every-turned : (xs : List A) → every (reverse xs) ≡ every xs
  every-turned [] = refl
  every-turned (x ∷ xs) =
      ap every (reverse-cons x xs)
      ∙ every_append (reverse xs) (x ∷ [])
      ∙ ap₂ (λ (a b : Bool). a && b) (every-turned xs) (and-true (test x))
      ∙ and-turn (every xs) (test x)

-- ---- rows

bits-every : (f : List ℕ) → bits_only f ≡ every is_bit f
bits-every [] = refl
bits-every (x ∷ xs) = ap (λ (t : Bool). is_bit x && t) (bits-every xs)

pub bits-turned : (f : List ℕ) → bits_only (reverse f) ≡ bits_only f
bits-turned f = bits-every (reverse f) ∙ every-turned is_bit f ∙ sym (bits-every f)

-- what is listed from the far end stands as it did, under the other order
pub other-order : {A : Type 0} (order : Order) (xs : List A) → in_order (other order) (reverse xs) ≡ in_order order xs
other-order First xs = reverse-reverse xs
other-order Last xs = refl

-- ---- samples

abbrev is_sample_field : List ℕ → Bool
is_sample_field f = is_sample (sample_of f)

values-append : (fs gs : List (List ℕ)) → values_of (fs ++ gs) ≡ values_of fs ++ values_of gs
values-append [] gs = refl
values-append (f ∷ fs) gs = ap (λ (vs : List ℤ). value_of (sample_of f) ∷ vs) (values-append fs gs)

pub values-turned : (fs : List (List ℕ)) → values_of (reverse fs) ≡ reverse (values_of fs)
values-turned [] = refl
values-turned (f ∷ fs) =
    ap values_of (reverse-cons f fs)
    ∙ values-append (reverse fs) (f ∷ [])
    ∙ ap (λ (vs : List ℤ). vs ++ value_of (sample_of f) ∷ []) (values-turned fs)
    ∙ sym (reverse-cons (value_of (sample_of f)) (values_of fs))

found-case : (t u : Bool) (d : Result ℕ ℕ) (j : ℕ) (vs : List ℤ) → samples_found d vs ≡ cond u (block vs) no_block
    → samples_found (cond t d (Err j)) vs ≡ cond (t && u) (block vs) no_block
found-case true u d j vs e = e
found-case false u d j vs e = refl

-- fields are samples where each of them is one
samples-found : (lead k : ℕ) (fs : List (List ℕ)) (vs : List ℤ) → samples_found (samples_of lead k fs) vs ≡ cond (every is_sample_field fs) (block vs) no_block
samples-found lead k [] vs = refl
samples-found lead k (f ∷ fs) vs = found-case (is_sample_field f) (every is_sample_field fs) (samples_of lead (k + 1) fs) (k + lead) vs (samples-found lead (k + 1) fs vs)

-- a block whose samples are listed from the far end
abbrev pub found_turned : BlockFound → BlockFound
found_turned (block vs) = block (reverse vs)
found_turned no_block = no_block

cond-turned : (t : Bool) (vs : List ℤ) → cond t (block (reverse vs)) no_block ≡ found_turned (cond t (block vs) no_block)
cond-turned true vs = refl
cond-turned false vs = refl

pub samples-turned : (lead : ℕ) (fs : List (List ℕ)) → samples_found (samples_of lead 0 (reverse fs)) (values_of (reverse fs)) ≡ found_turned (samples_found (samples_of lead 0 fs) (values_of fs))
samples-turned lead fs =
    samples-found lead 0 (reverse fs) (values_of (reverse fs))
    ∙ ap₂ (λ (t : Bool) (vs : List ℤ). cond t (block vs) no_block) (every-turned is_sample_field fs) (values-turned fs)
    ∙ cond-turned (every is_sample_field fs) (values_of fs)
    ∙ ap found_turned (sym (samples-found lead 0 fs (values_of fs)))
