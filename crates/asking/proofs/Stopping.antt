-- Where a word that is no word of the plate stops: at the first one of what is left of it, plus mask, once the plate's rows are taken off.
use lib.Bits.{bit_xor, differ, xor_comm, xor_zero_r}
use mathlib.Core.Logic.{inl, inr, ◌⊎◌}
use mathlib.Core.Path.{ap, ap₂, refl, subst, sym, ◌∙◌, ◌≡◌}
use native.Mathlib.Nat.{le_refl}
use native.Mathlib.Omega.{arith}
use Prim.Native.Nat.{◌<◌, ℕ}
use Rattle.asking.specs.Asking.{Continued, NoCodewordAt}
use Rattle.asking.specs.Working.{FirstStop}
use Rattle.decoding.proofs.MaskedWords.{off-clear}
use Rattle.decoding.proofs.RestOfWords.{off-sum, xor-through}
use Rattle.decoding.specs.Cosets.{taken_off}
use Rattle.plates.specs.declared.Plate.{Plate}
use Rattle.plates.specs.Prepare.{IsPrepared, IsWord, rows_of}
use Rattle.words.proofs.Span.{zero_one}
use Rattle.words.proofs.Sums.{in-xor}
use Rattle.words.proofs.Word.{bit-cases, bit-xor, differ_self, differ-zero, xor_assoc}
use Rattle.words.specs.Span.{First}
use Rattle.words.specs.Sum.{IsSum}
use Rattle.words.specs.Word.{bit}

-- a digit and the other one differ
differ-one : (d : ℕ) → (d ≡ 0) ⊎ (d ≡ 1) → differ d (differ d 1) ≡ 1
differ-one d (inl e) = rw e
differ-one d (inr e) = rw e

-- the sum of two words of a plate is a codeword
sum-of-words : (plate : Plate) (a b : ℕ) → IsWord plate a → IsWord plate b → IsSum (rows_of plate) (bit_xor a b)
sum-of-words plate a b g h =
    subst (IsSum (rows_of plate)) (ap (bit_xor (bit_xor a plate.mask)) (xor_comm b plate.mask) ∙ xor-through a plate.mask b) (in-xor g h)

module _ {plate : Plate} (given : IsPrepared plate) (w rest : ℕ) (left : rest ≡ taken_off (rows_of plate) (bit_xor w plate.mask)) where
  -- the word without what is left is one of the plate
  abbrev off : ℕ
  off = bit_xor w rest

  off-word : IsWord plate (bit_xor w rest)
  off-word =
      subst (IsSum (rows_of plate)) (xor_assoc w plate.mask rest ∙ ap (bit_xor w) (xor_comm plate.mask rest) ∙ sym (xor_assoc w rest plate.mask))
      (subst (λ (x : ℕ). IsSum (rows_of plate) (bit_xor (bit_xor w plate.mask) x)) (sym left) (off-sum (rows_of plate) (bit_xor w plate.mask)))

  -- it has the word's bits where nothing is left
  off-same : (i : ℕ) → bit rest i ≡ 0 → bit (bit_xor w rest) i ≡ bit w i
  off-same i z = bit-xor i w rest ∙ ap (differ (bit w i)) z ∙ differ-zero (bit w i)

  module _ (q : ℕ) (f : First rest q) where
    pub continued-before : (i : ℕ) → i < q → Continued (IsWord plate) w i
    continued-before i h = record { by = off; codeword = off-word; same = λ j l. off-same j (f.zeros j (omega arith)) }

    -- a word of the plate that goes on with the word at q would differ there from that one, so that q were a head; nothing is left at heads
    pub not-continued : Continued (IsWord plate) w q → ⊥
    not-continued c =
        zero_one
        (ap (λ (x : ℕ). bit x q) left
        ∙ off-clear plate given (bit_xor w plate.mask) (bit_xor c.by off) q (sum-of-words plate c.by off c.codeword off-word) begins)
        f.one
      where
        begins : First (bit_xor c.by off) q
        begins = record {
          one =
              bit-xor q c.by off ∙ ap₂ differ (c.same q (le_refl q)) (bit-xor q w rest ∙ ap (differ (bit w q)) f.one)
              ∙ differ-one (bit w q) (bit-cases w q);
          zeros = λ i h. bit-xor i c.by off ∙ ap₂ differ (c.same i (omega arith)) (off-same i (f.zeros i h)) ∙ differ_self (bit w i);
        }

  -- a word of which nothing is left is one of the plate
  pub nothing_left : rest ≡ 0 → IsWord plate w
  nothing_left e = subst (IsWord plate) (ap (bit_xor w) e ∙ xor_zero_r w) off-word

  -- one of which something is left is none, and stops at the first one of the rest
  pub stopped : (rest ≡ 0 → ⊥) → (p : ℕ) → FirstStop rest plate.n p → NoCodewordAt plate w p
  stopped some p stop =
      let t = stop.stop (omega (arith, some)) in
      record {
        none = λ g. not-continued t.0 t.1 (record { by = w; codeword = g; same = λ i h. refl });
        within = omega (arith, t.2);
        sooner = λ i h. continued-before t.0 t.1 i (omega (arith, t.2));
        stops = λ h c.
            let e : p ≡ t.0 = omega (arith, t.2) in
            not-continued t.0 t.1 (subst (Continued (IsWord plate) w) e c);
      }
