-- The replies of `encode` and `read_back`, case by case.
use Rattle.std.proofs.Common.{Ok, Err}
use lib.Bits.{bit_xor, xor_zero_r}
use lib.ListN.{length}
use mathlib.Core.Bool.{Bool, false, true}
use mathlib.Core.Logic.{inl, inr, ◌⊎◌}
use mathlib.Core.Path.{ap, refl, subst, sym, ◌∙◌, ◌≡◌}
use native.Mathlib.Omega.{arith}
use Prim.Native.Nat.{◌<◌, ◌^◌, ℕ, ◌≤◌}
use Rattle.coding.proofs.PlateWords.{makes_word}
use Rattle.coding.specs.Coding.{Encodes, ReadsBack}
use Rattle.coding.specs.declared.Reading.{Reading}
use Rattle.coding.specs.TakingOff.{Headed, Reaches, Read}
use Rattle.plates.proofs.SoundIsPrepared.{sound, used-row, used-rows}
use Rattle.plates.specs.declared.Plate.{Plate}
use Rattle.plates.specs.declared.Refusal.TheVariants.{InformationBeyond, NoCodeword, NotPrepared}
use Rattle.plates.specs.Prepare.{IsPrepared, Tests, rows_of}
use Rattle.plates.specs.Sound.{Sound}
use Rattle.words.proofs.Span.{Nothing, Top, least, rising-apart, zero_one}
use Rattle.words.proofs.Sums.{in-xor}
use Rattle.words.proofs.Word.{xor-cancel}
use Rattle.words.specs.Ends.{first, firsts}
use Rattle.words.specs.Span.{Before, First}
use Rattle.words.specs.Sum.{IsSum, sum_of}
use Rattle.words.specs.Word.{bit}

-- the rows of a sound plate, as taking them off asks
plate-headed : {plate : Plate} → Sound plate → Headed plate.rows plate.k
plate-headed {plate} s = record {
  table = s.table;
  few = s.few;
  head = λ j h. subst (λ (x : ℕ). First x (first x)) (used-row plate j h) (s.reduced.spans.first j (omega (arith, size)));
  rising = λ i j h k.
      subst (λ (x : ℕ). x < firsts plate.rows j) (ap first (used-row plate i (omega arith)))
      (subst (λ (x : ℕ). firsts (rows_of plate) i < x) (ap first (used-row plate j k)) (s.reduced.spans.rising i j h (omega (arith, size))));
}
  where
    size : length (rows_of plate) ≡ plate.k
    size = used-rows plate s.few s.table

module _ {plate : Plate} (given : IsPrepared plate) (word : ℕ) (r : Reading) (read : Read plate.rows plate.k word plate.k r) where
  -- the rest of a codeword is a codeword with 0 at every head, so it is 0
  pub read-no-codeword : (r.rest ≡ 0 → ⊥) → IsSum (rows_of plate) word → ⊥
  read-no-codeword n g = go (least (rows_of plate) _ s.reduced.spans.first (rising-apart (length (rows_of plate)) _ s.reduced.spans.rising) left.by)
    where
      s : Sound plate
      s = sound given

      left : IsSum (rows_of plate) r.rest
      left =
          let sum : ℕ = sum_of (rows_of plate) r.information in
          subst (IsSum (rows_of plate)) (ap (bit_xor sum) (sym read.together) ∙ xor-cancel sum r.rest) (in-xor (record { by = r.information; sum = refl }) g)

      go : (Nothing (length (rows_of plate)) left.by × (sum_of (rows_of plate) left.by ≡ 0)) ⊎ Top Before (rows_of plate) (firsts (rows_of plate)) left.by
          → ⊥
      go (inl z) = n (sym left.sum ∙ z.1)
      go (inr t) =
          let k : t.0 < plate.k = omega (arith, t.1, used-rows plate s.few s.table) in
          zero_one (subst (λ (p : ℕ). bit r.rest p ≡ 0) (ap first (sym (used-row plate t.0 k))) (read.cleared t.0 k))
          (subst (λ (x : ℕ). bit x (firsts (rows_of plate) t.0) ≡ 1) left.sum t.3.one)

  pub read-codeword : r.rest ≡ 0 → sum_of (rows_of plate) r.information ≡ word
  read-codeword e = sym (xor_zero_r (sum_of (rows_of plate) r.information)) ∙ ap (bit_xor (sum_of (rows_of plate) r.information)) (sym e) ∙ read.together

-- the rows are taken off the word plus mask
module _ {plate : Plate} (given : IsPrepared plate) (word : ℕ) (r : Reading)
    (read : Read plate.rows plate.k (bit_xor word plate.mask) plate.k r) where
  read-information : r.rest ≡ 0 → ReadsBack plate word (Ok r.information)
  read-information e =
      let codeword = read-codeword given (bit_xor word plate.mask) r read e in (
        ((λ q b. b.0 given), ((λ q b. b.0 (record { by = r.information; sum = codeword })), tt)),
        read.short,
        makes_word plate r.information word codeword,
      )

  read-refused : (r.rest ≡ 0 → ⊥) → ReadsBack plate word (Err NoCodeword)
  read-refused n = inr ((λ q b. b.0 given), inl (read-no-codeword given (bit_xor word plate.mask) r read n, refl))

-- the mask is added to the sum of the rows
encoded-word : {plate : Plate} {information sum : ℕ} → IsPrepared plate → information < 2 ^ plate.k → sum ≡ sum_of (rows_of plate) information
    → Encodes plate information (Ok (bit_xor sum plate.mask))
encoded-word {plate} given short e =
    (((λ q b. b.0 given), ((λ q b. omega (arith, b.0, short)), tt)), ap (λ (x : ℕ). bit_xor x plate.mask) e)

-- by the test of the plate: it is refused where that says no
module _ {plate : Plate} {p : Bool} (t : Tests plate p) where
  pub encode-refused : {information : ℕ} → p ≡ false → Encodes plate information (Err NotPrepared)
  encode-refused e = inl (t.no_is e, refl)

  pub read-back-refused : (word : ℕ) → p ≡ false → ReadsBack plate word (Err NotPrepared)
  read-back-refused word e = inl (t.no_is e, refl)

  module _ (e : p ≡ true) where
    given : IsPrepared plate
    given = t.yes_is e

    pub rows_long : length plate.rows ≡ 64
    rows_long = (sound given).table

    pub rows_few : plate.k ≤ 64
    rows_few = (sound given).few

    pub rows-headed : Headed plate.rows plate.k
    rows-headed = plate-headed (sound given)

    module _ {information : ℕ} {r : Bool} (o : Reaches information plate.k r) where
      pub over-refused : r ≡ true → Encodes plate information (Err InformationBeyond)
      over-refused e = inr ((λ q b. b.0 given), inl (o.yes_is e, refl))

      pub encoded : {sum : ℕ} → r ≡ false → sum ≡ sum_of (rows_of plate) information → Encodes plate information (Ok (bit_xor sum plate.mask))
      encoded e s = encoded-word given (o.no_is e) s

    module _ (word : ℕ) {r : Reading} (read : Read plate.rows plate.k (bit_xor word plate.mask) plate.k r) where
      pub no_word : (r.rest ≡ 0 → ⊥) → ReadsBack plate word (Err NoCodeword)
      no_word = read-refused given word r read

      pub informed : r.rest ≡ 0 → ReadsBack plate word (Ok r.information)
      informed = read-information given word r read
