-- The ways of a plate from the start are its codewords, counted by weight.
use lib.Count.{ones, ones-le}
use lib.Dec.{T, eqb, eqb_refl, eqb→eq}
use lib.ListN.{length}
use lib.Pow.{pow_mono}
use mathlib.Core.Bool.{◌&&◌}
use mathlib.Core.List.{List}
use mathlib.Core.Path.{ap, subst, sym, ◌∙◌, ◌≡◌}
use native.Mathlib.Omega.{arith}
use Prim.Native.Nat.{◌*◌, ◌+◌, ◌<◌, ◌^◌, suc, ℕ, ◌≤◌}
use Rattle.decoding.proofs.PlateSizes.{plate-sizes-fit}
use Rattle.decoding.proofs.PlateWays.{plate-chain, start-state}
use Rattle.decoding.specs.Decode.{widest}
use Rattle.plates.proofs.Live.{and_left, and_right, and-true}
use Rattle.plates.proofs.ProfileSteps.{span-le}
use Rattle.plates.proofs.SoundIsPrepared.{sound, used-rows}
use Rattle.plates.specs.declared.Plate.{Plate}
use Rattle.plates.specs.Prepare.{IsPrepared, rows_of}
use Rattle.trellises.proofs.PlateTrellis.{plate-fits, plate-spans, plate-spells}
use Rattle.trellises.specs.SectionOf.{section_of}
use Rattle.weights.proofs.WaysAdded.{later, later-all, later-most, total-most, ways-total}
use Rattle.weights.proofs.WaysCounted.{spells, ways-counted}
use Rattle.weights.proofs.WaysSpelled.{spelled}
use Rattle.weights.specs.Number.{total}
use Rattle.weights.specs.Tallying.{TallyFits}
use Rattle.weights.specs.Ways.{ways}
use Rattle.weights.specs.Weights.{NumberOfWeight, OfWeight}
use Rattle.words.specs.Ends.{firsts, lasts}
use Rattle.words.specs.Sum.{IsSum}

module _ (plate : Plate) (given : IsPrepared plate) where
  size : length (rows_of plate) ≡ plate.k
  size = used-rows plate (sound given).few (sound given).table

  -- the numbers of ways from the start are the numbers of codewords
  pub ways-number : (w : ℕ) → NumberOfWeight plate w (ways (section_of (rows_of plate)) plate.n 0 0 w)
  ways-number w = record {
    test = λ x. spells (section_of (rows_of plate)) plate.n 0 0 x && eqb (ones x) w;
    right = λ x l. (
      (λ t. record {
        codeword = (spelled plate given x l).0 (and_left (spells (section_of (rows_of plate)) plate.n 0 0 x) (eqb (ones x) w) t);
        weight = eqb→eq (ones x) w (and_right (spells (section_of (rows_of plate)) plate.n 0 0 x) (eqb (ones x) w) t);
      }),
      λ p. and-true (spells (section_of (rows_of plate)) plate.n 0 0 x) (eqb (ones x) w) ((spelled plate given x l).1 p.codeword)
          (subst (λ (v : ℕ). T (eqb (ones x) v)) p.weight (eqb_refl (ones x))),
    );
    number = sym (ways-counted (section_of (rows_of plate)) plate.n (plate-chain plate given) plate.n 0 0 w (omega arith) (start-state plate given));
  }

  first_fits : (j : ℕ) → j < length (rows_of plate) → firsts (rows_of plate) j < plate.n
  first_fits j l =
      let rows = rows_of plate in
      omega (arith, span-le rows (firsts rows) (lasts rows) (plate-spans plate given) j l, plate-fits plate given j l)

  -- they add up to 2 ^ k
  pub ways-add : total 65 (ways (section_of (rows_of plate)) plate.n 0 0) ≡ 2 ^ plate.k
  ways-add =
      ways-total (section_of (rows_of plate)) plate.n 0 0 65 (omega (arith, (sound given).short))
      ∙ ap (λ (m : ℕ). 2 ^ m) (later-all (rows_of plate) (plate-spans plate given) plate.n first_fits ∙ size)

  -- none of them overflows
  ways-small : plate.k < 64 → (d t i w : ℕ) → t + d ≡ plate.n → ways (section_of (rows_of plate)) d t i w < 2 ^ 64
  ways-small h d t i w e =
      let a : ways (section_of (rows_of plate)) d t i w ≤ total (suc (d + w)) (ways (section_of (rows_of plate)) d t i) =
      total-most (suc (d + w)) (ways (section_of (rows_of plate)) d t i) w (omega arith) in
      let k : later (section_of (rows_of plate)) d t ≤ 63 =
      omega (arith, later-most (rows_of plate) (plate-spans plate given) plate.n first_fits d t e, size) in
      omega (arith, a, ways-total (section_of (rows_of plate)) d t i (suc (d + w)) (omega arith), pow_mono k)

  pub tally-fits : plate.k < 64 → (half : ℕ) → half ≡ 2 ^ widest plate * 65 → (working : List ℕ) → length working ≡ half + half
      → TallyFits (rows_of plate) plate.n half working
  tally-fits h half e working l =
      let z = plate-sizes-fit plate given in
      record {
        short = (sound given).short;
        few = omega (arith, size, (sound given).few);
        chain = plate-chain plate given;
        room = λ t k. omega (arith, e, z.half_room t k);
        end = z.end_state;
        size = l;
        small = omega (arith, e, z.half_small);
        most = ways-small h;
      }

  -- ---- what the numbers say

  -- a codeword is a word of length n, and so has at most n ones
  pub codeword-below : {x : ℕ} → IsSum (rows_of plate) x → x < 2 ^ plate.n
  codeword-below {x} g = (((plate-spells plate given).exact x).0 g).0

  pub weight-most : {w x : ℕ} → OfWeight plate w x → w ≤ plate.n
  weight-most {w} {x} p = omega (arith, ones-le plate.n x (codeword-below p.codeword), p.weight)
