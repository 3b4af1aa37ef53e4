-- The plate that preparing a matrix accepts is prepared, and the sums of its rows are the words of the matrix's code.
use Rattle.std.proofs.Common.{Ok}
use lib.ListN.{get_or, length}
use mathlib.Core.List.{List}
use mathlib.Core.Logic.Iff
use mathlib.Core.Logic.{◌↔◌}
use mathlib.Core.Path.{refl, subst, sym, ◌≡◌}
use native.Mathlib.Decide.{dec_lt}
use native.Mathlib.Omega.{arith}
use Prim.Native.Nat.{◌<◌, ◌^◌, suc, zero, ℕ}
use Rattle.plates.proofs.SoundIsPrepared.{used-rows}
use Rattle.plates.specs.Code.{InCode}
use Rattle.plates.specs.declared.Kind.{Kind}
use Rattle.plates.specs.declared.Kind.TheVariants.{G, H}
use Rattle.plates.specs.declared.Plate.{Plate}
use Rattle.plates.specs.declared.Prepared.{Prepared}
use Rattle.plates.specs.declared.Refusal.{Refusal}
use Rattle.plates.specs.declared.Refusal.TheVariants.{RowBeyond}
use Rattle.plates.specs.Heads.{RowsOf}
use Rattle.plates.specs.Prepare.{IsPrepared, PlateOf, Prepares, PreparesAs, RowOver, Wide, prepare_conditions, rows_of}
use Rattle.plates.specs.Refusals.{Passes}
use Rattle.trellises.proofs.PlateGenerates.{code-closed, code-zero, plate-generates}
use Rattle.words.proofs.Sums.{all-zero}
use Rattle.words.proofs.Word.{below-bits, bits_below}
use Rattle.words.specs.Sum.{IsSum, sum_of}

-- where no row is refused, each is below 2 ^ n
pub all-below : (n : ℕ) (rows : List ℕ) → ((q : Refusal) → RowOver n rows q → ⊥) → (m j : ℕ) → j < m → j < length rows → get_or rows j 0 < 2 ^ n
all-below n rows h zero j b k = absurd (omega arith)
all-below n rows h (suc m) j b k = go (dec_lt (get_or rows j 0) (2 ^ n)) (λ i a. all-below n rows h m i (omega arith) (omega arith))
  where
    go : Dec (get_or rows j 0 < 2 ^ n) → ((i : ℕ) → i < j → get_or rows i 0 < 2 ^ n) → get_or rows j 0 < 2 ^ n
    go (yes a) before = a
    go (no a) before = absurd (h (RowBeyond j) (record { row = j; there = k; over = omega arith; first = before; is = refl }))

-- and so is each codeword
pub code_below : (kind : Kind) (n : ℕ) (rows : List ℕ) → ((q : Refusal) → RowOver n rows q → ⊥) → (w : ℕ) → InCode kind n rows w → w < 2 ^ n
code_below G n rows h w c =
    subst (λ (x : ℕ). x < 2 ^ n) c.sum
    (below-bits n (sum_of rows c.by) (λ i a. all-zero rows i (λ j k. bits_below n (get_or rows j 0) (all-below n rows h (suc j) j (omega arith) k) i a) c.by))
code_below H n rows h w c = c.below

-- two codes with the same words have the same plate rows
rows_same : (C D : ℕ → Type 0) → ((w : ℕ) → C w ↔ D w) → (rows : List ℕ) (f l : ℕ → ℕ) → RowsOf C rows f l → RowsOf D rows f l
rows_same C D e rows f l p = record {
  row = λ j k. (let b = p.row j k in record {
    codeword = (e (get_or rows j 0)).0 b.codeword;
    begins = b.begins;
    ends = b.ends;
    soonest = λ w q d. b.soonest w q ((e w).1 d);
    earliest = λ w d. b.earliest w ((e w).1 d);
  });
  order = p.order;
  heads = λ w q d. p.heads w q ((e w).1 d);
}

-- and the same plate
pub plate-same : (C D : ℕ → Type 0) → ((w : ℕ) → C w ↔ D w) → (n mask : ℕ) (plate : Plate) → PlateOf C n mask plate → PlateOf D n mask plate
plate-same C D e n mask plate a = record {
  length_n = a.length_n;
  mask_is = a.mask_is;
  few = a.few;
  table = a.table;
  rows = rows_same C D e (rows_of plate) _ _ a.rows;
  unused_rows = a.unused_rows;
  entries = a.entries;
  profile = a.profile;
  unused_entries = a.unused_entries;
}

-- a matrix, and what preparing it replies where it accepts
module _ (n : ℕ) (kind : Kind) (rows : List ℕ) (mask : ℕ) (r : Prepared) (p : Prepares n kind rows mask r) (e : r.verdict ≡ Ok tt) where
  -- the reply by its case
  pub accepted : Passes (prepare_conditions n kind rows mask) × PlateOf (InCode kind n rows) n mask r.plate
  accepted = subst (PreparesAs (prepare_conditions n kind rows mask) (InCode kind n rows) n mask r.plate) e p.reply

  -- the plate has the matrix's length
  pub accepted-length : r.plate.n ≡ n
  accepted-length = accepted.1.length_n

  -- and the mask
  pub accepted-mask : r.plate.mask ≡ mask
  accepted-mask = accepted.1.mask_is

  -- its rows generate the matrix's code
  pub accepted-code : (w : ℕ) → InCode kind n rows w ↔ IsSum (rows_of r.plate) w
  accepted-code =
      plate-generates (InCode kind n rows) (code-zero kind n rows) (code-closed kind n rows) (rows_of r.plate) _ _ accepted.1.rows

  -- it is what preparing its own rows as G gives
  pub accepted-prepared : IsPrepared r.plate
  accepted-prepared = record {
    few = accepted.1.few;
    same = subst (λ (x : ℕ). Prepares x G (rows_of r.plate) r.plate.mask (record { verdict = Ok tt; plate = r.plate })) (sym accepted-length)
        (subst (λ (m : ℕ). Prepares n G (rows_of r.plate) m (record { verdict = Ok tt; plate = r.plate })) (sym accepted-mask)
        (record { reply = (pass, answer) }));
  }
    where
      over : (q : Refusal) → RowOver n (rows_of r.plate) q → ⊥
      over q w =
          omega (
            arith,
            w.over,
            code_below kind n rows accepted.0.1.1.0 (get_or (rows_of r.plate) w.row 0)
                (accepted.1.rows.row w.row w.there).codeword,
          )

      wide : (q : Refusal) → Wide (IsSum (rows_of r.plate)) n q → ⊥
      wide q w =
          accepted.0.1.1.1.1.0 q (record {
            rows = w.rows;
            plate = rows_same (IsSum (rows_of r.plate)) (InCode kind n rows) (λ x. Iff.symm (accepted-code x)) w.rows _ _ w.plate;
            depth = w.depth;
            within = w.within;
            over = w.over;
            first = w.first;
            is = w.is;
          })

      pass : Passes (prepare_conditions n G (rows_of r.plate) mask)
      pass = (accepted.0.0, ((λ q b. omega (arith, b.0, used-rows r.plate accepted.1.few accepted.1.table, accepted.1.few)), (over, (accepted.0.1.1.1.0, (wide, tt)))))

      answer : PlateOf (IsSum (rows_of r.plate)) n mask r.plate
      answer = plate-same (InCode kind n rows) (IsSum (rows_of r.plate)) accepted-code n mask r.plate accepted.1
