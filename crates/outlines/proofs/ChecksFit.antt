-- The parity checks of an input that is not refused are a matrix that can be written, but for having rows.
use Rattle.std.proofs.Common.{Ok}
use lib.ListN.{get_or, length}
use mathlib.Core.List.{List}
use mathlib.Core.Path.{◌≡◌, subst}
use Prim.Native.Nat.{◌<◌, ◌^◌, ℕ, ◌≤◌}
use Rattle.outlines.proofs.ChecksWritten.{plate-prepared}
use Rattle.outlines.proofs.Fitting.{rows_few}
use Rattle.outlines.proofs.RestTells.{rows-below}
use Rattle.outlines.specs.AlistText.{checks_in, checks_of}
use Rattle.outlines.specs.declared.opening.Which.TheVariants.{Dual}
use Rattle.outlines.specs.Opening.{kind_as}
use Rattle.plates.specs.declared.Kind.{Kind}
use Rattle.plates.specs.declared.Kind.TheVariants.{G, H}
use Rattle.plates.specs.declared.Prepared.{Prepared}
use Rattle.plates.specs.Prepare.{IsPrepared, Prepares, rows_of}
use Rattle.sheets.proofs.Ranges.{InRange, sheet-in-range}
use Rattle.sheets.specs.Sheet.{Contents, reading, says}
use Rattle.trellises.proofs.AcceptedIsPrepared.{accepted-length}

-- 1 to 64 columns, at most 64 rows, and no one at n or beyond
pub record ChecksFit (n : ℕ) (checks : List ℕ) : Type 0 where
  pub least : 1 ≤ n
  pub most : n ≤ 64
  pub few : length checks ≤ 64
  pub below : (j : ℕ) → j < length checks → get_or checks j 0 < 2 ^ n

checks-few : (kind : Kind) (rows dual : List ℕ) → length rows ≤ 64 → length dual ≤ 64 → length (checks_of kind rows dual) ≤ 64
checks-few G rows dual h k = k
checks-few H rows dual h k = h

checks-below : (kind : Kind) (n : ℕ) (rows dual : List ℕ) → ((j : ℕ) → j < length rows → get_or rows j 0 < 2 ^ n)
    → ((j : ℕ) → j < length dual → get_or dual j 0 < 2 ^ n) → (j : ℕ) → j < length (checks_of kind rows dual) → get_or (checks_of kind rows dual) j 0 < 2 ^ n
checks-below G n rows dual h k = k
checks-below H n rows dual h k = h

pub checks-fit : (input : List ℕ) (c : Contents) (dual : Prepared) → reading input ≡ says c → Prepares c.n (kind_as Dual c.kind) c.rows 0 dual
    → dual.verdict ≡ Ok tt → ChecksFit c.n (checks_in c dual)
checks-fit input c dual r p e = record {
  least = range.least;
  most = range.most;
  few = checks-few c.kind c.rows (rows_of dual.plate) range.few (rows_few good);
  below = checks-below c.kind c.n c.rows (rows_of dual.plate) range.below within;
}
  where
    range : InRange c
    range = sheet-in-range input c r

    good : IsPrepared dual.plate
    good = plate-prepared p e

    within : (j : ℕ) → j < length (rows_of dual.plate) → get_or (rows_of dual.plate) j 0 < 2 ^ c.n
    within j h =
        subst (λ (m : ℕ). get_or (rows_of dual.plate) j 0 < 2 ^ m) (accepted-length c.n (kind_as Dual c.kind) c.rows 0 dual p e)
        (rows-below dual.plate good j h)
