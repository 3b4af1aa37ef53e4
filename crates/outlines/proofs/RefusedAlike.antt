-- Theorem: a sheet's own matrix and its dual are refused alike, so that `dual` and `alist` refuse what `sheet` refuses, with the same number and place.
use Rattle.std.proofs.Common.{Result, Ok, Err}
use lib.Pow.{pow_pos}
use mathlib.Core.List.{List}
use mathlib.Core.Logic.{inl, inr}
use mathlib.Core.Path.{◌≡◌, ap, refl, sym, ◌∙◌}
use native.Mathlib.Omega.{arith}
use Prim.Native.Nat.{◌<◌, ◌^◌, ℕ}
use Rattle.outlines.specs.declared.opening.Which.TheVariants.{Dual, Own}
use Rattle.outlines.specs.Opening.{Opened, OpenedAs, kind_as}
use Rattle.plates.specs.Code.{InCode}
use Rattle.plates.specs.declared.Kind.{Kind}
use Rattle.plates.specs.declared.Kind.TheVariants.{G, H}
use Rattle.plates.specs.declared.Plate.{Plate}
use Rattle.plates.specs.declared.Prepared.{Prepared}
use Rattle.plates.specs.declared.Refusal.{Refusal}
use Rattle.plates.specs.Prepare.{Prepares, PreparesAs, mask_beyond, prepare_conditions}
use Rattle.plates.specs.Refusals.{Refuses}
use Rattle.sheets.proofs.Ranges.{sheet-in-range}
use Rattle.sheets.specs.Sheet.{Reading, reading, refused, says}
use Rattle.trellises.proofs.DualReplies.{same-verdict}

-- ---- a mask within the length changes no verdict

module _ (n : ℕ) (kind : Kind) (rows : List ℕ) (mask : ℕ) (low : mask < 2 ^ n) where
  none : (p : Refusal) → mask_beyond n 0 p → ⊥
  none p x = omega (arith, x.0, pow_pos n)

  refuses-plain : (q : Refusal) → Refuses (prepare_conditions n kind rows mask) q → Refuses (prepare_conditions n kind rows 0) q
  refuses-plain q (inl x) = inl x
  refuses-plain q (inr (a, inl x)) = inr (a, inl x)
  refuses-plain q (inr (a, inr (b, inl x))) = inr (a, inr (b, inl x))
  refuses-plain q (inr (a, inr (b, inr (c, inl x)))) = absurd (omega (arith, x.0, low))
  refuses-plain q (inr (a, inr (b, inr (c, inr (d, x))))) = inr (a, inr (b, inr (c, inr (none, x))))

  -- what preparing replies without the mask
  plain : (plate : Plate) (v : Result (Unit {0}) Refusal) → PreparesAs (prepare_conditions n kind rows mask) (InCode kind n rows) n mask plate v
      → (r : Prepared) × Prepares n kind rows 0 r × (r.verdict ≡ v)
  plain plate (Err q) x = (record { verdict = Err q; plate = plate }, record { reply = (refuses-plain q x.0, x.1) }, refl)
  plain plate (Ok _) (p, x) = (
    record { verdict = Ok tt; plate = record { n = plate.n; k = plate.k; mask = 0; rows = plate.rows; profile = plate.profile } },
    record {
      reply = (
        (p.0, (p.1.0, (p.1.1.0, (none, p.1.1.1.1)))),
        record {
          length_n = x.length_n;
          mask_is = refl;
          few = x.few;
          table = x.table;
          rows = x.rows;
          unused_rows = x.unused_rows;
          entries = x.entries;
          profile = x.profile;
          unused_entries = x.unused_entries;
        },
      );
    },
    refl,
  )

-- ---- the same matrix under both letters

either : (kind : Kind) (n : ℕ) (rows : List ℕ) (r s : Prepared) → Prepares n kind rows 0 r → Prepares n (kind_as Dual kind) rows 0 s → r.verdict ≡ s.verdict
either G n rows r s x y = same-verdict n rows r s x y
either H n rows r s x y = sym (same-verdict n rows s r y x)

pub refused-alike : {input : List ℕ} {own dual : Prepared} → Opened Own input own → Opened Dual input dual → own.verdict ≡ dual.verdict
refused-alike {input} {own} {dual} x y = by (reading input) refl x.is y.is
  where
    by : (found : Reading) → reading input ≡ found → OpenedAs Own found own → OpenedAs Dual found dual → own.verdict ≡ dual.verdict
    by (refused q) f u v = ap (λ (r : Prepared). r.verdict) (u ∙ sym v)
    by (says c) f u v =
        let r = plain c.n c.kind c.rows c.mask (sheet-in-range input c f).masked own.plate own.verdict u.reply in
        sym r.2 ∙ either c.kind c.n c.rows r.0 dual r.1 v
