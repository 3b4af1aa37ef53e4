-- Theorem: what `from-alist` prints for the alist text of a sheet is read as a sheet with the same code.
use lib.Bits.{xor_zero_r}
use lib.ListN.{get_or, length}
use lib.Pow.{pow_pos}
use mathlib.Core.List.{List}
use mathlib.Core.Logic.{◌↔◌}
use mathlib.Core.Path.{ap, refl, subst, sym, ◌∙◌}
use native.Mathlib.Omega.{arith}
use Prim.Native.Nat.{◌<◌, ◌^◌, ℕ, ◌≤◌}
use Rattle.alists.proofs.ReadsBack.{written-reads-back}
use Rattle.alists.specs.Accepted.{Sized}
use Rattle.alists.specs.Reading as A
use Rattle.outlines.proofs.ChecksFit.{ChecksFit, checks-fit}
use Rattle.outlines.proofs.CheckedByAll.{checked-by-all}
use Rattle.outlines.proofs.DoubleDual.{checks-sums}
use Rattle.outlines.proofs.Enough.{alist-length}
use Rattle.outlines.proofs.MatricesGiven.{by-reading}
use Rattle.outlines.proofs.ReadBack.{canonical, read_back}
use Rattle.outlines.specs.AlistText.{GivesBack, PrintsAlist, checks_in, checks_of, checks_sheet, given_by}
use Rattle.outlines.specs.declared.opening.Which.TheVariants.{Dual}
use Rattle.outlines.specs.Opening.{kind_as}
use Rattle.plates.specs.Code.{InCode}
use Rattle.plates.specs.declared.Kind.{Kind}
use Rattle.plates.specs.declared.Kind.TheVariants.{G, H}
use Rattle.plates.specs.Heads.{RowsOf}
use Rattle.plates.specs.Prepare.{rows_of}
use Rattle.sheets.proofs.Ranges.{sheet-in-range}
use Rattle.trellises.proofs.AcceptedIsPrepared.{accepted, code_below}
use Rattle.trellises.proofs.PlateGenerates.{code-closed, code-zero, plate-generates}
use Rattle.words.proofs.Parity.{parity-comm}
use Rattle.words.specs.Ends.{firsts, lasts}
use Rattle.words.specs.Sum.{IsSum}

-- ---- the checks of a matrix

-- they have its code: of a generator's because the dual of the dual is the code
checks-code : (kind : Kind) (n : ℕ) (rows dual : List ℕ) → ((j : ℕ) → j < length rows → get_or rows j 0 < 2 ^ n)
    → RowsOf (InCode (kind_as Dual kind) n rows) dual (firsts dual) (lasts dual) → (w : ℕ)
    → InCode H n (checks_of kind rows dual) w ↔ InCode kind n rows w
checks-code H n rows dual below p w = ((λ c. c), λ c. c)
checks-code G n rows dual below p w = (
  (λ c. checked-by-all n rows below w c.below (λ v d. checks-sums n dual w v c ((sums v).0 d))),
  λ s. record {
    below = code_below G n rows (λ r o. omega (arith, below o.row o.there, o.over)) w s;
    even = λ j k. parity-comm (get_or dual j 0) w ∙ checks-sums n rows (get_or dual j 0) w (p.row j k).codeword s;
  },
)
  where
    sums : (v : ℕ) → InCode H n rows v ↔ IsSum dual v
    sums = plate-generates (InCode H n rows) (code-zero H n rows) (code-closed H n rows) dual (firsts dual) (lasts dual) p

-- ---- the text of an input

module _ {input text : List ℕ} (s : PrintsAlist input text) where
  abbrev n : ℕ
  n = s.sheet.n

  abbrev kind : Kind
  kind = s.sheet.kind

  abbrev rows : List ℕ
  rows = s.sheet.rows

  abbrev checks : List ℕ
  checks = checks_in s.sheet s.dual

  fit : ChecksFit n checks
  fit = checks-fit input s.sheet s.dual s.reads s.prepares s.accepted

  sized : Sized n checks
  sized = record { least = fit.least; most = fit.most; some = s.some; few = fit.few; below = fit.below }

  -- it is no longer than an input may be
  pub alist-short : length text ≤ 32768
  alist-short = omega (arith, ap length s.is, alist-length n checks sized.most sized.few)

  code : (w : ℕ) → InCode H n checks w ↔ InCode kind n rows w
  code =
      checks-code kind n rows (rows_of s.dual.plate) (sheet-in-range input s.sheet s.reads).below
      (accepted n (kind_as Dual kind) rows 0 s.dual s.prepares s.accepted).1.rows

  pub gives_back : GivesBack s.sheet text
  gives_back = record {
    printed = checks_sheet n checks;
    prints = record {
      n = n;
      rows = checks;
      reads = by-reading text alist-short ∙ ap given_by (ap A.reading s.is ∙ written-reads-back n checks sized);
      is = refl;
    };
    sheet = canonical H n 0 checks;
    reads = read_back H n 0 checks sized.least sized.most sized.few (omega (arith, pow_pos n)) sized.below;
    same = (refl, λ w. subst (λ (x : ℕ). InCode H n checks x ↔ InCode kind n rows w) (sym (xor_zero_r w)) (code w));
  }
