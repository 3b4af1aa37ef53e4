-- `number::read_number` meets its contract.
use borrow.Author.Tests.{eq-eqb, le-ltb, lt-ltb, ne_eqb}
use lib.ListN.{length}
use mathlib.Core.Path.{◌∙◌, sym}
use native.Mathlib.Nat.{pow-le-pow_right}
use native.Mathlib.Omega.{arith}
use Prim.Native.Nat.{◌≤◌}
use Rattle.sheets.proofs.Digits.{below_more}
use Rattle.sheets.proofs.number.read_number.Goals as goal

pub returns-then-length-eq0 : goal.returns-then-length-eq0
returns-then-length-eq0 c = record { is = simp (eq-eqb _ _ c.if-length-eq0.true); below = tt }

pub returns-then-most-length : goal.returns-then-most-length
returns-then-most-length c =
    record { is = simp (ne_eqb _ _ c.if-length-eq0.false, lt-ltb _ _ c.if-most-length.true); below = tt }

pub returns-then-leading_zero : goal.returns-then-leading_zero
returns-then-leading_zero c =
    record {
      is = rw (ne_eqb _ _ c.if-length-eq0.false, le-ltb _ _ c.if-most-length.false, sym c.leading_zero.ensures ∙ c.if-leading_zero.true);
      below = tt;
    }

pub returns : goal.returns
returns c =
    let a = c.args in
    let h : length a.f.now ≤ a.most = omega arith in
    record {
      is = rw (ne_eqb _ _ c.if-length-eq0.false, le-ltb _ _ c.if-most-length.false, sym c.leading_zero.ensures ∙ c.if-leading_zero.false) c.read_digits.ensures.is;
      below = below_more c.read_digits.result (pow-le-pow_right (omega arith) h) c.read_digits.ensures.below;
    }
