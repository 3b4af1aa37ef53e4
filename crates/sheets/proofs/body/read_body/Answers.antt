-- `body::read_body` meets its contract.
use Rattle.std.proofs.Common.{refl}
use borrow.Author.Rules.{rules}
use Rattle.sheets.proofs.MaskLines.{bad-mask, mask-ended, next-inside, with-mask, without-mask}
use Rattle.sheets.proofs.body.read_body.Goals as goal

pub read_lines-requires : goal.read_lines-requires
read_lines-requires c = record {
  from_in_bounds = next-inside c.requires.from_in_bounds c.until-end.ensures _ _ (rw c.in-Ok-Some.field-0-is at c.in-Ok-Some.ensures) refl;
  first_bound = search rules;
  input_len_bound = search rules;
  n_bound = search rules;
}

pub returns-in-Ok-Some : goal.returns-in-Ok-Some
returns-in-Ok-Some c =
    let h = rw c.in-Ok-Some.field-0-is at c.in-Ok-Some.ensures in
    with-mask h (mask-ended c.requires.from_in_bounds c.until-end.ensures _ _ h refl) refl c.read_lines.ensures

pub returns-in-Ok-None : goal.returns-in-Ok-None
returns-in-Ok-None c = without-mask (rw c.in-Ok-None.field-0-is at c.in-Ok-None.ensures) refl c.read_lines-in-Ok-None.ensures

pub returns-in-Err : goal.returns-in-Err
returns-in-Err c = search bad-mask
