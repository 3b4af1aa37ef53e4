-- `read_sheet` meets its contract.
use Rattle.std.proofs.lemmas.Result.{err_from_is_err_and}
use Rattle.sheets.proofs.Wholes.{sheet-body, sheet-head, sheet-long}
use Rattle.sheets.proofs.read_sheet.Goals as goal

pub returns-then-input-gt32768 : goal.returns-then-input-gt32768
returns-then-input-gt32768 c = sheet-long c.args.input.now c.args.table.now c.if-input-gt32768.true

pub read_body-requires : goal.read_body-requires
read_body-requires c =
    let i = c.read_head.ensures.is _ _ c.in_ok-cover.was in
    record {
      from_in_bounds = i.ended.high;
      input_len_bound = c.if-input-gt32768.false;
      n_bound = i.most;
    }

pub returns : goal.returns
returns c =
    let i = c.read_head.ensures.is _ _ c.in_ok-cover.was in
    sheet-body c.args.input.now c.args.table.now c.if-input-gt32768.false _ _ i c.read_body.result _ c.read_body.ensures

pub returns-in_err-cover : goal.returns-in_err-cover
returns-in_err-cover c =
    let p = err_from_is_err_and c.from_residual.result c.from_residual.ensures.1 in
    rw (p.1, p.2) (sheet-head c.args.input.now c.args.table.now c.if-input-gt32768.false _ (c.read_head.ensures.not _ c.in_err-cover.was))
