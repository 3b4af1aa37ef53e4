-- `exports::flat::put_rows` meets its contract: cell by cell.
use lib.ListN.{length-set}
use mathlib.Core.Path.{refl}
use native.Mathlib.Omega.{arith}
use lib.Seq.{paste-zero}
use Rattle.exports.proofs.CellsCopied.{pasted-end, pasted-on}
use Rattle.exports.proofs.flat.put_rows.Goals as goal

pub loop-j-init : goal.loop-j-init
loop-j-init c = (omega arith, refl, paste-zero c.args.words.now 2 c.args.rows.now)

pub loop-j-preserved : goal.loop-j-preserved
loop-j-preserved c =
    let l = c.loop-j in
    (omega arith, simp length-set l.invariant.1, pasted-on c.args.words.now _ c.args.rows.now 2 l.j _ (omega arith) (omega arith) refl l.invariant.2)

pub shape_of-words : goal.shape_of-words
shape_of-words c = c.loop-j.invariant.1

pub returns : goal.returns
returns c =
    let l = c.loop-j in
    pasted-end c.args.words.now _ c.args.rows.now 2 l.j 64 l.invariant.0 c.loop-j-test.false l.invariant.2
