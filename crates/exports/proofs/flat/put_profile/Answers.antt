-- `exports::flat::put_profile` meets its contract: cell by cell.
use lib.ListN.{length-set}
use mathlib.Core.Path.{refl}
use native.Mathlib.Omega.{arith}
use lib.Seq.{paste-zero}
use Rattle.exports.proofs.CellsCopied.{pasted-end, pasted-on}
use Rattle.exports.proofs.flat.put_profile.Goals as goal

pub loop-t-init : goal.loop-t-init
loop-t-init c = (omega arith, refl, paste-zero c.args.words.now 66 c.args.profile.now)

pub loop-t-preserved : goal.loop-t-preserved
loop-t-preserved c =
    let l = c.loop-t in
    (omega arith, simp length-set l.invariant.1, pasted-on c.args.words.now _ c.args.profile.now 66 l.t _ (omega arith) (omega arith) c.wide.ensures l.invariant.2)

pub shape_of-words : goal.shape_of-words
shape_of-words c = c.loop-t.invariant.1

pub returns : goal.returns
returns c =
    let l = c.loop-t in
    pasted-end c.args.words.now _ c.args.profile.now 66 l.t 65 l.invariant.0 c.loop-t-test.false l.invariant.2
