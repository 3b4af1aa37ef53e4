-- `exports::flat::put_numbers` meets its contract: three cells.
use lib.ListN.{length-set, set}
use native.Mathlib.Omega.{arith}
use Rattle.exports.proofs.PlatePut.{headed}
use Rattle.exports.proofs.flat.put_numbers.Goals as goal

pub bounds-words-0 : goal.bounds-words-0
bounds-words-0 c = simp length-set (omega arith)

pub bounds-words-1 : goal.bounds-words-1
bounds-words-1 c = simp length-set (omega arith)

pub returns : goal.returns
returns c = headed (set c.args.words.now 131 c.args.mask) c.args.n c.args.k (simp length-set (omega arith))
