-- `plates::profile::next_live` meets its contract.
use native.Mathlib.Omega.{arith}
use Rattle.words.proofs.Word.{bit-lt}
use Rattle.plates.proofs.profile.next_live.Goals as goal

pub overflow_add-result : goal.overflow_add-result
overflow_add-result c = omega (arith, bit-lt c.args.t c.args.heads)
