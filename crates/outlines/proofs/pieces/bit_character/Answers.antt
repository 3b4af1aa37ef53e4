-- `pieces::bit_character` meets its contract.
use native.Mathlib.Omega.{arith}
use Rattle.words.proofs.Word.{bit-lt}
use Rattle.outlines.proofs.pieces.bit_character.Goals as goal

pub overflow_cast-result : goal.overflow_cast-result
overflow_cast-result c = omega (arith, bit-lt c.args.position c.args.word)

pub overflow_add-result : goal.overflow_add-result
overflow_add-result c = omega (arith, bit-lt c.args.position c.args.word)
