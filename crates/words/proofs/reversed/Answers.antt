-- `words::reversed` meets its contract.
use Rattle.std.proofs.Common.{arith, ap, ◌∙◌, ℕ, ◌≤◌}
use Rattle.words.proofs.Reversing.{turning-doubles, turning-end, turning-fits, turning-on, turning-start}
use Rattle.words.specs.Reversed.{reversed}
use Rattle.words.proofs.reversed.Goals as goal

pub loop-i-init : goal.loop-i-init
loop-i-init c = search turning-start

pub overflow_mul-turned : goal.overflow_mul-turned
overflow_mul-turned c = let few : c.min-end.result ≤ 64 = omega (arith, c.min-end.ensures) in search turning-doubles

pub overflow_add-turned : goal.overflow_add-turned
overflow_add-turned c = let few : c.min-end.result ≤ 64 = omega (arith, c.min-end.ensures) in search turning-fits

pub loop-i-preserved : goal.loop-i-preserved
loop-i-preserved c = let few : c.min-end.result ≤ 64 = omega (arith, c.min-end.ensures) in search turning-on

pub returns : goal.returns
returns c = turning-end c.loop-i.invariant c.loop-i-test.false ∙ ap (λ (k : ℕ). reversed k c.args.word) c.min-end.ensures
