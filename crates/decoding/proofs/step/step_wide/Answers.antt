-- `step::step_wide` meets its contract. The states of the first `at` decision words are done.
use mathlib.Core.Path.{refl}
use native.Mathlib.Omega.{arith}
use Rattle.decoding.proofs.TablesChecked.{weights-are}
use Rattle.decoding.proofs.Progress.{fill-asks, word_fits, word-prepared, words-all, words_more, words-none}
use Rattle.decoding.proofs.step.step_wide.Goals as goal

pub power-words-requires : goal.power-words-requires
power-words-requires c = omega (arith, c.requires.1.section.narrow)

pub fill-requires : goal.fill-requires
fill-requires c = fill-asks c.requires.1 refl refl weights-are

pub loop-at-init : goal.loop-at-init
loop-at-init c = words-none c.requires.0 c.requires.1 c.power-words.ensures refl refl

-- more facts than `search` joins: back from the call, place by place
pub word-raised-requires : goal.word-raised-requires
word-raised-requires c = (
  word-prepared c.requires.0 c.requires.1 c.loop-at.invariant c.loop-at-test.true c.pattern-pattern.ensures c.lower_half.ensures
      weights-are c.fill.ensures,
  word_fits c.requires.0 c.requires.1 c.loop-at.invariant c.loop-at-test.true c.pattern-pattern.ensures,
)

pub loop-at-preserved : goal.loop-at-preserved
loop-at-preserved c = words_more c.requires.0 c.requires.1 c.loop-at.invariant c.loop-at-test.true c.word-raised.ensures

pub shape_of-metrics : goal.shape_of-metrics
shape_of-metrics c = c.loop-at.invariant.done.size

pub shape_of-decisions : goal.shape_of-decisions
shape_of-decisions c = c.loop-at.invariant.done.words

pub returns : goal.returns
returns c = search words-all
