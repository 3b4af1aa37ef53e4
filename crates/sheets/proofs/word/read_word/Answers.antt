-- `word::read_word` meets its contract: a length that no word has, or a first letter that no word of its length has.
use borrow.Author.Tests.{ne_eqb}
use lib.ListN.{get_or}
use mathlib.Core.Path.{sym}
use native.Mathlib.Omega.{arith}
use Rattle.sheets.proofs.Spelling.{five, four, listed3, listed4, listed5, no_word, three}
use Rattle.sheets.proofs.word.read_word.Goals as goal

pub returns-in_default : goal.returns-in_default
returns-in_default c = sym (no_word c.args.f.now (λ e. omega arith) (λ e. omega arith) (λ e. omega arith))

pub returns-in_default-6 : goal.returns-in_default-6
returns-in_default-6 c =
    let f = c.args.f.now in
    rw (
      listed3 f (omega arith),
      three (get_or f 0 0) (get_or f 1 0) (get_or f 2 0),
      ne_eqb (get_or f 0 0) 114 (λ e. omega arith),
      ne_eqb (get_or f 0 0) 101 (λ e. omega arith),
    )

pub returns-in_default-10 : goal.returns-in_default-10
returns-in_default-10 c =
    let f = c.args.f.now in
    rw (
      listed4 f (omega arith),
      four (get_or f 0 0) (get_or f 1 0) (get_or f 2 0) (get_or f 3 0),
      ne_eqb (get_or f 0 0) 109 (λ e. omega arith),
    )

pub returns-in_default-23 : goal.returns-in_default-23
returns-in_default-23 c =
    let f = c.args.f.now in
    rw (
      listed5 f (omega arith),
      five (get_or f 0 0) (get_or f 1 0) (get_or f 2 0) (get_or f 3 0) (get_or f 4 0),
      ne_eqb (get_or f 0 0) 99 (λ e. omega arith),
      ne_eqb (get_or f 0 0) 98 (λ e. omega arith),
      ne_eqb (get_or f 0 0) 104 (λ e. omega arith),
    )

pub returns-in_default-24 : goal.returns-in_default-24
returns-in_default-24 c = sym (no_word c.args.f.now (λ e. omega arith) (λ e. omega arith) (λ e. omega arith))
