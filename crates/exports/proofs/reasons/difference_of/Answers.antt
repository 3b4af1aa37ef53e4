-- `exports::reasons::difference_of` meets its contract.
use mathlib.Core.Path.{◌∙◌, ap, sym}
use mir.Facts.{to_z-of_z}
use mir.Syntax.{w32}
use Rattle.exports.specs.Explaining.{reason_difference}
use Rattle.exports.proofs.reasons.difference_of.Goals as goal

pub returns-in-Chosen : goal.returns-in-Chosen
returns-in-Chosen c = sym (ap reason_difference c.in-Chosen.is)

pub returns-in-NoCodeword : goal.returns-in-NoCodeword
returns-in-NoCodeword c = sym (ap reason_difference c.in-NoCodeword.is)

pub returns-in-ScoresLess : goal.returns-in-ScoresLess
returns-in-ScoresLess c =
    to_z-of_z {w = w32} (record { sfits = c.in-ScoresLess.known_told-1-own.given.0.1 }) ∙ sym (ap reason_difference c.in-ScoresLess.is)

pub returns-in-TiesAndLoses : goal.returns-in-TiesAndLoses
returns-in-TiesAndLoses c = sym (ap reason_difference c.in-TiesAndLoses.is)
