-- `plates::reduce::columns` meets its contract: column by column.
use Rattle.plates.specs.Reducing.{EchelonFrom}
use Rattle.plates.proofs.reduce.columns.Given as goal

abbrev pub invariant-loop-c : goal.invariant-loop-c
invariant-loop-c l = EchelonFrom l.initial.table l.table l.used l.k l.c
