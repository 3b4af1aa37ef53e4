-- `verbs::run_on` meets its contract.
use lib.ListN.{length-replicate}
use mathlib.Core.Path.{◌∙◌}
use Prim.Native.Nat.{ℕ}
use Rattle.programs.proofs.Inputs.{stands-read}
use Rattle.programs.proofs.verbs.run_on.Goals as goal

pub print_verb-ending-requires : goal.print_verb-ending-requires
print_verb-ending-requires g c =
    let read = c.read_all in
    stands-read read.new.room (read.auto.room ∙ length-replicate {A = ℕ} _ 0) read.ensures.prefix_len read.ensures.stopped c.in-Ok.is
