-- `trellis_main` meets its contract.
use lib.ListN.{length-replicate}
use mathlib.Core.Path.{◌∙◌}
use Prim.Native.Nat.{ℕ}
use Rattle.programs.proofs.Inputs.{stands-read}
use Rattle.programs.proofs.trellis_main.Goals as goal

pub print_listing-ending-requires : goal.print_listing-ending-requires
print_listing-ending-requires g c =
    let read = c.read_all in
    stands-read read.new.room (read.auto.room ∙ length-replicate {A = ℕ} _ 0) read.ensures.prefix_len read.ensures.stopped c.in-Ok.is
