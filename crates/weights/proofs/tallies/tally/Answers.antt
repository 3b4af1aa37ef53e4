-- `weights::tallies::tally` meets its contract.
use lib.ListN.{replicate}
use lib.Pow.{pow_pos}
use mathlib.Core.Path.{ap, sym, ◌∙◌}
use Prim.Native.Nat.{ℕ}
use Rattle.weights.proofs.SweepWays.{counted, start-room}
use Rattle.weights.proofs.tallies.tally.Goals as goal

pub copy_out-requires : goal.copy_out-requires
copy_out-requires c =
    (c.requires.in_bounds, start-room _ _ _ _ c.requires.tally_fits _ _ c.sweep-from.ensures (pow_pos _))

pub returns : goal.returns
returns c =
    record {
      counted = counted _ _ _ _ c.requires.tally_fits _ _ c.sweep-from.ensures (pow_pos _) _ _ c.copy_out.ensures;
      working_after = c.clear.ensures ∙ ap (λ (m : ℕ). replicate m 0) (c.sweep-from.ensures.size ∙ sym c.requires.tally_fits.size);
    }
