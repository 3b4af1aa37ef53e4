-- `listings::write_profile` meets its contract: it is the call over the plate's parts.
use mathlib.Core.Path.{subst}
use Rattle.plates.specs.declared.Plate.{Plate}
use Rattle.listings.specs.Writing.{WritesProfile}
use Rattle.listings.proofs.write_profile.Goals as goal

pub returns : goal.returns
returns c =
    let w = c.write_profile_parts in
    subst (λ (p : Plate). WritesProfile p c.args.room.now w.result w.new.room) (c.lend.ensures.whole c.widened-profile.ensures) w.ensures
