-- `tally::decoded_share` meets its contract.
use Rattle.reports.proofs.TallyLaws.{same-tally}
use Rattle.reports.specs.Tally.{decoded_share, gained, lost}
use Rattle.std.proofs.Common.{refl, ap, ◌∙◌, to_z-of_z, w32}
use Rattle.reports.proofs.tally.decoded_share.Goals as goal

pub returns : goal.returns
returns c =
    let a = c.args in
    let z = to_z-of_z {w = w32} {z = a.answer.metric} (record { sfits = c.struct_told-1.given.1.0.1 }) in
    same-tally _ (decoded_share a.late a.missing a.samples.now a.answer) refl refl refl refl refl c.count_opposing-opposing.ensures c.count_zeros-zeros.ensures
    (c.gained-above.ensures ∙ ap gained z) (c.lost-below.ensures ∙ ap lost z)
