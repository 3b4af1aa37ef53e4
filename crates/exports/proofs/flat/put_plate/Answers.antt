-- `exports::flat::put_plate` meets its contract: the three steps.
use Rattle.exports.proofs.PlatePut.{put_whole}
use Rattle.exports.proofs.flat.put_plate.Goals as goal

pub returns : goal.returns
returns c =
    let a = c.args in
    put_whole a.words.now a.plate.now c.requires.0 c.requires.1 c.requires.2 _ _ _
    c.put_numbers.ensures
    c.put_rows.ensures
    c.put_profile.ensures
