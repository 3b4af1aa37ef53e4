-- `plates::tested::sound` meets its contract.
use lib.ListN.{length-take}
use lib.Seq.{length-take-le}
use mathlib.Core.Path.{sym}
use native.Mathlib.Omega.{arith}
use Rattle.plates.proofs.Deciding.{alike, fails}
use Rattle.plates.proofs.Replies.{not_beyond}
use Rattle.plates.proofs.SoundParts.{entries-part, rows-part, sound-parts, used-part}
use Rattle.plates.proofs.tested.sound.Goals as goal

pub returns-then-plate-eq0 : goal.returns-then-plate-eq0
returns-then-plate-eq0 c = fails (λ s. omega (arith, s.positive, c.if-plate-eq0.true))

pub returns-then-plate-gt64 : goal.returns-then-plate-gt64
returns-then-plate-gt64 c = fails (λ s. omega (arith, s.short, c.if-plate-gt64.true))

pub returns-then-plate-gt64-2 : goal.returns-then-plate-gt64-2
returns-then-plate-gt64-2 c = fails (λ s. omega (arith, s.few, c.if-plate-gt64-2.true))

pub returns-then-reaches : goal.returns-then-reaches
returns-then-reaches c = fails (λ s. omega (arith, s.masked, (c.reaches.ensures.yes_is c.if-reaches.true).over))

pub slice_bounds-used_sound-end : goal.slice_bounds-used_sound-end
slice_bounds-used_sound-end c = sym (length-take-le _ _ (omega (arith, c.requires.rows_len, c.if-plate-gt64-2.false)))

pub used_sound-requires : goal.used_sound-requires
used_sound-requires c =
    let a = c.args.plate in
    record {
      n_bound = (c.if-plate-gt64.false, c.requires.profile_len);
      rows_len_bound = omega (arith, length-take a.k a.rows.now, c.if-plate-gt64-2.false);
    }

pub returns-then-not-used_sound : goal.returns-then-not-used_sound
returns-then-not-used_sound c =
    let p = c.requires in
    fails (λ s. c.used_sound.ensures.no_is c.if-not-used_sound.true (used-part _ _ _ _ _ p.rows_len p.profile_len s))

pub returns-then-not-zero_from : goal.returns-then-not-zero_from
returns-then-not-zero_from c =
    let p = c.requires in
    fails (λ s. c.zero_from.ensures.no_is c.if-not-zero_from.true (rows-part _ _ _ _ _ p.rows_len p.profile_len s _ (omega (arith, c.if-plate-gt64-2.false))))

pub returns : goal.returns
returns c =
    let p = c.requires in
    alike
    (λ e. sound-parts _ _ _ _ _ p.rows_len p.profile_len (omega (arith, c.if-plate-eq0.false)) c.if-plate-gt64.false c.if-plate-gt64-2.false
    (not_beyond (c.reaches.ensures.no_is c.if-reaches.false)) (c.used_sound.ensures.yes_is c.if-not-used_sound.false)
    (c.zero_from.ensures.yes_is c.if-not-zero_from.false) e)
    (entries-part _ _ _ _ _ p.rows_len p.profile_len) c.zero_from-2.ensures
