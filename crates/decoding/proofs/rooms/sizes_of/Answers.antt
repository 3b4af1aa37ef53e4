-- `decoding::rooms::sizes_of` meets its contract.
use mathlib.Core.Path.{◌≡◌, ◌∙◌, ap, refl}
use native.Mathlib.Omega.{arith}
use Prim.Native.Nat.{ℕ, max, ◌*◌, ◌/◌, ◌%◌, ◌^◌, ◌<◌}
use Rattle.plates.proofs.SoundIsPrepared.{sound}
use Rattle.decoding.proofs.PlateSizes.{profile-fits, rows-there}
use Rattle.decoding.proofs.Targets.{shifted_one}
use Rattle.decoding.proofs.WidestStates.{widest-most}
use Rattle.decoding.proofs.rooms.sizes_of.Goals as goal

pub rest_of_mask-rest-requires : goal.rest_of_mask-rest-requires
rest_of_mask-rest-requires c = rows-there _ c.requires

pub widest-half-requires : goal.widest-half-requires
widest-half-requires c = omega (arith, (sound c.requires).short, (sound c.requires).entries)

pub overflow_shl-half : goal.overflow_shl-half
overflow_shl-half c =
    omega (arith, c.widest-half.ensures, widest-most c.args.plate.profile.now c.args.plate.n (profile-fits _ c.requires))

pub returns : goal.returns
returns c =
    let w = c.widest-half in
    let small : w.result < 64 = omega (arith, w.ensures, widest-most c.args.plate.profile.now c.args.plate.n (profile-fits _ c.requires)) in
    let half : (1 * 2 ^ w.result) % 2 ^ 64 ≡ 2 ^ w.result = shifted_one w.result small in
    record {
      n_is = refl;
      k_is = refl;
      half_is = half ∙ ap (λ (x : ℕ). 2 ^ x) w.ensures;
      words_is = c.max.ensures ∙ ap (λ (x : ℕ). max 1 (x / 64)) (half ∙ ap (λ (x : ℕ). 2 ^ x) w.ensures);
      rest_is = c.rest_of_mask-rest.ensures;
    }
