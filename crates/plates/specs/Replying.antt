-- The reply of a preparing that refuses.
use Rattle.std.specs.Prelude.{Err}
use Rattle.plates.specs.declared.Prepared.{Prepared}
use Rattle.plates.specs.declared.Refusal.{Refusal}
use Rattle.plates.specs.Prepare.{zero_plate}

-- a refusal, with the zero plate beside it
abbrev pub refused_with : Refusal → Prepared
refused_with q = record { verdict = Err q; plate = zero_plate }
