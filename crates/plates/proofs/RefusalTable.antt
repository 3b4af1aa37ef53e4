-- The table of refusals: what it says of a refusal that is known to be of a case.
use mathlib.Core.Path.{ap, sym, ◌∙◌, ◌≡◌}
use Rattle.plates.specs.declared.Entry.{Entry}
use Rattle.plates.specs.declared.Refusal.{Refusal}
use Rattle.plates.specs.Refusals.{entry_of}

pub tells : {q q' : Refusal} {r : Entry} → q ≡ q' → r ≡ entry_of q' → r ≡ entry_of q
tells e f = f ∙ sym (ap entry_of e)
