-- `exports::sheeting::refused_in` meets its contract.
use mathlib.Core.Path.{ap}
use Rattle.exports.specs.Sheeting.{place_put}
use Rattle.plates.specs.declared.Entry.{Entry}
use Rattle.exports.proofs.sheeting.refused_in.Goals as goal

pub returns : goal.returns
returns c =
    record {
      number_is = ap (λ (e : Entry). e.number) c.refusal_entry-entry.ensures;
      place_is = ap (λ (e : Entry). place_put c.args.at.now e.place e.field) c.refusal_entry-entry.ensures;
    }
