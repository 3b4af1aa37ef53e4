-- `decoding::samples::is_over` meets its contract.
use borrow.Author.Tests.{ltb-false, ltb-true}
use lib.IntN.{nat_abs}
use mathlib.Core.Path.{ap, ◌∙◌, ◌≡◌}
use mir.Facts.{to_z-of_z}
use Rattle.decoding.specs.Metric.{limit}
use Rattle.decoding.proofs.samples.is_over.Goals as goal

pub returns : goal.returns
returns c =
    let e : c.unsigned_abs.result ≡ nat_abs c.args.sample = c.unsigned_abs.ensures.value ∙ ap nat_abs (to_z-of_z c.ranges.sample) in
    record {
      yes_is = λ f. rw e at (ltb-true limit c.unsigned_abs.result f);
      no_is = λ f. rw e at (ltb-false limit c.unsigned_abs.result f);
    }
