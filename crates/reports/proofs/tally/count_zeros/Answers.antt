-- `tally::count_zeros` meets its contract.
use Rattle.std.proofs.Common.{◌≡◌, ◌∙◌, int_eq, pos, count_by, rules}
use Rattle.reports.proofs.TallyCounts.{zeros-counted}
use Rattle.reports.proofs.tally.count_zeros.Goals as goal

pub returns : goal.returns
returns c =
    let e : c.count.result ≡ count_by (λ x. int_eq x (pos 0)) c.args.samples.now = search rules in
    e ∙ zeros-counted c.args.samples.now
