-- `patterns::turned` meets its contract.
use mathlib.Core.Path.{◌∙◌, sym}
use Rattle.decoding.proofs.Parities.{kept, turned-over}
use Rattle.decoding.proofs.patterns.turned.Goals as goal

pub returns-then-parity_with-eq0 : goal.returns-then-parity_with-eq0
returns-then-parity_with-eq0 c =
    kept c.args.pattern c.args.column c.args.first c.requires
    (sym c.parity_with.ensures ∙ c.if-parity_with-eq0.true)

pub returns : goal.returns
returns c =
    turned-over c.args.pattern c.args.column c.args.first c.requires
    (λ e. c.if-parity_with-eq0.false (c.parity_with.ensures ∙ e))
