-- `decoding::live::leads` meets its contract.
use mathlib.Core.Path.{◌∙◌, ap}
use native.Mathlib.Omega.{arith}
use Prim.Native.Nat.{ℕ}
use Rattle.trellises.specs.Numbers.{without}
use Rattle.decoding.proofs.MarkCounts.{below-few, leads-is}
use Rattle.decoding.proofs.live.leads.Goals as goal

pub target-requires : goal.target-requires
target-requires c =
    omega (arith, c.rows_below.ensures, below-few c.args.active c.args.following c.if-following-eq0.false c.requires)

pub returns : goal.returns
returns c =
    c.target.ensures ∙ ap (λ (e : ℕ). without e c.args.branch) c.rows_below.ensures
    ∙ leads-is c.args.active c.args.following c.if-following-eq0.false c.args.branch
