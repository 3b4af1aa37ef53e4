-- `listed::branch_in` meets its contract.
use borrow.Author.Tests.{le-ltb, lt-ltb}
use native.Mathlib.Omega.{arith}
use Rattle.sheets.proofs.listed.branch_in.Goals as goal

pub returns-then-n-branch : goal.returns-then-n-branch
returns-then-n-branch c = rw (le-ltb c.args.branch.depth c.args.n c.if-n-branch.true)

pub returns-then-branch-ge1024 : goal.returns-then-branch-ge1024
returns-then-branch-ge1024 c =
    rw (lt-ltb c.args.branch.depth c.args.n (omega (arith, c.if-n-branch.false)), le-ltb c.args.branch.from (1024) c.if-branch-ge1024.true)

pub returns-then-branch-ge2 : goal.returns-then-branch-ge2
returns-then-branch-ge2 c =
    rw (lt-ltb c.args.branch.depth c.args.n (omega (arith, c.if-n-branch.false)), lt-ltb c.args.branch.from (1024) (omega (arith, c.if-branch-ge1024.false)), le-ltb c.args.branch.bit (2) c.if-branch-ge2.true)

pub returns-then-branch-ge1024-2 : goal.returns-then-branch-ge1024-2
returns-then-branch-ge1024-2 c =
    rw (lt-ltb c.args.branch.depth c.args.n (omega (arith, c.if-n-branch.false)), lt-ltb c.args.branch.from (1024) (omega (arith, c.if-branch-ge1024.false)), lt-ltb c.args.branch.bit (2) (omega (arith, c.if-branch-ge2.false)), le-ltb c.args.branch.to (1024) c.if-branch-ge1024-2.true)

pub returns : goal.returns
returns c =
    rw (lt-ltb c.args.branch.depth c.args.n (omega (arith, c.if-n-branch.false)), lt-ltb c.args.branch.from (1024) (omega (arith, c.if-branch-ge1024.false)), lt-ltb c.args.branch.bit (2) (omega (arith, c.if-branch-ge2.false)), lt-ltb c.args.branch.to (1024) (omega (arith, c.if-branch-ge1024-2.false)))
