-- `body::read_blocks` meets its contract.
use native.Mathlib.Omega.{arith}
use Rattle.sheets.proofs.BlockRuns.{block_last, block_on, block-stop}
use Rattle.sheets.proofs.Passing.{pass-start}
use Rattle.sheets.proofs.body.read_blocks.Goals as goal

pub loop-at-init : goal.loop-at-init
loop-at-init c = pass-start _ _ _ c.requires

pub returns-in_default : goal.returns-in_default
returns-in_default c = block-stop _ c.loop-at.invariant c.block_at-reply.result c.block_at-reply.ensures c.in_default.is

pub loop-at-smaller : goal.loop-at-smaller
loop-at-smaller c =
    let p = c.block_at-reply.ensures.place _ _ c.in-Some.is in
    omega arith

pub loop-at-preserved : goal.loop-at-preserved
loop-at-preserved c = block_on _ c.loop-at.invariant c.block_at-reply.result c.block_at-reply.ensures _ _ c.in-Some.is

pub returns : goal.returns
returns c = block_last _ c.loop-at.invariant c.loop-at-test.false
