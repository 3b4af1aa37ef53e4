-- `read_block` meets its contract.
use mathlib.Core.Path.{◌∙◌, sym}
use native.Mathlib.Omega.{arith}
use Prim.Native.Nat.{◌-◌}
use Rattle.sheets.proofs.BlockPlaces.{counted-there, placed-there, room-stays}
use Rattle.sheets.specs.Blocks.{block_at}
use Rattle.sheets.proofs.read_block.Goals as goal

pub returns-in_default : goal.returns-in_default
returns-in_default c =
    let e = sym c.in_default.is ∙ c.block_at-reply.ensures.reply in
    record { reply = e; samples = room-stays c.args.order (block_at c.args.heard c.args.input.now c.args.at) _ _ e }

pub overflow_sub-end : goal.overflow_sub-end
overflow_sub-end c =
    let p = c.block_at-reply.ensures.place _ _ c.in-Some.is in
    omega arith

pub slice_bounds-place_samples-count : goal.slice_bounds-place_samples-count
slice_bounds-place_samples-count c =
    let p = c.block_at-reply.ensures.place _ _ c.in-Some.is in
    omega arith

pub place_samples-requires : goal.place_samples-requires
place_samples-requires c =
    let a = c.args in
    let b = c.block_at-reply.ensures in
    let p = b.place c.in-Some.field-0.samples c.in-Some.field-0.next c.in-Some.is in
    counted-there a.heard a.input.now a.at (c.in-Some.field-0.next - 1) (omega arith) p.until (λ q. omega arith) c.in-Some.field-0.samples c.in-Some.field-0.next (sym c.in-Some.is ∙ b.reply)

pub returns : goal.returns
returns c =
    let a = c.args in
    let s = a.input.now in
    let k = c.in-Some.field-0.samples in
    let next = c.in-Some.field-0.next in
    let p = c.block_at-reply.ensures.place k next c.in-Some.is in
    let e = sym c.in-Some.is ∙ c.block_at-reply.ensures.reply in
    record {
      reply = e;
      samples = placed-there a.heard s a.at (next - 1) (omega arith) p.until (λ q. omega arith) k next e a.order a.room.now _ c.place_samples.ensures;
    }
