-- `verdicts::judged` meets its contract.
use Rattle.judging.proofs.JudgingCalls.{cleared-of, filled-ready, judged-to, surplus-for, told-asks}
use Rattle.judging.proofs.CleanLines.{all-in-range}
use Rattle.judging.proofs.verdicts.judged.Goals as goal

pub fill-requires : goal.fill-requires
fill-requires c =
    let p = c.requires in
    record {
      room_len = p.size;
      all_in_range = all-in-range p.clean;
    }

pub tell_all-requires : goal.tell_all-requires
tell_all-requires c = filled-ready c.requires _ c.fill.ensures.stored c.fill.ensures.room_len_unchanged

pub verdict-found-requires : goal.verdict-found-requires
verdict-found-requires c = told-asks c.requires _ c.fill.ensures.stored c.fill.ensures.room_len_unchanged _ c.tell_all.ensures

pub mark_all-requires : goal.mark_all-requires
mark_all-requires c =
    let p = c.requires in
    let f = c.fill.ensures in
    let t = c.tell_all.ensures in
    let h = (told-asks p _ f.stored f.room_len_unchanged _ t).ready.holds in
    (h.size, h.few)

pub with_surplus-reply-requires : goal.with_surplus-reply-requires
with_surplus-reply-requires c =
    let p = c.requires in
    let f = c.fill.ensures in
    let t = c.tell_all.ensures in
    surplus-for p _ f.stored f.room_len_unchanged _ t _ c.mark_all.ensures.all_marked c.verdict-found.result c.verdict-found.ensures

pub returns : goal.returns
returns c =
    let p = c.requires in
    let f = c.fill.ensures in
    let t = c.tell_all.ensures in
    let m = c.mark_all.ensures.all_marked in
    let v = c.verdict-found in
    record {
      judged_to = judged-to p _ f.stored f.room_len_unchanged _ t _ m v.result v.ensures c.with_surplus-reply.result c.with_surplus-reply.ensures;
      room_after = cleared-of p _ f.stored f.room_len_unchanged _ t _ m v.result v.ensures _ (c.fill-2.ensures.after (λ y e. e));
    }
